-- A set of numbers below a bound: for each number, whether it is a member.
use Rattle.std.specs.Prelude.{◌≡◌, ◌≢◌, ◌∷◌, ℕ, ◌+◌, ◌-◌, ◌<◌, ◌≤◌, List, length, Bool, true, false, not, filter, slice_index_or, slice_set, replicate}
use Rattle.std.specs.List.{range_with_len}

abbrev pub Set : Type 0
Set = List Bool

-- Whether a number is a member. No number from the bound on is.
abbrev pub has : Set → ℕ → Bool
has set i = slice_index_or set i false

-- The members, in increasing order.
abbrev pub members : Set → List ℕ
members set = filter (has set) (range_with_len 0 (length set))

-- The members below i.
abbrev pub below : Set → ℕ → List ℕ
below set i = filter (has set) (range_with_len 0 i)

-- The members above i.
abbrev pub members_above : Set → ℕ → List ℕ
members_above set i = filter (has set) (range_with_len (i + 1) (length set - (i + 1)))

-- The set without i, and otherwise the same.
abbrev pub without : Set → ℕ → Set
without set i = slice_set set i false

-- The set with i, and otherwise the same.
abbrev pub with : Set → ℕ → Set
with set i = slice_set set i true

-- The empty set with this bound.
abbrev pub empty : ℕ → Set
empty room = replicate room false

-- i is the least member.
pub record IsLeast (set : Set) (i : ℕ) : Type 0 where
  pub low : i < length set
  pub is_in : has set i ≡ true
  pub first : (k : ℕ) → k < i → has set k ≡ false

-- i is removed from a set, which is given by a test of each number.
pub record TakesNumber (old new : ℕ → Bool) (i : ℕ) : Type 0 where
  pub was : old i ≡ true
  pub gone : new i ≡ false
  pub others : (k : ℕ) → k ≢ i → new k ≡ old k

-- i was the least member of the set, and only it was removed.
pub record TakesLeast (old new : Set) (i : ℕ) : Type 0 where
  pub least : IsLeast old i
  pub rest : new ≡ without old i
  pub taken : TakesNumber (has old) (has new) i
  pub first : members old ≡ i ∷ members new
  pub count : length (members new) + 1 ≡ length (members old)
  pub size : length new ≡ length old

-- Only i was removed from the set.
pub record TakesOne (old new : Set) (i : ℕ) : Type 0 where
  pub taken : TakesNumber (has old) (has new) i
  pub count : length (members new) + 1 ≡ length (members old)
  pub size : length new ≡ length old

-- The numbers from one number up to another are added, and no others.
pub record Fills (from to : ℕ) (old new : Set) : Type 0 where
  pub room : length new ≡ length old
  pub inside : (k : ℕ) → from ≤ k → k < to → has new k ≡ true
  pub below : (k : ℕ) → k < from → has new k ≡ has old k
  pub above : (k : ℕ) → to ≤ k → has new k ≡ has old k

-- The new set has the numbers below the bound that another set lacks, and no others.
pub record IsComplement (other new : Set) : Type 0 where
  pub room : length new ≡ length other
  pub each : (i : ℕ) → i < length other → has new i ≡ not (has other i)
