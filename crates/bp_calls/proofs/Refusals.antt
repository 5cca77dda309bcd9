-- Whether an inode is free, by a set that has just the free inodes; and a slot that is found.
use Rattle.std.proofs.Common.{◌≡◌, ◌≢◌, ◌⊎◌, ℕ, zero, suc, ◌<◌, ◌≤◌, List, [], ◌∷◌, length, Bool, true, false, ◌==◌, Option, None, Some, refl, sym, ◌∙◌, ap, subst, arith, inl, inr, true≢false}
use Rattle.std.proofs.lemmas.Bool.{cases_Bool, cases_lt, eqb-true}
use Rattle.std.specs.List.{Contains}
use Rattle.bp_changes.specs.Sets.{AreExact}
use Rattle.bp_free.specs.Set.{IsLeast, Set, has, members}
use Rattle.bp_free.proofs.Members.{members_all, members_has}
use Rattle.bp_layout.specs.Directory.{empty_slot, ino_at, entry_count}
use Rattle.bp_layout.specs.Free.{IsFreeInode, IsLeastFree}
use Rattle.bp_layout.specs.Free.IsLeastFree.{some as a_least, none as no_least}
use Rattle.bp_layout.specs.Words.{Image}
use Rattle.bp_layout.proofs.Finding.{Finds, find-passes}
use Rattle.bp_calls.proofs.SetLaws.{in_room}

-- a list that is not empty has a first
first_of : (xs : List ℕ) → xs ≢ [] → (x : ℕ) × Contains xs x
first_of [] some = absurd (some refl)
first_of (x ∷ xs) some = (x, (0, omega arith, refl))

-- so a set with a member has a number
pub some_number : (set : Set) → members set ≢ [] → (i : ℕ) × (has set i ≡ true)
some_number set some = let first = first_of (members set) some in (first.0, members_has set first.0 first.1)

pub no_members : (xs : List ℕ) → length xs ≡ 0 → xs ≡ []
no_members [] none = refl
no_members (x ∷ xs) none = absurd (omega (arith, none))

pub some_members : (xs : List ℕ) → length xs ≢ 0 → xs ≢ []
some_members xs some e = some (ap length e)

-- a set with a number has a member
pub has_members : (set : Set) (i : ℕ) → has set i ≡ true → members set ≢ []
has_members set i is none =
    let there = members_all set i (in_room set i is) is in
    let here = rw none at there in
    omega (arith, here.1)

-- the first number below a bound that is in a set, or none
first_in : (set : ℕ → Bool) (n : ℕ) → ((i : ℕ) × ((set i ≡ true) × ((k : ℕ) → k < i → set k ≡ false))) ⊎ ((k : ℕ) → k < n → set k ≡ false)
first_in set zero = inr (λ k low. absurd (omega (arith, low)))
first_in set (suc n) = go (first_in set n) (cases_Bool (set n))
  where
    Found : Type 0
    Found = (i : ℕ) × ((set i ≡ true) × ((k : ℕ) → k < i → set k ≡ false))

    go : Found ⊎ ((k : ℕ) → k < n → set k ≡ false) → (set n ≡ true) ⊎ (set n ≡ false) → Found ⊎ ((k : ℕ) → k < suc n → set k ≡ false)
    go (inl found) which = inl found
    go (inr none) (inl is) = inl (n, (is, none))
    go (inr none) (inr not) = inr (λ k low. at k (cases_lt k n) low)
      where
        at : (k : ℕ) → (k < n) ⊎ (n ≤ k) → k < suc n → set k ≡ false
        at k (inl less) low = none k less
        at k (inr high) low = let here : k ≡ n = omega (arith, high, low) in subst (λ x. set x ≡ false) (sym here) not

module _ {in_snapshot : ℕ → Bool} (image : Image) (blocks inodes : Set) (exact : AreExact image in_snapshot blocks inodes) where
  -- where the set has a number an inode is free
  pub not_none : members inodes ≢ [] → IsLeastFree image None → ⊥
  not_none some (no_least nobody) = let one = some_number inodes some in nobody one.0 (exact.free_inodes.free one.0 one.1)

  -- and none is where it has none
  pub not_some : members inodes ≡ [] → (i : ℕ) → IsLeastFree image (Some i) → ⊥
  not_some none i (a_least free least) = has_members inodes i (exact.free_inodes.all i free) none

  pub is_none : members inodes ≡ [] → (free : Option ℕ) → IsLeastFree image free → free ≡ None
  is_none none None reported = refl
  is_none none (Some i) reported = absurd (not_some none i reported)

  least_of : (i : ℕ) → (has inodes i ≡ true) × ((k : ℕ) → k < i → has inodes k ≡ false) → IsLeastFree image (Some i)
  least_of i (is, first) = a_least (exact.free_inodes.free i is) (λ j free. go j free (cases_lt j i))
    where
      go : (j : ℕ) → IsFreeInode image j → (j < i) ⊎ (i ≤ j) → i ≤ j
      go j free (inl low) = absurd (true≢false (sym (exact.free_inodes.all j free) ∙ first j low))
      go j free (inr high) = high

  -- the least number of the set is the least free inode, and there is no other
  pub is_least : (i : ℕ) → IsLeast inodes i → (free : Option ℕ) → IsLeastFree image free → free ≡ Some i
  is_least i least None reported = absurd (not_none (has_members inodes i least.is_in) reported)
  is_least i least (Some j) (a_least free most) =
      let low : j ≤ i = most i (exact.free_inodes.free i least.is_in) in
      ap Some (same low (cases_lt j i))
    where
      same : j ≤ i → (j < i) ⊎ (i ≤ j) → j ≡ i
      same low (inl less) = absurd (true≢false (sym (exact.free_inodes.all j free) ∙ least.first j less))
      same low (inr high) = omega (arith, low, high)

  -- so it is reported which is the least
  pub reports : (free : Option ℕ) × IsLeastFree image free
  reports = elim (first_in (has inodes) (length inodes)) [
    | inl (i, found) ↦ (Some i, least_of i found)
    | inr none ↦ (None, no_least (λ i free. true≢false (sym (exact.free_inodes.all i free) ∙ none i (in_room inodes i (exact.free_inodes.all i free)))))
  ]

-- the slot that is found is one of the directory's, and empty
pub found_empty : (image : Image) (i s : ℕ) → empty_slot image i ≡ Some s → (s < entry_count image i) × (ino_at image i s ≡ 0)
found_empty image i s found =
    let passes : Finds (λ slot. ino_at image i slot == 0) 0 (entry_count image i) s = find-passes (λ slot. ino_at image i slot == 0) 0 (entry_count image i) s found in
    (omega (arith, passes.high), eqb-true _ _ passes.passes)
