-- A set in words of 64 bits, of which bit 0 is the least number.
use Rattle.std.specs.Prelude.{◌≡◌, ◌≢◌, ℕ, ◌+◌, ◌-◌, ◌*◌, ◌/◌, ◌%◌, ◌^◌, ◌<◌, ◌≤◌, List, length, map, Bool, true, false, not, eqb, slice_index}
use Rattle.std.specs.Int.{bit_at}
use Rattle.std.specs.List.{range_with_len}
use Rattle.bp_free.specs.Set.{Set, has, members, without}

-- Whether number i is in these words.
unfoldable pub word_has : List ℕ → ℕ → Bool
word_has words i = eqb (bit_at (slice_index words (i / 64)) (i % 64)) 1

-- The set with this bound in these words.
unfoldable pub set_in : List ℕ → ℕ → Set
set_in words room = map (word_has words) (range_with_len 0 room)

-- There is a word for each number below the bound, and no number from the bound on is a member.
pub record HoldRoom (words : List ℕ) (room : ℕ) : Type 0 where
  pub fits : room < 2 ^ 64
  pub long : room ≤ 64 * length words
  pub short : 64 * length words < room + 64
  pub beyond : (i : ℕ) → room ≤ i → word_has words i ≡ false

-- The position of the lowest bit of a word that is set.
pub record IsLowestBit (word bit : ℕ) : Type 0 where
  pub low : bit < 64
  pub is_set : bit_at word bit ≡ 1
  pub first : (k : ℕ) → k < bit → bit_at word k ≡ 0

-- The lowest `count` bits of a word are inverted, and no other bit is set.
pub record IsTurnedOver (word count new : ℕ) : Type 0 where
  pub low : (k : ℕ) → k < count → bit_at new k ≡ 1 - bit_at word k
  pub high : (k : ℕ) → count ≤ k → bit_at new k ≡ 0

-- i is the least member of its word.
pub record IsLeastInWord (set : Set) (word i : ℕ) : Type 0 where
  pub low : i < length set
  pub place : i / 64 ≡ word
  pub is_in : has set i ≡ true
  pub first : (k : ℕ) → k / 64 ≡ word → k < i → has set k ≡ false

-- No number of that word is a member.
abbrev pub IsEmptyWord : Set → ℕ → Type 0
IsEmptyWord set word = (k : ℕ) → k / 64 ≡ word → has set k ≡ false

-- No word of 64 numbers before this one has a member.
abbrev pub IsEmptyBelow : Set → ℕ → Type 0
IsEmptyBelow set word = (k : ℕ) → k / 64 < word → has set k ≡ false

-- Whether a word is empty. If it is not, it has a member.
abbrev pub ReportsEmpty : Set → ℕ → Bool → Type 0
ReportsEmpty set word true = IsEmptyWord set word
ReportsEmpty set word false = (k : ℕ) × (k / 64 ≡ word) × (has set k ≡ true)

-- Whether no other number of i's word is a member.
abbrev pub ReportsAlone : Set → ℕ → Bool → Type 0
ReportsAlone set i alone = ReportsEmpty (without set i) (i / 64) alone

-- A word has the numbers that another set lacks, and the other words are as before.
pub record ComplementsWord (other old new : Set) (word : ℕ) : Type 0 where
  pub room : length new ≡ length old
  pub inside : (i : ℕ) → i < length old → i / 64 ≡ word → has new i ≡ not (has other i)
  pub others : (i : ℕ) → i / 64 ≢ word → has new i ≡ has old i

-- The words that are not empty are the members of `used`.
pub record IsSummary (set used : Set) : Type 0 where
  pub room : length used ≡ (length set + 63) / 64
  pub all : (i : ℕ) → has set i ≡ true → has used (i / 64) ≡ true
  pub some : (word : ℕ) → has used word ≡ true → (i : ℕ) × (i / 64 ≡ word) × (has set i ≡ true)

-- The count is that of the members, and the summary is right. Each number fits 32 bits.
pub record IsCounted (set used : Set) (count : ℕ) : Type 0 where
  pub number : count ≡ length (members set)
  pub fits : length set ≤ 2 ^ 32
  pub summary : IsSummary set used

-- The set also has no number from the bound of its kind on.
pub record IsCountedBelow (bound : ℕ) (set used : Set) (count : ℕ) : Type 0 where
  pub counted : IsCounted set used count
  pub low : length set ≤ bound
