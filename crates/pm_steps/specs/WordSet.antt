-- A set of words, as the list of those that were noted.
use Rattle.std.specs.Prelude.{◌≡◌, ℕ, ◌%◌, ◌<◌, ◌≤◌, ◌==◌, Bool, List, length, slice_index}
use Rattle.std.specs.List.{list_any}

-- The words that were noted, the last one last, and the number of words that there is memory for.
pub record Noted : Type 0 where
  pub words : List ℕ
  pub room : ℕ

-- Whether a word is among these.
abbrev pub is_noted : List ℕ → ℕ → Bool
is_noted words word = list_any (λ other. other == word) words

-- The entry is the index of the last word below a bound that leaves this remainder, if there is one.
abbrev pub IsLastWord : List ℕ → ℕ → ℕ → ℕ → ℕ → Type 0
IsLastWord words divisor remainder bound entry =
    (k : ℕ) → k < bound → slice_index words k % divisor ≡ remainder →
    (k ≤ entry) × (entry < bound) × (slice_index words entry % divisor ≡ remainder)

-- The number of remainders by which words are found.
abbrev pub remainders : ℕ
remainders = 16384

-- For each remainder the last entry that leaves it, and for each entry the one before it with the same remainder, where
-- these exist.
pub record IsLinked (words before heads : List ℕ) : Type 0 where
  pub sized : length heads ≡ remainders
  pub each : length before ≡ length words
  pub heads_last : (remainder : ℕ) → remainder < length heads →
      IsLastWord words (length heads) remainder (length words) (slice_index heads remainder)
  pub before_last : (i : ℕ) → i < length words →
      IsLastWord words (length heads) (slice_index words i % length heads) i (slice_index before i)
