-- Words of the volume, as C gets them.
use Rattle.std.specs.Prelude.{◌≡◌, ◌≤◌, ◌<◌, ◌+◌, ◌⊎◌, ℕ, List, length, slice_range}

-- The words from index `first` on fill the caller's array, if the volume has that many; else the number is 38, and
-- the array keeps its contents.
abbrev pub CopiesWords : List ℕ → ℕ → List ℕ → ℕ → List ℕ → Type 0
CopiesWords words first old code new =
    ((first + length old ≤ length words) × (code ≡ 0) × (new ≡ slice_range words first (first + length old)))
    ⊎ ((length words < first + length old) × (code ≡ 38) × (new ≡ old))
