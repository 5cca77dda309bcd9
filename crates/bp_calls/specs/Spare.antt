-- The words of an image that nothing reads.
use Rattle.std.specs.Prelude.{ℕ}
use Rattle.bp_changes.specs.Harmless.{IsHarmless}
use Rattle.bp_layout.specs.Words.{Image}

-- Any value may be at this place.
abbrev pub IsSpare : Image → ℕ → Type 0
IsSpare image place = (value : ℕ) → IsHarmless image place value
