-- The part of a text that a sink took.
use Rattle.std.specs.Prelude.{ℕ, ◌<◌, List, Option, length, take}
use Rattle.std.specs.Io.KnownBytes.{Appends}

-- The sink took a proper prefix of the text.
abbrev pub TakesPart : List ℕ → Option (List ℕ) → Option (List ℕ) → Type 0
TakesPart text taken now = (count : ℕ) × (count < length text) × Appends taken now (take count text)
