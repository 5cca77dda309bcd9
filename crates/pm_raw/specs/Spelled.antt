-- The words that bytes encode.
use Rattle.std.specs.Prelude.{ℕ, zero, suc, List, [], ◌∷◌, take, drop}
use Rattle.pm_words.specs.Bytes.{word_of}

-- The first `count` words that bytes encode, each from eight bytes, the lowest byte first.
abbrev pub spelled_words : ℕ → List ℕ → List ℕ
spelled_words zero bytes = []
spelled_words (suc count) bytes = word_of (take 8 bytes) ∷ spelled_words count (drop 8 bytes)
