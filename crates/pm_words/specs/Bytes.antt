-- A word of 64 bits as eight bytes, the lowest first.
use Rattle.std.specs.Prelude.{ℕ, ◌+◌, ◌*◌, ◌/◌, ◌%◌, ◌^◌, List, [], ◌∷◌}

-- The bytes of a word, the lowest first.
abbrev pub word_bytes : ℕ → List ℕ
word_bytes word = word % 256 ∷ word / 256 % 256 ∷ word / 256 ^ 2 % 256 ∷ word / 256 ^ 3 % 256 ∷ word / 256 ^ 4 % 256
    ∷ word / 256 ^ 5 % 256 ∷ word / 256 ^ 6 % 256 ∷ word / 256 ^ 7 % 256 ∷ []

-- The number that bytes are the digits of in base 256, the lowest first.
abbrev pub word_of : List ℕ → ℕ
word_of [] = 0
word_of (byte ∷ bytes) = byte + 256 * word_of bytes

-- A byte of a word, counted from the lowest.
abbrev pub byte_of : ℕ → ℕ → ℕ
byte_of value index = value / 256 ^ index % 256
