-- Bytes and words.
use Rattle.std.proofs.Common.{◌≡◌, ℕ, ◌<◌, ◌^◌, List, [], ◌∷◌, length, get_or, refl, ◌∙◌, arith}
use Rattle.std.specs.Int.{w64, from_le_bytes}
use Rattle.std.proofs.lemmas.Nat.{from_le_bytes-to_le_bytes_8, le_bytes_8}
use Rattle.pm_words.specs.Bytes.{word_bytes, word_of}

pub eight_of : (bytes : List ℕ) → length bytes ≡ 8 → word_of bytes ≡ from_le_bytes w64 bytes
eight_of (a ∷ b ∷ c ∷ d ∷ e ∷ f ∷ g ∷ h ∷ []) eight = omega arith
eight_of [] eight = absurd (omega (arith, eight))
eight_of (a ∷ []) eight = absurd (omega (arith, eight))
eight_of (a ∷ b ∷ []) eight = absurd (omega (arith, eight))
eight_of (a ∷ b ∷ c ∷ []) eight = absurd (omega (arith, eight))
eight_of (a ∷ b ∷ c ∷ d ∷ []) eight = absurd (omega (arith, eight))
eight_of (a ∷ b ∷ c ∷ d ∷ e ∷ []) eight = absurd (omega (arith, eight))
eight_of (a ∷ b ∷ c ∷ d ∷ e ∷ f ∷ []) eight = absurd (omega (arith, eight))
eight_of (a ∷ b ∷ c ∷ d ∷ e ∷ f ∷ g ∷ []) eight = absurd (omega (arith, eight))
eight_of (a ∷ b ∷ c ∷ d ∷ e ∷ f ∷ g ∷ h ∷ i ∷ more) eight = absurd (omega (arith, eight))

-- a word is what its bytes spell
pub word_of_bytes : (word : ℕ) → word < 2 ^ 64 → word_of (word_bytes word) ≡ word
word_of_bytes word low = eight_of (word_bytes word) refl ∙ from_le_bytes-to_le_bytes_8 word low

-- eight bytes are those of the word that they spell
pub bytes_word_of : (bytes : List ℕ) → length bytes ≡ 8 → ((i : ℕ) → get_or bytes i 0 < 256) → word_bytes (word_of bytes) ≡ bytes
bytes_word_of bytes eight low = le_bytes_8 bytes (word_of bytes) eight low (eight_of bytes eight)
