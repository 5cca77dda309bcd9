-- A word by its bytes, one by one.
use Rattle.std.proofs.Common.{◌≡◌, ℕ, zero, suc, ◌+◌, ◌*◌, ◌/◌, ◌%◌, ◌^◌, ◌<◌, List, [], ◌∷◌, length, slice_index, refl, sym, ◌∙◌, ap, arith, mul_comm, pow-suc}
use Rattle.std.proofs.Math.Nat.{div-div-eq-div-mul}
use Rattle.std.proofs.lemmas.List.{ext_get_or}
use Rattle.pm_words.specs.Bytes.{byte_of, word_bytes, word_of}
use Rattle.pm_words.proofs.Bytes.{word_of_bytes}

-- ---- of the word that some bytes spell

byte-next : (n c : ℕ) → byte_of n (suc c) ≡ byte_of (n / 256) c
byte-next n c = ap (λ m. n / m % 256) (pow-suc 256 c ∙ mul_comm (256 ^ c) 256) ∙ ap (λ q. q % 256) (sym (div-div-eq-div-mul n 256 (256 ^ c)))

pub byte-word_of : (bytes : List ℕ) (c : ℕ) → c < length bytes → ((i : ℕ) → i < length bytes → slice_index bytes i < 256) → byte_of (word_of bytes) c ≡ slice_index bytes c
byte-word_of [] c low small = absurd (omega (arith, low))
byte-word_of (b ∷ bytes) zero low small = let few : b < 256 = small 0 (omega arith) in omega (arith, few)
byte-word_of (b ∷ bytes) (suc c) low small =
    let few : b < 256 = small 0 (omega arith) in
    let rest : (b + 256 * word_of bytes) / 256 ≡ word_of bytes = omega (arith, few) in
    byte-next (b + 256 * word_of bytes) c ∙ ap (λ n. byte_of n c) rest ∙ byte-word_of bytes c (omega (arith, low)) (λ i here. small (suc i) (omega (arith, here)))

-- ---- of a word that is there

pub byte-word_bytes : (word c : ℕ) → c < 8 → slice_index (word_bytes word) c ≡ byte_of word c
byte-word_bytes word zero low = omega arith
byte-word_bytes word (suc zero) low = refl
byte-word_bytes word (suc (suc zero)) low = refl
byte-word_bytes word (suc (suc (suc zero))) low = refl
byte-word_bytes word (suc (suc (suc (suc zero)))) low = refl
byte-word_bytes word (suc (suc (suc (suc (suc zero))))) low = refl
byte-word_bytes word (suc (suc (suc (suc (suc (suc zero)))))) low = refl
byte-word_bytes word (suc (suc (suc (suc (suc (suc (suc zero))))))) low = refl
byte-word_bytes word (suc (suc (suc (suc (suc (suc (suc (suc c)))))))) low = absurd (omega (arith, low))

-- a word that has the bytes of a list is the one that they spell
pub word_reported : (word : ℕ) (bytes : List ℕ) → word < 2 ^ 64 → length bytes ≡ 8 → ((c : ℕ) → c < 8 → byte_of word c ≡ slice_index bytes c) → word ≡ word_of bytes
word_reported word bytes low eight reports =
    sym (word_of_bytes word low) ∙ ap word_of (ext_get_or 0 (word_bytes word) bytes (sym eight) (λ i few. byte-word_bytes word i few ∙ reports i few))

-- and one that has the bytes of another one is that
pub same_word : (one other : ℕ) → one < 2 ^ 64 → other < 2 ^ 64 → ((c : ℕ) → c < 8 → byte_of one c ≡ byte_of other c) → one ≡ other
same_word one other low small same = word_reported one (word_bytes other) low refl (λ c few. same c few ∙ sym (byte-word_bytes other c few)) ∙ word_of_bytes other small
