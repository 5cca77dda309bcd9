-- The bytes of a word that is made of eight of them, and the number that bytes spell.
use Rattle.std.proofs.Common.{◌≡◌, ℕ, zero, suc, ◌+◌, ◌*◌, ◌/◌, ◌%◌, ◌^◌, ◌<◌, List, [], ◌∷◌, length, slice_index, get_or, refl, sym, ◌∙◌, ap, arith, pow-suc}
use Rattle.std.specs.Int.{w64, to_le_bytes}
use Rattle.std.proofs.Math.Nat.{div-div-eq-div-mul, pow-succ', zero-div}
use Rattle.std.proofs.Math.Arith.{mod-mul}
use Rattle.bp_layout.specs.Words.{byte_of}
use Rattle.pm_words.specs.Bytes.{word_of}

pub to_le-byte : (n c : ℕ) → c < 8 → get_or (to_le_bytes w64 n) c 0 ≡ byte_of n c
to_le-byte n zero low = omega arith
to_le-byte n (suc zero) low = refl
to_le-byte n (suc (suc zero)) low = refl
to_le-byte n (suc (suc (suc zero))) low = refl
to_le-byte n (suc (suc (suc (suc zero)))) low = refl
to_le-byte n (suc (suc (suc (suc (suc zero))))) low = refl
to_le-byte n (suc (suc (suc (suc (suc (suc zero)))))) low = refl
to_le-byte n (suc (suc (suc (suc (suc (suc (suc zero))))))) low = refl
to_le-byte n (suc (suc (suc (suc (suc (suc (suc (suc c)))))))) low = absurd (omega (arith, low))

positive : (n : ℕ) → 0 < 256 ^ n
positive zero = omega arith
positive (suc n) = rw pow-suc (omega (arith, positive n))

-- a word by its lowest byte and the rest
parted : (w n : ℕ) → w % 256 ^ suc n ≡ w / 256 % 256 ^ n * 256 + w % 256
parted w n = rw pow-suc (mod-mul w {m = 256 ^ n} {c = 256} (positive n) (omega arith))

further : (w o : ℕ) → byte_of (w / 256) o ≡ byte_of w (suc o)
further w o = ap (λ n. n % 256) (div-div-eq-div-mul w 256 (256 ^ o) ∙ ap (λ n. w / n) (sym (pow-succ' 256 o)))

lowest : (w : ℕ) → byte_of w 0 ≡ w % 256
lowest w = let whole : w / 256 ^ 0 ≡ w = omega arith in ap (λ n. n % 256) whole

-- a word whose lowest bytes are these has the number that they spell
pub spelled : (w : ℕ) (bytes : List ℕ) → ((o : ℕ) → o < length bytes → byte_of w o ≡ slice_index bytes o) → w % 256 ^ length bytes ≡ word_of bytes
spelled w [] same = omega arith
spelled w (b ∷ bytes) same =
    let rest : w / 256 % 256 ^ length bytes ≡ word_of bytes = spelled (w / 256) bytes (λ o h. further w o ∙ same (suc o) (omega (arith, h))) in
    let first : w % 256 ≡ b = sym (lowest w) ∙ same 0 (omega arith) in
    parted w (length bytes) ∙ omega (arith, rest, first)

-- and the other way round
pub read_back : (w : ℕ) (bytes : List ℕ) → ((o : ℕ) → slice_index bytes o < 256) → w % 256 ^ length bytes ≡ word_of bytes →
    (o : ℕ) → o < length bytes → byte_of w o ≡ slice_index bytes o
read_back w [] small is o within = absurd (omega (arith, within))
read_back w (b ∷ bytes) small is zero within =
    let e : w / 256 % 256 ^ length bytes * 256 + w % 256 ≡ b + 256 * word_of bytes = sym (parted w (length bytes)) ∙ is in
    let low : b < 256 = small 0 in
    lowest w ∙ omega (arith, e, low)
read_back w (b ∷ bytes) small is (suc o) within =
    let e : w / 256 % 256 ^ length bytes * 256 + w % 256 ≡ b + 256 * word_of bytes = sym (parted w (length bytes)) ∙ is in
    let low : b < 256 = small 0 in
    let rest : w / 256 % 256 ^ length bytes ≡ word_of bytes = omega (arith, e, low) in
    sym (further w o) ∙ read_back (w / 256) bytes (λ k. small (suc k)) rest o (omega (arith, within))

-- the bytes of the number that bytes spell, with zeros after them
pub byte_of-spelled : (bytes : List ℕ) → ((o : ℕ) → slice_index bytes o < 256) → (o : ℕ) → byte_of (word_of bytes) o ≡ slice_index bytes o
byte_of-spelled [] small o = ap (λ n. n % 256) (zero-div (256 ^ o))
byte_of-spelled (b ∷ bytes) small zero =
    let low : b < 256 = small 0 in
    lowest (word_of (b ∷ bytes)) ∙ omega (arith, low)
byte_of-spelled (b ∷ bytes) small (suc o) =
    let low : b < 256 = small 0 in
    let rest : (b + 256 * word_of bytes) / 256 ≡ word_of bytes = omega (arith, low) in
    sym (further (word_of (b ∷ bytes)) o) ∙ ap (λ w. byte_of w o) rest ∙ byte_of-spelled bytes (λ k. small (suc k)) o
