-- Bytes and the words that they spell.
use Rattle.std.proofs.Common.{◌≡◌, ℕ, zero, suc, ◌+◌, ◌*◌, ◌<◌, ◌≤◌, ◌^◌, List, [], ◌∷◌, ◌++◌, length, take, drop, get_or, refl, ◌∙◌, ap, arith, lit<, get_or-drop, length-drop, length-take}
use Rattle.std.proofs.Math.Nat.{pow-suc}
use Rattle.std.proofs.Math.Seq.{drop-drop, take-add}
use Rattle.std.specs.Prelude.{flat_map}
use Rattle.pm_words.specs.Bytes.{word_bytes, word_of}
use Rattle.pm_words.proofs.Bytes.{bytes_word_of}
use Rattle.pm_raw.specs.Spelled.{spelled_words}

-- one more word
pub spelled_more : (k : ℕ) (bytes : List ℕ) → spelled_words (k + 1) bytes ≡ spelled_words k bytes ++ word_of (take 8 (drop (8 * k) bytes)) ∷ []
spelled_more zero bytes = refl
spelled_more (suc k) bytes =
    let next : suc k + 1 ≡ suc (k + 1) = omega arith in
    let place : 8 * suc k ≡ 8 + 8 * k = omega arith in
    rw (next, place, ← drop-drop (8 * k) 8 bytes) (ap (λ l. word_of (take 8 bytes) ∷ l) (spelled_more k (drop 8 bytes)))

pub length-spelled_words : (k : ℕ) (bytes : List ℕ) → length (spelled_words k bytes) ≡ k
length-spelled_words zero bytes = refl
length-spelled_words (suc k) bytes = ap suc (length-spelled_words k (drop 8 bytes))

-- ---- bytes, each below 256

abbrev pub AreSmall : List ℕ → Type 0
AreSmall bytes = (i : ℕ) → get_or bytes i 0 < 256

small_prefix : (n : ℕ) (bytes : List ℕ) → AreSmall bytes → AreSmall (take n bytes)
small_prefix zero bytes small i = lit< tt
small_prefix (suc n) [] small i = lit< tt
small_prefix (suc n) (b ∷ bytes) small zero = small 0
small_prefix (suc n) (b ∷ bytes) small (suc i) = small_prefix n bytes (λ k. small (suc k)) i

small_rest : (n : ℕ) (bytes : List ℕ) → AreSmall bytes → AreSmall (drop n bytes)
small_rest n bytes small i = rw (get_or-drop n bytes i 0) (small (n + i))

-- the words spell the bytes
pub bytes_of_spelled : (k : ℕ) (bytes : List ℕ) → 8 * k ≤ length bytes → AreSmall bytes → flat_map word_bytes (spelled_words k bytes) ≡ take (8 * k) bytes
bytes_of_spelled zero bytes low small = refl
bytes_of_spelled (suc k) bytes low small =
    let place : 8 * suc k ≡ 8 + 8 * k = omega arith in
    let eight : length (take 8 bytes) ≡ 8 = omega (arith, length-take 8 bytes) in
    let first = bytes_word_of (take 8 bytes) eight (small_prefix 8 bytes small) in
    let rest = bytes_of_spelled k (drop 8 bytes) (omega (arith, length-drop 8 bytes)) (small_rest 8 bytes small) in
    rw (place, take-add 8 (8 * k) bytes) (ap (λ l. l ++ flat_map word_bytes (spelled_words k (drop 8 bytes))) first ∙ ap (λ l. take 8 bytes ++ l) rest)

spelled_below : (n : ℕ) (bytes : List ℕ) → AreSmall bytes → word_of (take n bytes) < 256 ^ n
spelled_below zero bytes small = lit< tt
spelled_below (suc n) [] small = rw (pow-suc 256 n) (omega (arith, spelled_below n [] small))
spelled_below (suc n) (b ∷ bytes) small = rw (pow-suc 256 n) (omega (arith, small 0, spelled_below n bytes (λ i. small (suc i))))

-- each of them is a word of 64 bits
pub spelled_fit : (k : ℕ) (bytes : List ℕ) → AreSmall bytes → (i : ℕ) → get_or (spelled_words k bytes) i 0 < 2 ^ 64
spelled_fit zero bytes small i = lit< tt
spelled_fit (suc k) bytes small zero = spelled_below 8 bytes small
spelled_fit (suc k) bytes small (suc i) = spelled_fit k (drop 8 bytes) (small_rest 8 bytes small) i
