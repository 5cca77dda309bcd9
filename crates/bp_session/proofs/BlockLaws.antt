-- The bytes of an image, word by word.
use Rattle.std.proofs.Common.{zero, suc, refl, sym, ◌∙◌, ap, arith, ◌≡◌, ℕ, ◌+◌, ◌*◌, ◌-◌, ◌<◌, ◌≤◌, List, [], ◌∷◌, ◌++◌, min, length, take, drop, get_or, get_or-drop, length-drop}
use Rattle.std.proofs.Math.Seq.{take-suc, take-add}
use Rattle.bp_io.specs.Files.{blocks_of}
use Rattle.bp_layout.specs.Words.{Image}
use Rattle.bp_layout.specs.Bytes.{image_bytes}
use Rattle.pm_words.specs.Bytes.{word_bytes, word_of}
use Rattle.pm_words.proofs.Bytes.{word_of_bytes}
use Rattle.bp_session.specs.Files.{AreWordsOf64Bits}

pub length-image_bytes : (image : Image) → length (image_bytes image) ≡ 8 * length image
unfolding image_bytes
length-image_bytes [] = refl
length-image_bytes (word ∷ image) = let rest = length-image_bytes image in omega (arith, rest)

eight_more : (n : ℕ) → 8 * suc n ≡ suc (suc (suc (suc (suc (suc (suc (suc (8 * n))))))))
eight_more n = omega arith

pub drop-image_bytes : (n : ℕ) (image : Image) → drop (8 * n) (image_bytes image) ≡ image_bytes (drop n image)
unfolding image_bytes
drop-image_bytes zero image = refl
drop-image_bytes (suc n) [] = rw (eight_more n) refl
drop-image_bytes (suc n) (word ∷ image) = rw (eight_more n) (drop-image_bytes n image)

pub take-image_bytes : (n : ℕ) (image : Image) → take (8 * n) (image_bytes image) ≡ image_bytes (take n image)
unfolding image_bytes
take-image_bytes zero image = refl
take-image_bytes (suc n) [] = rw (eight_more n) refl
take-image_bytes (suc n) (word ∷ image) = rw (eight_more n) (ap (λ l. word_bytes word ++ l) (take-image_bytes n image))

pub image_bytes-append : (first second : Image) → image_bytes (first ++ second) ≡ image_bytes first ++ image_bytes second
unfolding image_bytes
image_bytes-append [] second = refl
image_bytes-append (word ∷ first) second = ap (λ l. word_bytes word ++ l) (image_bytes-append first second)

pub image_bytes-one : (word : ℕ) → image_bytes (word ∷ []) ≡ word_bytes word
unfolding image_bytes
image_bytes-one word = refl

pub blocks-image_bytes : (image : Image) (i n : ℕ) → blocks_of (image_bytes image) i n ≡ image_bytes (take (512 * n) (drop (512 * i) image))
blocks-image_bytes image i n =
    let width : (4096 * i + 4096 * n) - 4096 * i ≡ 8 * (512 * n) = omega arith in
    let place : 4096 * i ≡ 8 * (512 * i) = omega arith in
    rw (width, place, drop-image_bytes (512 * i) image) (take-image_bytes (512 * n) (drop (512 * i) image))

-- one more word of a list
pub one_more : (words : Image) (k : ℕ) → k < length words → image_bytes (take (k + 1) words) ≡ image_bytes (take k words) ++ word_bytes (get_or words k 0)
one_more words k low =
    let next : k + 1 ≡ suc k = omega arith in
    rw (next, take-suc words k 0 low, image_bytes-append (take k words) (get_or words k 0 ∷ [])) (ap (λ l. image_bytes (take k words) ++ l) (image_bytes-one (get_or words k 0)))

-- the first eight words and those after them
pub prefix_rest : (image : Image) (count : ℕ) → 8 ≤ count → image_bytes (take 8 image) ++ image_bytes (take ((8 + (count - 8)) - 8) (drop 8 image)) ≡ image_bytes (take count image)
prefix_rest image count some =
    let width : (8 + (count - 8)) - 8 ≡ count - 8 = omega arith in
    let whole : 8 + (count - 8) ≡ count = omega (arith, some) in
    sym (image_bytes-append (take 8 image) (take ((8 + (count - 8)) - 8) (drop 8 image)))
    ∙ ap image_bytes (ap (λ n. take 8 image ++ take n (drop 8 image)) width ∙ sym (take-add 8 (count - 8) image) ∙ ap (λ n. take n image) whole)

-- one more word of a block
pub word_more : (words read : List ℕ) (first k word : ℕ) → first + k < length words → word ≡ get_or words (first + k) 0 → read ≡ take k (drop first words)
    → read ++ word ∷ [] ≡ take (k + 1) (drop first words)
word_more words read first k word low is before =
    let at : get_or (drop first words) k 0 ≡ get_or words (first + k) 0 = get_or-drop first words k 0 in
    let inside : k < length (drop first words) = omega (arith, length-drop first words) in
    let next : k + 1 ≡ suc k = omega arith in
    rw (next, take-suc (drop first words) k 0 inside, is ∙ sym at) (ap (λ l. l ++ get_or (drop first words) k 0 ∷ []) before)

-- ---- prefixes

pub take_least : (xs : List ℕ) (k n : ℕ) → k ≡ min (length xs) n → take k xs ≡ take n xs
take_least [] zero zero e = refl
take_least [] zero (suc n) e = refl
take_least [] (suc k) zero e = refl
take_least [] (suc k) (suc n) e = refl
take_least (x ∷ xs) zero zero e = refl
take_least (x ∷ xs) zero (suc n) e = absurd (omega (arith, e))
take_least (x ∷ xs) (suc k) zero e = absurd (omega (arith, e))
take_least (x ∷ xs) (suc k) (suc n) e = ap (λ l. x ∷ l) (take_least xs k n (omega (arith, e)))

-- ---- an image is stated by its bytes

pub image_once : (first second : Image) → AreWordsOf64Bits first → AreWordsOf64Bits second → image_bytes first ≡ image_bytes second → first ≡ second
unfolding image_bytes
image_once [] [] low high same = refl
image_once [] (w ∷ second) low high same = absurd (cc)
image_once (v ∷ first) [] low high same = absurd (cc)
image_once (v ∷ first) (w ∷ second) low high same =
    let here : word_bytes v ≡ word_bytes w = cc in
    let rest : image_bytes first ≡ image_bytes second = cc in
    let one : v ≡ w = sym (word_of_bytes v (low 0)) ∙ ap word_of here ∙ word_of_bytes w (high 0) in
    let more = image_once first second (λ k. low (suc k)) (λ k. high (suc k)) rest in
    rw (one, more) refl
