-- Two entries have one name exactly where their names' words without the dead bytes are the same.
use Rattle.std.proofs.Common.{◌≡◌, ℕ, zero, suc, ◌+◌, ◌-◌, ◌*◌, ◌/◌, ◌%◌, ◌^◌, ◌<◌, ◌≤◌, min, List, length, map, slice_index, slice_index_or, sym, ◌∙◌, ap, ap₂, arith, inl, inr, ◌⊎◌}
use Rattle.std.specs.List.{range_with_len}
use Rattle.std.proofs.lemmas.Bool.{cases_lt}
use Rattle.std.proofs.lemmas.List.{get_or_past}
use Rattle.std.proofs.lemmas.List.FromFn.{get_or-map-range_with_len, length-map-range_with_len}
use Rattle.bp_layout.specs.Words.{Image, word, byte_of}
use Rattle.bp_layout.proofs.Finding.{map-same}
use Rattle.bp_layout.proofs.WordBytes.{spelled, read_back}
use Rattle.pm_words.specs.Bytes.{word_of}
use Rattle.bp_spelling.specs.Places.{name_there, key_word, keys, name_key}

bytes_of : ℕ → ℕ → List ℕ
bytes_of w n = map (byte_of w) (range_with_len 0 n)

length-bytes : (w n : ℕ) → length (bytes_of w n) ≡ n
unfolding bytes_of
length-bytes w n = length-map-range_with_len (byte_of w) 0 n

bytes-at : (w n o : ℕ) → o < n → slice_index (bytes_of w n) o ≡ byte_of w o
unfolding bytes_of
bytes-at w n o low = get_or-map-range_with_len (byte_of w) 0 n o o 0 low (omega arith)

bytes-small : (w n o : ℕ) → slice_index (bytes_of w n) o < 256
unfolding bytes_of
bytes-small w n o = go (cases_lt o n)
  where
    go : (o < n) ⊎ (n ≤ o) → slice_index (map (byte_of w) (range_with_len 0 n)) o < 256
    go (inl low) = rw (get_or-map-range_with_len (byte_of w) 0 n o o 0 low (omega arith)) (omega arith)
    go (inr high) = rw (get_or_past (map (byte_of w) (range_with_len 0 n)) o 0 (omega (arith, high, length-map-range_with_len (byte_of w) 0 n))) (omega arith)

-- a word whose lowest bytes are those of another has the same number in them
pub same_low : (v w n : ℕ) → ((o : ℕ) → o < n → byte_of v o ≡ byte_of w o) → v % 256 ^ n ≡ w % 256 ^ n
same_low v w n same =
    let of_v : v % 256 ^ length (bytes_of w n) ≡ word_of (bytes_of w n) =
    spelled v (bytes_of w n) (λ o low. let h : o < n = rw (length-bytes w n) at low in same o h ∙ sym (bytes-at w n o h)) in
    let of_w : w % 256 ^ length (bytes_of w n) ≡ word_of (bytes_of w n) =
    spelled w (bytes_of w n) (λ o low. let h : o < n = rw (length-bytes w n) at low in sym (bytes-at w n o h)) in
    let k : length (bytes_of w n) ≡ n = length-bytes w n in
    ap (λ x. v % 256 ^ x) (sym k) ∙ of_v ∙ sym of_w ∙ ap (λ x. w % 256 ^ x) k

-- and the other way round
pub same_bytes : (v w n : ℕ) → v % 256 ^ n ≡ w % 256 ^ n → (o : ℕ) → o < n → byte_of v o ≡ byte_of w o
same_bytes v w n same o low =
    let k : length (bytes_of w n) ≡ n = length-bytes w n in
    let of_w : w % 256 ^ length (bytes_of w n) ≡ word_of (bytes_of w n) =
    spelled w (bytes_of w n) (λ i h. let l : i < n = rw (length-bytes w n) at h in sym (bytes-at w n i l)) in
    let of_v : v % 256 ^ length (bytes_of w n) ≡ word_of (bytes_of w n) =
    ap (λ x. v % 256 ^ x) k ∙ same ∙ sym (ap (λ x. w % 256 ^ x) k) ∙ of_w in
    read_back v (bytes_of w n) (bytes-small w n) of_v o (rw (length-bytes w n) low) ∙ bytes-at w n o low

-- ---- keys word by word

pub key-at : (image : Image) (place k : ℕ) → k < 31 → slice_index (name_key image place) k ≡ key_word image place k
unfolding name_key keys
key-at image place k low = get_or-map-range_with_len (key_word image place) 0 31 k k 0 low (omega arith)

-- the words of equal keys
pub key_words : (image : Image) (a b : ℕ) → name_key image a ≡ name_key image b → (k : ℕ) → k < 31 → key_word image a k ≡ key_word image b k
key_words image a b same k low = sym (key-at image a k low) ∙ ap (λ xs. slice_index xs k) same ∙ key-at image b k low

pub same_key : (image : Image) (a b : ℕ) → ((k : ℕ) → k < 31 → key_word image a k ≡ key_word image b k) → name_key image a ≡ name_key image b
unfolding name_key keys
same_key image a b same = map-same (key_word image a) (key_word image b) 0 31 (λ k low high. same k high)

-- ---- names byte by byte

pub length-name : (image : Image) (place : ℕ) → length (name_there image place) ≡ word image (place + 1)
length-name image place = length-map-range_with_len (λ o. byte_of (word image (place + 2 + o / 8)) (o % 8)) 0 (word image (place + 1))

pub name-at : (image : Image) (place o d : ℕ) → o < word image (place + 1) → slice_index_or (name_there image place) o d ≡ byte_of (word image (place + 2 + o / 8)) (o % 8)
name-at image place o d low = get_or-map-range_with_len (λ i. byte_of (word image (place + 2 + i / 8)) (i % 8)) 0 (word image (place + 1)) o o d low (omega arith)

module _ (image : Image) (a b : ℕ) where
  pub same_name : word image (a + 1) ≤ 240 → name_key image a ≡ name_key image b → name_there image a ≡ name_there image b
  same_name short same =
      let words : (k : ℕ) → k < 31 → key_word image a k ≡ key_word image b k = key_words image a b same in
      let long : word image (a + 1) ≡ word image (b + 1) = words 0 (omega arith) in
      rw (sym long)
      (map-same (λ o. byte_of (word image (a + 2 + o / 8)) (o % 8)) (λ o. byte_of (word image (b + 2 + o / 8)) (o % 8)) 0 (word image (a + 1)) (λ o low high.
      let part : ℕ = o / 8 in
      let masked : word image (a + 1 + suc part) % 256 ^ min 8 (word image (a + 1) - 8 * part) ≡ word image (b + 1 + suc part) % 256 ^ min 8 (word image (b + 1) - 8 * part) =
      words (suc part) (omega (arith, high, short)) in
      let level : word image (a + 1 + suc part) % 256 ^ min 8 (word image (a + 1) - 8 * part) ≡ word image (b + 1 + suc part) % 256 ^ min 8 (word image (a + 1) - 8 * part) =
      masked ∙ ap (λ x. word image (b + 1 + suc part) % 256 ^ min 8 (x - 8 * part)) (sym long) in
      let of_a : a + 2 + o / 8 ≡ a + 1 + suc part = omega arith in
      let of_b : b + 1 + suc part ≡ b + 2 + o / 8 = omega arith in
      ap (λ p. byte_of (word image p) (o % 8)) of_a
      ∙ same_bytes (word image (a + 1 + suc part)) (word image (b + 1 + suc part)) (min 8 (word image (a + 1) - 8 * part)) level (o % 8) (omega (arith, high))
      ∙ ap (λ p. byte_of (word image p) (o % 8)) of_b))

  pub key_of_name : name_there image a ≡ name_there image b → name_key image a ≡ name_key image b
  key_of_name same = same_key image a b words
    where
      long : word image (a + 1) ≡ word image (b + 1)
      long = sym (length-name image a) ∙ ap length same ∙ length-name image b

      bytes : (o : ℕ) → o < word image (a + 1) → byte_of (word image (a + 2 + o / 8)) (o % 8) ≡ byte_of (word image (b + 2 + o / 8)) (o % 8)
      bytes o low = sym (name-at image a o 0 low) ∙ ap (λ xs. slice_index xs o) same ∙ name-at image b o 0 (omega (arith, low, long))

      words : (k : ℕ) → k < 31 → key_word image a k ≡ key_word image b k
      words zero low = long
      words (suc part) low =
          same_low (word image (a + 1 + suc part)) (word image (b + 1 + suc part)) (min 8 (word image (a + 1) - 8 * part)) (λ o inside.
          let whole : (8 * part + o) / 8 ≡ part = omega (arith, inside) in
          let rest : (8 * part + o) % 8 ≡ o = omega (arith, inside) in
          let of_a : a + 2 + (8 * part + o) / 8 ≡ a + 1 + suc part = omega (arith, whole) in
          let of_b : b + 2 + (8 * part + o) / 8 ≡ b + 1 + suc part = omega (arith, whole) in
          sym (ap₂ (λ p i. byte_of (word image p) i) of_a rest) ∙ bytes (8 * part + o) (omega (arith, inside)) ∙ ap₂ (λ p i. byte_of (word image p) i) of_b rest)
          ∙ ap (λ x. word image (b + 1 + suc part) % 256 ^ min 8 (x - 8 * part)) long
