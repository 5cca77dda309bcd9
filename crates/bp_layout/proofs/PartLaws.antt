-- The words of an entry's name, eight bytes a word, beside a name.
use Rattle.std.proofs.Common.{◌≡◌, ◌≢◌, ℕ, ◌+◌, ◌-◌, ◌*◌, ◌%◌, ◌^◌, ◌<◌, ◌≤◌, min, List, length, take, drop, map, slice_index, Bool, true, false, bytes_eq, IsTrue, ◌↔◌, refl, sym, ◌∙◌, ap, arith, nat_lt}
use Rattle.std.proofs.lemmas.Bool.Decides.{same_from_decides}
use Rattle.std.proofs.lemmas.Bool.{ltb-true, ltb-false}
use Rattle.bp_layout.proofs.View.{named_true}
use Rattle.std.specs.List.{range_with_len}
use Rattle.std.proofs.lemmas.List.{get_or_past, get_or-take, get_or-drop, length-take, length-drop}
use Rattle.std.proofs.lemmas.List.FromFn.{fill_by_all, get_or-map-range_with_len, length-map-range_with_len}
use Rattle.std.proofs.lemmas.Slice.Eq.{bytes_eq-Decides}
use Rattle.bp_layout.specs.Words.{Image}
use Rattle.bp_layout.specs.Tree.{byte}
use Rattle.bp_layout.specs.Directory.{word_in, ino_in, name_in, is_named_in}
use Rattle.pm_words.specs.Bytes.{word_of}
use Rattle.bp_layout.proofs.Finding.{unequal}
use Rattle.bp_layout.proofs.EntryWords.{byte-at}
use Rattle.bp_layout.proofs.WordBytes.{spelled, read_back}

-- the bytes of the name in this entry
abbrev pub byte_in : Image → ℕ → ℕ → ℕ → ℕ
byte_in image root slot o = byte image root (256 * slot + 16 + o)

-- the name's bytes below a bound are those of the entry
abbrev pub SameBelow : Image → ℕ → ℕ → List ℕ → ℕ → Type 0
SameBelow image root slot name bound = (o : ℕ) → o < bound → o < length name → byte_in image root slot o ≡ slice_index name o

-- the bytes of one word of a name
module _ (name : List ℕ) (part : ℕ) where
  length-chunk : length (take 8 (drop (8 * part) name)) ≡ min 8 (length name - 8 * part)
  length-chunk = length-take 8 (drop (8 * part) name) ∙ ap (min 8) (length-drop (8 * part) name)

  pub chunk-at : (o : ℕ) → o < 8 → slice_index (take 8 (drop (8 * part) name)) o ≡ slice_index name (8 * part + o)
  chunk-at o low = get_or-take 8 (drop (8 * part) name) o 0 low ∙ get_or-drop (8 * part) name o 0

module _ (image : Image) (root slot part : ℕ) (name : List ℕ) where
  -- equal bytes make an equal word
  pub same_word : SameBelow image root slot name (length name) →
      word_in image root slot (2 + part) % 256 ^ min 8 (length name - 8 * part) ≡ word_of (take 8 (drop (8 * part) name))
  same_word same =
      rw (← length-chunk name part) (spelled (word_in image root slot (2 + part)) (take 8 (drop (8 * part) name)) (λ o h.
      let within : o < min 8 (length name - 8 * part) = rw (length-chunk name part) at h in
      sym (byte-at image root slot part o (omega (arith, within))) ∙ same (8 * part + o) (omega (arith, within)) (omega (arith, within)) ∙ sym (chunk-at name part o (omega (arith, within)))))

  -- an equal word has equal bytes
  pub same_more : ((o : ℕ) → slice_index (take 8 (drop (8 * part) name)) o < 256) →
      word_in image root slot (2 + part) % 256 ^ min 8 (length name - 8 * part) ≡ word_of (take 8 (drop (8 * part) name)) →
      SameBelow image root slot name (8 * part) → SameBelow image root slot name (8 * (part + 1))
  same_more small is same o below within = go (nat_lt o (8 * part)) refl
    where
      go : (b : Bool) → nat_lt o (8 * part) ≡ b → byte_in image root slot o ≡ slice_index name o
      go true at = same o (ltb-true o (8 * part) at) within
      go false at =
          let late : 8 * part ≤ o = ltb-false o (8 * part) at in
          let k : ℕ = o - 8 * part in
          let back : 8 * part + k ≡ o = omega arith in
          let low : k < 8 = omega (arith, below) in
          let inside : k < length (take 8 (drop (8 * part) name)) = rw (length-chunk name part) (omega (arith, within)) in
          ap (byte_in image root slot) (sym back) ∙ byte-at image root slot part k low
          ∙ read_back (word_in image root slot (2 + part)) (take 8 (drop (8 * part) name)) small (rw (length-chunk name part) is) k inside
          ∙ chunk-at name part k low ∙ ap (slice_index name) back

-- the bytes of a name from one on
pub rest_small : (name : List ℕ) (n : ℕ) → ((k : ℕ) → slice_index name k < 256) → (o : ℕ) → slice_index (drop n name) o < 256
rest_small name n small o = rw (get_or-drop n name o 0) (small (n + o))

-- a prefix of a prefix is small where the whole is
pub part_small : (name : List ℕ) (n : ℕ) → ((k : ℕ) → slice_index name k < 256) → (o : ℕ) → slice_index (take 8 (drop n name)) o < 256
part_small name n small o = go (nat_lt o 8) refl
  where
    go : (b : Bool) → nat_lt o 8 ≡ b → slice_index (take 8 (drop n name)) o < 256
    go true at = rw (get_or-take 8 (drop n name) o 0 (ltb-true o 8 at), get_or-drop n name o 0) (small (n + o))
    go false at =
        let end : 8 ≤ o = ltb-false o 8 at in
        rw (get_or_past (take 8 (drop n name)) o 0 (omega (arith, length-take 8 (drop n name), end))) (omega arith)

module _ (image : Image) (root slot : ℕ) (name : List ℕ) where
  -- the name of an entry whose bytes are those of the name
  pub spelled_out : SameBelow image root slot name (length name) → map (byte_in image root slot) (range_with_len 0 (length name)) ≡ name
  spelled_out same = sym (fill_by_all (byte_in image root slot) name (length name) 0 refl (λ k h. sym (same k h h)))

  pub spelled_back : map (byte_in image root slot) (range_with_len 0 (length name)) ≡ name → SameBelow image root slot name (length name)
  spelled_back is o below within =
      sym (get_or-map-range_with_len (byte_in image root slot) 0 (length name) o o 0 below (omega arith)) ∙ ap (λ xs. slice_index xs o) is

  -- an entry that is not empty and whose name is as long has the name where the bytes are the same
  pub is_named-bytes : (b : Bool) → word_in image root slot 0 ≢ 0 → word_in image root slot 1 ≡ length name →
      (IsTrue b ↔ (map (byte_in image root slot) (range_with_len 0 (length name)) ≡ name)) → b ≡ is_named_in image root name slot
  is_named-bytes b some long same =
      rw (unequal _ _ some, long)
      (same_from_decides b (bytes_eq (map (byte_in image root slot) (range_with_len 0 (length name))) name) same (bytes_eq-Decides (map (byte_in image root slot) (range_with_len 0 (length name))) name))

  pub is_named-empty : word_in image root slot 0 ≡ 0 → false ≡ is_named_in image root name slot
  is_named-empty none = rw none refl

  -- an entry whose bytes differ has another name
  pub is_named-unlike : (SameBelow image root slot name (length name) → ⊥) → false ≡ is_named_in image root name slot
  is_named-unlike other = go (is_named_in image root name slot) refl
    where
      go : (b : Bool) → is_named_in image root name slot ≡ b → false ≡ b
      go false at = refl
      go true at =
          let parts : (ino_in image root slot ≢ 0) × (bytes_eq (name_in image root slot) name ≡ true) = named_true _ _ at in
          let same : name_in image root slot ≡ name = (bytes_eq-Decides (name_in image root slot) name).0 parts.1 in
          let long : word_in image root slot 1 ≡ length name = sym (length-map-range_with_len (byte_in image root slot) 0 (word_in image root slot 1)) ∙ ap length same in
          absurd (other (spelled_back (ap (λ n. map (byte_in image root slot) (range_with_len 0 n)) (sym long) ∙ same)))

  pub is_named-other : word_in image root slot 1 ≢ length name → false ≡ is_named_in image root name slot
  is_named-other other = go (is_named_in image root name slot) refl
    where
      go : (b : Bool) → is_named_in image root name slot ≡ b → false ≡ b
      go false at = refl
      go true at =
          let parts : (ino_in image root slot ≢ 0) × (bytes_eq (name_in image root slot) name ≡ true) = named_true _ _ at in
          let same : name_in image root slot ≡ name = (bytes_eq-Decides (name_in image root slot) name).0 parts.1 in
          absurd (other (sym (length-map-range_with_len (byte_in image root slot) 0 (word_in image root slot 1)) ∙ ap length same))

-- all of a word
pub whole_of : (w n : ℕ) → w < 2 ^ 64 → 8 ≤ n → w % 256 ^ min 8 n ≡ w
whole_of w n low all = let eight : min 8 n ≡ 8 = omega arith in let big : 256 ^ 8 ≡ 18446744073709551616 = refl in rw (eight, big) (omega (arith, low))
