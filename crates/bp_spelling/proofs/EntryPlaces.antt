-- Entries by their places.
use Rattle.std.proofs.Common.{◌≡◌, ◌≢◌, ℕ, ◌+◌, ◌*◌, ◌/◌, ◌%◌, ◌<◌, ◌≤◌, length, sym, ◌∙◌, ap, ap₂, subst, arith}
use Rattle.std.proofs.lemmas.List.FromFn.{length-map-range_with_len}
use Rattle.bp_layout.specs.Words.{Image, word, height_of, byte_of}
use Rattle.bp_layout.specs.Tree.{node, byte, IsSound, IsFull}
use Rattle.bp_layout.specs.Directory.{ino_in, word_in, name_in}
use Rattle.bp_layout.specs.Paths.{IsName}
use Rattle.bp_layout.proofs.Finding.{map-same}
use Rattle.bp_layout.proofs.TreeLaws.{slot_word-at}
use Rattle.bp_layout.proofs.EntryWords.{byte-at}
use Rattle.bp_read.proofs.EntryWords.{word_in-at, leaf_pointer, leaf_in_range}
use Rattle.bp_spelling.specs.Names.{entry_place_in}
use Rattle.bp_spelling.specs.Places.{name_there}
use Rattle.bp_spelling.proofs.KeyNames.{length-name}

pub leaf_of_slot : (slot : ℕ) → (32 * slot + 0) / 512 ≡ slot / 16
leaf_of_slot slot = omega arith

module _ (image : Image) (root size slot : ℕ) (full : IsFull image root size) (live : slot < size / 256) where
  pub place-is : entry_place_in image root slot ≡ 512 * node image root (height_of root) (slot / 16) + 32 * (slot % 16)
  place-is =
      let at : (32 * slot + 0) % 512 ≡ 32 * (slot % 16) = omega arith in
      ap₂ (λ l s. 512 * node image root (height_of root) l + s) (leaf_of_slot slot) at

  pub word-there : (f : ℕ) → f < 32 → word_in image root slot f ≡ word image (entry_place_in image root slot + f)
  word-there f low =
      let at : 512 * node image root (height_of root) (slot / 16) + (32 * (slot % 16) + f) ≡ entry_place_in image root slot + f = omega (arith, place-is) in
      word_in-at image root slot f low
      ∙ slot_word-at image (node image root (height_of root) (slot / 16)) (32 * (slot % 16) + f) (full _ _ (leaf_pointer root size slot live))
      ∙ ap (word image) at

  pub ino-there : ino_in image root slot ≡ word image (entry_place_in image root slot)
  ino-there = let at : entry_place_in image root slot + 0 ≡ entry_place_in image root slot = omega arith in word-there 0 (omega arith) ∙ ap (word image) at

  length-in : length (name_in image root slot) ≡ word_in image root slot 1
  length-in = length-map-range_with_len (λ o. byte image root (256 * slot + 16 + o)) 0 (word_in image root slot 1)

  pub name-there : word_in image root slot 1 ≤ 240 → name_in image root slot ≡ name_there image (entry_place_in image root slot)
  name-there short =
      rw (sym (word-there 1 (omega arith)))
      (map-same (λ o. byte image root (256 * slot + 16 + o)) (λ o. byte_of (word image (entry_place_in image root slot + 2 + o / 8)) (o % 8)) 0 (word_in image root slot 1) (λ o low high.
      let whole : 256 * slot + 16 + o ≡ 256 * slot + 16 + (8 * (o / 8) + o % 8) = omega arith in
      let field : 2 + o / 8 < 32 = omega (arith, high, short) in
      let at : entry_place_in image root slot + (2 + o / 8) ≡ entry_place_in image root slot + 2 + o / 8 = omega arith in
      ap (byte image root) whole ∙ byte-at image root slot (o / 8) (o % 8) (omega arith)
      ∙ ap (λ w. byte_of w (o % 8)) (word-there (2 + o / 8) field ∙ ap (word image) at)))

  -- a name has the right form exactly where its words report one that has
  pub form-there : IsName (name_there image (entry_place_in image root slot)) → IsName (name_in image root slot)
  form-there is =
      let short : word_in image root slot 1 ≤ 240 = omega (arith, is.short, length-name image (entry_place_in image root slot), word-there 1 (omega arith)) in
      subst IsName (sym (name-there short)) is

  pub form-in : IsName (name_in image root slot) → IsName (name_there image (entry_place_in image root slot))
  form-in is =
      let short : word_in image root slot 1 ≤ 240 = omega (arith, is.short, length-in) in
      subst IsName (name-there short) is

  pub name-short : IsName (name_in image root slot) → word_in image root slot 1 ≤ 240
  name-short is = omega (arith, is.short, length-in)

  -- no entry stands at word 0
  pub place-some : entry_place_in image root slot ≢ 0
  place-some none =
      let present : node image root (height_of root) (slot / 16) ≢ 0 = full _ _ (leaf_pointer root size slot live) in
      present (omega (arith, place-is, none))

-- sixteen entries share a block
pub row_place : (image : Image) (root first k : ℕ) → first % 16 ≡ 0 → k < 16 → entry_place_in image root (first + k) ≡ entry_place_in image root first + 32 * k
row_place image root first k start low =
    let leaf : (32 * (first + k) + 0) / 512 ≡ (32 * first + 0) / 512 = omega (arith, start, low) in
    let at : (32 * (first + k) + 0) % 512 ≡ (32 * first + 0) % 512 + 32 * k = omega (arith, start, low) in
    ap₂ (λ l s. 512 * node image root (height_of root) l + s) leaf at ∙ omega arith

-- an entry ends before the image does
pub place_fits : (image : Image) (root size slot : ℕ) → IsSound image root size → IsFull image root size → slot < size / 256 → entry_place_in image root slot + 32 ≤ length image
place_fits image root size slot sound full live = omega (arith, place-is image root size slot full live, leaf_in_range image root size slot sound live)

-- entries of two slots stand at two places
pub other_place : (image : Image) (root size slot other : ℕ) → IsSound image root size → IsFull image root size → slot < size / 256 → other < size / 256 →
    entry_place_in image root slot ≡ entry_place_in image root other → slot ≡ other
other_place image root size slot other sound full live live_too same =
    let n : ℕ = node image root (height_of root) (slot / 16) in
    let m : ℕ = node image root (height_of root) (other / 16) in
    let both : 512 * n + 32 * (slot % 16) ≡ 512 * m + 32 * (other % 16) =
    sym (place-is image root size slot full live) ∙ same ∙ place-is image root size other full live_too in
    let block : n ≡ m = omega (arith, both) in
    let within : slot % 16 ≡ other % 16 = omega (arith, both) in
    let leaf : slot / 16 ≡ other / 16 =
    (sound.once _ _ _ _ (leaf_pointer root size slot live) (leaf_pointer root size other live_too) (full _ _ (leaf_pointer root size slot live)) block).1 in
    omega (arith, leaf, within)
