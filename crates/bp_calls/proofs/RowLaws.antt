-- The words of entries of a directory, and what is seen of these entries.
use Rattle.std.proofs.Common.{◌≡◌, ◌≢◌, ℕ, ◌+◌, ◌-◌, ◌*◌, ◌<◌, ◌≤◌, min, List, [], ◌∷◌, ◌++◌, take, length, slice_index, Bool, true, false, ◌==◌, None, filter_map, refl, sym, ◌∙◌, ap, ap₂, subst, arith}
use Rattle.std.specs.List.{range_with_len, cons_option}
use Rattle.std.proofs.lemmas.Bool.{eqb-true}
use Rattle.std.proofs.lemmas.List.{append-nil, get_or-take, length-take}
use Rattle.bp_layout.specs.Words.{Image}
use Rattle.bp_layout.specs.Tree.{content_word}
use Rattle.bp_layout.specs.Inode.{kind_of, root_of, size_of}
use Rattle.bp_layout.specs.Directory.{ino_in, ino_at, name_at}
use Rattle.bp_layout.specs.Fields.{kind_word, name_of}
use Rattle.bp_layout.specs.declared.fields.Kind.{Kind}
use Rattle.bp_layout.specs.WellFormed.{IsWellFormed}
use Rattle.bp_layout.specs.EntryWords.{HasWords, IsRow}
use Rattle.bp_layout.proofs.EntryWords.{name_in-words}
use Rattle.bp_calls.specs.Asked.{kind_seen, entry_seen, entries_seen}
use Rattle.bp_calls.specs.Rows.{IsEntryRow}
use Rattle.bp_calls.proofs.ReadingLaws.{IsInode, inode_here, name_most, kind_from_word, seen-parts, seen-none}

-- ---- one entry

module _ (image : Image) (wf : IsWellFormed image) (words : List ℕ) (is : IsEntryRow image words) (some : slice_index words 0 ≢ 0) where
  there : ino_in image (root_of image is.directory) is.slot ≢ 0
  there none = some (is.has.each 0 (omega arith) ∙ none)

  -- it names an inode
  pub inode_of : IsInode image wf (slice_index words 0)
  inode_of =
      subst (IsInode image wf) (sym (is.has.each 0 (omega arith)))
      (inode_here image wf is.directory (root_of image is.directory) (size_of image is.directory) is.reached is.kind refl refl is.slot is.live there)

  -- and its name has a length that names have
  pub short_of : slice_index words 1 ≤ 240
  short_of =
      omega (arith, is.has.each 1 (omega arith), name_most image wf is.directory (root_of image is.directory) (size_of image is.directory) is.reached is.kind refl refl is.slot is.live there)

module _ (image : Image) (i slot : ℕ) (words : List ℕ) (has : HasWords image (root_of image i) slot words) where
  ino_is : slice_index words 0 ≡ ino_at image i slot
  ino_is = has.each 0 (omega arith)

  -- nothing is seen of an empty entry
  pub none_seen : slice_index words 0 ≡ 0 → cons_option (entry_seen image i slot) [] ≡ []
  none_seen none = let empty : ino_at image i slot ≡ 0 = sym ino_is ∙ none in rw empty refl

  -- else a kind and a name
  pub one_seen : (kind : Kind) → slice_index words 0 ≢ 0 → slice_index words 1 ≤ 240 → kind_word kind ≡ kind_of image (slice_index words 0) →
      cons_option (entry_seen image i slot) [] ≡ (kind, name_of words) ∷ []
  one_seen kind some short is = go (ino_at image i slot == 0) refl
    where
      kind_is : kind_seen (kind_of image (ino_at image i slot)) ≡ kind
      kind_is = sym (kind_from_word kind _ (is ∙ ap (kind_of image) ino_is))

      name_is : name_at image i slot ≡ name_of words
      name_is = sym (name_in-words image (root_of image i) slot words (omega (arith, short, has.each 1 (omega arith))) has.each)

      go : (b : Bool) → (ino_at image i slot == 0) ≡ b → cons_option (entry_seen image i slot) [] ≡ (kind, name_of words) ∷ []
      go true at = absurd (some (ino_is ∙ eqb-true _ _ at))
      go false at = rw at (ap₂ (λ k n. (k, n) ∷ []) kind_is name_is)

-- ---- the entries of a leaf

-- a row of entries with one more
pub row_more : (image : Image) (i first count : ℕ) →
    filter_map (entry_seen image i) (range_with_len first (count + 1)) ≡ filter_map (entry_seen image i) (range_with_len first count) ++ cons_option (entry_seen image i (first + count)) []
row_more image i first count = seen-parts (entry_seen image i) first count 1 (first + count) refl

-- those of a leaf that lie below the size
pub leaf_row : (image : Image) (root leaf count : ℕ) (words : List ℕ) → length words ≡ 512 → ((k : ℕ) → k < 512 → slice_index words k ≡ content_word image root (512 * leaf + k)) →
    count ≤ 16 → IsRow image root (16 * leaf) count (take (32 * count) words)
leaf_row image root leaf count words long each few = record {
  long = omega (arith, length-take (32 * count) words, long, few);
  each = λ index field low within.
      let at : 512 * leaf + (32 * index + field) ≡ 32 * (16 * leaf + index) + field = omega arith in
      get_or-take (32 * count) words (32 * index + field) 0 (omega (arith, low, within))
      ∙ each (32 * index + field) (omega (arith, low, within, few))
      ∙ ap (content_word image root) at;
}

module _ (image : Image) (i leaf total : ℕ) (live : 16 * leaf < total) where
  -- what is seen up to the leaf, and in it
  pub leaf_more : (count : ℕ) → count ≡ min 16 (total - 16 * leaf) →
      entries_seen image i (min (16 * leaf) total) ++ filter_map (entry_seen image i) (range_with_len (16 * leaf) count) ≡ entries_seen image i (min (16 * (leaf + 1)) total)
  leaf_more count is =
      let before : min (16 * leaf) total ≡ 16 * leaf = omega (arith, live) in
      let after : min (16 * (leaf + 1)) total ≡ 16 * leaf + count = omega (arith, live, is) in
      rw (before, after) (sym (seen-parts (entry_seen image i) 0 (16 * leaf) count (16 * leaf) (omega arith)))

  -- a null leaf has only empty entries
  pub null_leaf_more : ((k : ℕ) → k < 512 → content_word image (root_of image i) (512 * leaf + k) ≡ 0) →
      entries_seen image i (min (16 * leaf) total) ≡ entries_seen image i (min (16 * (leaf + 1)) total)
  null_leaf_more null =
      let count : ℕ = min 16 (total - 16 * leaf) in
      let none : filter_map (entry_seen image i) (range_with_len (16 * leaf) count) ≡ [] = seen-none (entry_seen image i) (16 * leaf) count (λ k low. empty k (omega (arith, low))) in
      sym (append-nil (entries_seen image i (min (16 * leaf) total))) ∙ ap (λ xs. entries_seen image i (min (16 * leaf) total) ++ xs) (sym none) ∙ leaf_more count refl
    where
      empty : (k : ℕ) → k < 16 → entry_seen image i (16 * leaf + k) ≡ None
      empty k low =
          let at : 32 * (16 * leaf + k) + 0 ≡ 512 * leaf + 32 * k = omega arith in
          let zero_here : ino_at image i (16 * leaf + k) ≡ 0 = ap (content_word image (root_of image i)) at ∙ null (32 * k) (omega (arith, low)) in
          rw zero_here refl
