-- The words of a leaf's entries, and what they name.
use Rattle.std.proofs.Common.{◌≡◌, ◌≢◌, ℕ, zero, suc, ◌+◌, ◌-◌, ◌*◌, ◌/◌, ◌^◌, ◌<◌, ◌≤◌, min, List, [], ◌∷◌, ◌++◌, take, length, slice_index, Bool, true, false, ◌==◌, filter_map, refl, sym, ◌∙◌, ap, ap₂, subst, subst₂, arith}
use Rattle.std.specs.List.{cons_option, range_with_len}
use Rattle.std.proofs.lemmas.Bool.{eqb-true}
use Rattle.std.proofs.lemmas.List.{append-nil, get_or-take, length-take}
use Rattle.std.proofs.lemmas.List.Elements.{filter_map-append}
use Rattle.std.proofs.lemmas.List.FromFn.{length-map-range_with_len}
use Rattle.bp_limits.specs.Limits.{block_inodes, max_blocks}
use Rattle.bp_layout.specs.Words.{Image, block_count}
use Rattle.bp_layout.specs.Tree.{IsSound, content_word}
use Rattle.bp_layout.specs.Inode.{inode_count, kind_of, root_of, size_of}
use Rattle.bp_layout.specs.Directory.{EntryNames, entry_count, ino_at, ino_in, name_at, word_in}
use Rattle.bp_layout.specs.Fields.{name_of}
use Rattle.bp_layout.specs.Reached.{IsReached}
use Rattle.bp_layout.specs.Reached.IsReached.{inode_file, named}
use Rattle.bp_layout.specs.WellFormed.{IsWellFormed}
use Rattle.bp_layout.proofs.FewLeaves.{few_inodes}
use Rattle.bp_layout.proofs.Reached.{reached-in_file}
use Rattle.bp_layout.specs.EntryWords.{HasWords, IsRow}
use Rattle.bp_layout.proofs.EntryWords.{entry_of, name_in-words}
use Rattle.bp_export.specs.Entries.{entries_named, entry_named}
use Rattle.bp_export.specs.Rows.{EachEntry, HasEntryForm, NamesReached, row_length}

-- ---- inodes that are reached

module _ (image : Image) (wf : IsWellFormed image) where
  pub inode_file_sound : IsSound image (root_of image 0) (size_of image 0)
  inode_file_sound = wf.sound 0 inode_file

  -- a reached inode is in the inode file
  pub record IsInode (j : ℕ) : Type 0 where
    pub high : j < inode_count image
    pub few : j < block_inodes * max_blocks
    pub least : 1 ≤ kind_of image j
    pub most : kind_of image j ≤ 2

  pub inode_reached : (j : ℕ) → IsReached image j → 1 ≤ j → IsInode j
  inode_reached zero reached low = absurd (omega arith)
  inode_reached (suc j) reached low =
      let high : suc j < inode_count image = reached-in_file image wf (suc j) reached in
      let few : size_of image 0 / 64 ≤ 64 * block_count image = few_inodes image (root_of image 0) (size_of image 0) inode_file_sound wf.full_inode_file (omega (arith, wf.formatted.sized.at_least)) wf.inode_blocks in
      let kinds : (1 ≤ kind_of image (suc j)) × (kind_of image (suc j) ≤ 2) = wf.kinds j reached in
      record { high = high; few = omega (arith, few, high, wf.formatted.sized.at_most); least = kinds.0; most = kinds.1 }

  -- ---- the words of entries

  module _ (i : ℕ) (reached : IsReached image i) (kind : kind_of image i ≡ 2) where
    module _ (slot : ℕ) (live : slot < entry_count image i) (some : ino_at image i slot ≢ 0) where
      names_here : EntryNames image i slot (ino_at image i slot)
      names_here = record { directory = kind; in_size = live; ino = refl; not_empty = some }

      name_most : word_in image (root_of image i) slot 1 ≤ 240
      name_most =
          omega (arith, (wf.names i slot (ino_at image i slot) reached names_here).short, name_long)
        where
          name_long : length (name_at image i slot) ≡ word_in image (root_of image i) slot 1
          name_long = length-map-range_with_len _ 0 (word_in image (root_of image i) slot 1)

      here_reached : IsReached image (ino_at image i slot)
      here_reached = named slot reached names_here

    has_reached : (slot : ℕ) (words : List ℕ) → slot < entry_count image i → HasWords image (root_of image i) slot words → NamesReached image words
    has_reached slot words live has = record {
      reached = λ some. subst (IsReached image) (sym is) (here_reached slot live (λ none. some (is ∙ none)));
      short = λ some. omega (arith, has.each 1 (omega arith), name_most slot live (λ none. some (is ∙ none)));
    }
      where
        is : slice_index words 0 ≡ ino_at image i slot
        is = has.each 0 (omega arith)

    has_entry : (words : List ℕ) → NamesReached image words → HasEntryForm words
    has_entry words names = record { few = go (slice_index words 0) refl; short = names.short }
      where
        go : (j : ℕ) → slice_index words 0 ≡ j → slice_index words 0 < 2 ^ 32
        go zero at = omega (arith, at)
        go (suc j) at =
            let some : slice_index words 0 ≢ 0 = λ none. absurd (omega (arith, at, none)) in
            omega (arith, (inode_reached (slice_index words 0) (names.reached some) (omega (arith, at))).few)

    module _ (first count : ℕ) (words : List ℕ) (live : first + count ≤ entry_count image i) (row : IsRow image (root_of image i) first count words) where
      pub row_reached : EachEntry (NamesReached image) words
      row_reached index low =
          let inside : index < count = omega (arith, low, row.long) in
          has_reached (first + index) _ (omega (arith, live, inside)) (entry_of image (root_of image i) first count index words row inside)

      pub row_entries : EachEntry HasEntryForm words
      row_entries index low = has_entry _ (row_reached index low)

-- ---- one entry

module _ (image : Image) (i slot : ℕ) (words : List ℕ) (has : HasWords image (root_of image i) slot words) where
  pub ino_is : slice_index words 0 ≡ ino_at image i slot
  ino_is = has.each 0 (omega arith)

  pub length_is : slice_index words 1 ≡ length (name_at image i slot)
  length_is = has.each 1 (omega arith) ∙ sym (length-map-range_with_len _ 0 (word_in image (root_of image i) slot 1))

  -- an empty entry names nothing
  pub none_named : slice_index words 0 ≡ 0 → cons_option (entry_named image i slot) [] ≡ []
  none_named none = let empty : ino_at image i slot ≡ 0 = sym ino_is ∙ none in rw empty refl

  pub one_named : slice_index words 0 ≢ 0 → slice_index words 1 ≤ 240 → cons_option (entry_named image i slot) [] ≡ (slice_index words 0, name_of words) ∷ []
  one_named some short = go (ino_at image i slot == 0) refl
    where
      name_is : name_at image i slot ≡ name_of words
      name_is = sym (name_in-words image (root_of image i) slot words (omega (arith, short, has.each 1 (omega arith))) has.each)

      go : (b : Bool) → (ino_at image i slot == 0) ≡ b → cons_option (entry_named image i slot) [] ≡ (slice_index words 0, name_of words) ∷ []
      go true at = absurd (some (ino_is ∙ eqb-true _ _ at))
      go false at = rw at (ap₂ (λ j n. (j, n) ∷ []) (sym ino_is) name_is)

-- ---- entries in a row

range-append : (first count more : ℕ) → range_with_len first (count + more) ≡ range_with_len first count ++ range_with_len (first + count) more
range-append first zero more =
    let none : 0 + more ≡ more = omega arith in
    let same : first + 0 ≡ first = omega arith in
    rw (none, same) refl
range-append first (suc count) more =
    let whole : suc count + more ≡ suc (count + more) = omega arith in
    let same : first + suc count ≡ first + 1 + count = omega arith in
    rw (whole, same) (ap (λ xs. first ∷ xs) (range-append (first + 1) count more))

pub named-append : (image : Image) (i first count more : ℕ) → entries_named image i first (count + more) ≡ entries_named image i first count ++ entries_named image i (first + count) more
named-append image i first count more =
    ap (filter_map (entry_named image i)) (range-append first count more)
    ∙ filter_map-append (entry_named image i) (range_with_len first count) (range_with_len (first + count) more)

-- empty entries name nothing
pub named-none : (image : Image) (i first count : ℕ) → ((slot : ℕ) → first ≤ slot → slot < first + count → ino_at image i slot ≡ 0) → entries_named image i first count ≡ []
named-none image i first zero empty = refl
named-none image i first (suc count) empty =
    let rest : entries_named image i (first + 1) count ≡ [] = named-none image i (first + 1) count (λ slot low high. empty slot (omega (arith, low)) (omega (arith, high))) in
    rw (empty first (omega arith) (omega arith)) rest

module _ (image : Image) (i leaf total : ℕ) (live : 16 * leaf < total) where
  -- what is named up to a leaf, and in it
  pub leaf_more : entries_named image i 0 (min (16 * leaf) total) ++ entries_named image i (16 * leaf) (min 16 (total - 16 * leaf)) ≡ entries_named image i 0 (min (16 * (leaf + 1)) total)
  leaf_more =
      let before : min (16 * leaf) total ≡ 16 * leaf = omega (arith, live) in
      let after : min (16 * (leaf + 1)) total ≡ 16 * leaf + min 16 (total - 16 * leaf) = omega (arith, live) in
      let from : 0 + 16 * leaf ≡ 16 * leaf = omega arith in
      rw (before, after) (ap (λ k. entries_named image i 0 (16 * leaf) ++ entries_named image i k (min 16 (total - 16 * leaf))) (sym from) ∙ sym (named-append image i 0 (16 * leaf) (min 16 (total - 16 * leaf))))

  -- where all of it is empty
  pub null_more : ((slot : ℕ) → 16 * leaf ≤ slot → slot < 16 * (leaf + 1) → ino_at image i slot ≡ 0) → entries_named image i 0 (min (16 * leaf) total) ≡ entries_named image i 0 (min (16 * (leaf + 1)) total)
  null_more empty =
      sym (append-nil (entries_named image i 0 (min (16 * leaf) total)))
      ∙ ap (λ xs. entries_named image i 0 (min (16 * leaf) total) ++ xs) (sym (named-none image i (16 * leaf) (min 16 (total - 16 * leaf)) (λ slot low high. empty slot low (omega (arith, high)))))
      ∙ leaf_more

-- those of a leaf that lie below the size
pub leaf_row : (image : Image) (root leaf count : ℕ) (words : List ℕ) → length words ≡ 512 → ((k : ℕ) → k < 512 → slice_index words k ≡ content_word image root (512 * leaf + k)) →
    count ≤ 16 → IsRow image root (16 * leaf) count (take (32 * count) words)
leaf_row image root leaf count words long each few = record {
  long = omega (arith, length-take (32 * count) words, long, few);
  each = λ index field low within.
      let at : 512 * leaf + (32 * index + field) ≡ 32 * (16 * leaf + index) + field = omega arith in
      get_or-take (32 * count) words (32 * index + field) 0 (omega (arith, low, within))
      ∙ each (32 * index + field) (omega (arith, low, within, few))
      ∙ ap (content_word image root) at;
}

-- the row of a directory's leaf
pub row_at : (image : Image) (i root size leaf : ℕ) (words : List ℕ) → root ≡ root_of image i → size ≡ size_of image i → IsRow image root (16 * leaf) (row_length size leaf) words →
    IsRow image (root_of image i) (16 * leaf) (min 16 (entry_count image i - 16 * leaf)) words
row_at image i root size leaf words root_is size_is row =
    subst₂ (λ r s. IsRow image r (16 * leaf) (row_length s leaf) words) root_is size_is row

-- a null leaf has only empty entries
pub null_leaf : (image : Image) (root leaf : ℕ) → ((k : ℕ) → k < 512 → content_word image root (512 * leaf + k) ≡ 0) → (slot : ℕ) → 16 * leaf ≤ slot → slot < 16 * (leaf + 1) → ino_in image root slot ≡ 0
null_leaf image root leaf null slot low high =
    let at : 32 * slot + 0 ≡ 512 * leaf + 32 * (slot - 16 * leaf) = omega (arith, low) in
    ap (content_word image root) at ∙ null (32 * (slot - 16 * leaf)) (omega (arith, low, high))
