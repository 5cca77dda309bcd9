use Rattle.std.proofs.Common.{◌≡◌, ◌≢◌, ℕ, ◌+◌, ◌-◌, ◌*◌, ◌<◌, ◌≤◌, List, min, length, slice_index, refl, sym, ◌∙◌, ap, subst, subst₂, arith}
use Rattle.bp_layout.proofs.EntryWords.{entry_of}
use Rattle.bp_layout.specs.Directory.{entry_count, ino_at, ino_in, name_at}
use Rattle.bp_layout.specs.Fields.{kind_word}
use Rattle.bp_layout.specs.Inode.{kind_of, root_of}
use Rattle.bp_layout.specs.Reached.{IsReached}
use Rattle.bp_layout.specs.WellFormed.{IsWellFormed}
use Rattle.bp_layout.specs.Words.{Image}
use Rattle.pm_region.specs.Memory.{current_words}
use Rattle.bp_export.specs.Depth.{HasLongEntry, HasLongPath}
use Rattle.bp_export.specs.Rows.{NamesReached}
use Rattle.bp_export.proofs.DepthLaws.{below_long, entry_from_path, leaf_more, long_below, long_inside, long_name, none_empty, none_more, not_file, path_from_entry}
use Rattle.bp_export.proofs.RowLaws.{IsInode, inode_file_sound, inode_reached, ino_is, length_is, row_at, row_reached}
use Rattle.bp_export.proofs.depth.+depth.Goals as goal
use Rattle.bp_export.proofs.depth.+depth.Goals.{has_long_path-in-Some+else-has_long_entry, has_long_path-in_default}

-- ---- one entry

-- the inode of an entry that is not empty
inode_here : (image : Image) (wf : IsWellFormed image) (words : List ℕ) → NamesReached image words → (j : ℕ) → j ≡ slice_index words 0 → j ≢ 0 → IsInode image wf j
inode_here image wf words names j is some =
    inode_reached image wf j (subst (IsReached image) (sym is) (names.reached (λ none. some (is ∙ none)))) (omega (arith, some))

pub is_long-returns-then-left-taken : goal.is_long-returns-then-left-taken
is_long-returns-then-left-taken g t c i slot has =
    let image : Image = current_words (g.R.Region.memory c.args.region.now) in
    let words = c.args.view.words.now in
    let some : ino_at image i slot ≢ 0 = λ none. c.if-ino-eq0.false (c.ino-ino.ensures ∙ ino_is image i slot words has ∙ none) in (
      λ yes. long_name image i slot c.args.left some (omega (arith, c.if-left-taken.true, c.name_len.ensures, length_is image i slot words has)),
      λ is. refl,
    )

pub is_long-overflow_cast-ino : goal.is_long-overflow_cast-ino
is_long-overflow_cast-ino g t c =
    omega (arith, (inode_here _ c.requires.well_formed c.args.view.words.now c.requires.entry c.ino-ino.result c.ino-ino.ensures c.if-ino-eq0.false).few)

pub is_long-get-requires-clause-sound : goal.is_long-get-requires-clause-sound
is_long-get-requires-clause-sound g t c = inode_file_sound _ c.requires.well_formed

pub is_long-get-requires-clause-there : goal.is_long-get-requires-clause-there
is_long-get-requires-clause-there g t c =
    (inode_here _ c.requires.well_formed c.args.view.words.now c.requires.entry c.ino-ino.result c.ino-ino.ensures c.if-ino-eq0.false).high

pub is_long-overflow_cast-ino-in-Dir : goal.is_long-overflow_cast-ino-in-Dir
is_long-overflow_cast-ino-in-Dir g t c =
    omega (arith, (inode_here _ c.requires.well_formed c.args.view.words.now c.requires.entry c.ino-ino.result c.ino-ino.ensures c.if-ino-eq0.false).few)

pub is_long-returns-in-File : goal.is_long-returns-in-File
is_long-returns-in-File g t c i slot has =
    let image : Image = current_words (g.R.Region.memory c.args.region.now) in
    let words = c.args.view.words.now in
    let same : c.ino-ino.result ≡ ino_at image i slot = c.ino-ino.ensures ∙ ino_is image i slot words has in
    let file : kind_of image (ino_at image i slot) ≡ 1 = ap (kind_of image) (sym same) ∙ sym c.get.ensures.kind ∙ ap kind_word c.in-File.is in
    let short : length (name_at image i slot) + 1 ≤ c.args.left = omega (arith, c.if-left-taken.false, c.name_len.ensures, length_is image i slot words has) in
    (λ yes. absurd (cc), λ is. absurd (not_file image i slot c.args.left (λ dir. omega (arith, file, dir)) short is))

pub is_long-returns-in-Dir : goal.is_long-returns-in-Dir
is_long-returns-in-Dir g t c i slot has =
    let image : Image = current_words (g.R.Region.memory c.args.region.now) in
    let words = c.args.view.words.now in
    let same : c.ino-ino.result ≡ ino_at image i slot = c.ino-ino.ensures ∙ ino_is image i slot words has in
    let long : c.name_len.result ≡ length (name_at image i slot) = c.name_len.ensures ∙ length_is image i slot words has in
    let some : ino_at image i slot ≢ 0 = λ none. c.if-ino-eq0.false (same ∙ none) in
    let short : length (name_at image i slot) + 1 ≤ c.args.left = omega (arith, c.if-left-taken.false, long) in (
      λ yes. long_below image i slot c.args.left some short (subst₂ (λ j n. HasLongPath image j (c.args.left - (n + 1))) same long (c.has_long_path.ensures.0 yes)),
      λ is. c.has_long_path.ensures.1 (subst₂ (λ j n. HasLongPath image j (c.args.left - (n + 1))) (sym same) (sym long) (below_long image i slot c.args.left short is)),
    )

-- ---- the entries of a row

pub has_long_entry-returns-then-is_long : goal.has_long_entry-returns-then-is_long
has_long_entry-returns-then-is_long g t c i first count row =
    let image : Image = current_words (g.R.Region.memory c.args.region.now) in
    let index : ℕ = c.loop-index.index in
    let inside : index < count = omega (arith, row.long) in
    let reports = c.is_long.ensures i (first + index) (rw c.in_row-view.ensures (entry_of image (root_of image i) first count index c.args.words.now row inside)) in (
      λ yes. record { slot = first + index; low = omega arith; high = omega (arith, inside); is = reports.0 c.if-is_long.true },
      λ has. refl,
    )

pub has_long_entry-loop-index-preserved : goal.has_long_entry-loop-index-preserved
has_long_entry-loop-index-preserved g t c i first count row =
    let image : Image = current_words (g.R.Region.memory c.args.region.now) in
    let index : ℕ = c.loop-index.index in
    let inside : index < count = omega (arith, row.long) in
    let reports = c.is_long.ensures i (first + index) (rw c.in_row-view.ensures (entry_of image (root_of image i) first count index c.args.words.now row inside)) in
    let no = c.if-is_long.false in
    none_more image i c.args.left first index (c.loop-index.invariant i first count row) (λ is. let yes = reports.1 is in absurd (cc))

pub has_long_entry-returns : goal.has_long_entry-returns
has_long_entry-returns g t c i first count row =
    let image : Image = current_words (g.R.Region.memory c.args.region.now) in
    let all : c.loop-index.index ≡ count = omega (arith, row.long) in
    (λ yes. absurd (cc), λ has. absurd (c.loop-index.invariant i first count row (subst (λ n. HasLongEntry image i first n c.args.left) (sym all) has)))

-- ---- the rows of a directory

pub has_long_path-has_long_entry-requires : goal.has_long_path-has_long_entry-requires
has_long_path-has_long_entry-requires g t c κs within =
    let image : Image = current_words (g.R.Region.memory c.args.region.now) in
    let i : ℕ = c.args.ino in
    let leaf : ℕ = c.loop-leaf.leaf in
    let live : 16 * leaf < entry_count image i = omega (arith, c.leaf_count-leaf-end.ensures.most leaf c.loop-leaf-test.true, c.tree_of-tree.ensures.size) in (
      omega (arith, c.decreases),
      (
        within,
        (
          c.requires.well_formed,
          row_reached image c.requires.well_formed i c.requires.reached c.requires.directory (16 * leaf) (min 16 (entry_count image i - 16 * leaf)) _ (omega (arith, live))
              (row_at image i _ _ leaf _ c.tree_of-tree.ensures.root c.tree_of-tree.ensures.size c.in-Some.ensures.some),
        ),
      ),
    )

pub has_long_path-returns-then-has_long_entry : goal.has_long_path-returns-then-has_long_entry
has_long_path-returns-then-has_long_entry g t c =
    let image : Image = current_words (g.R.Region.memory c.args.region.now) in
    let i : ℕ = c.args.ino in
    let leaf : ℕ = c.loop-leaf.leaf in
    let live : 16 * leaf < entry_count image i = omega (arith, c.leaf_count-leaf-end.ensures.most leaf c.loop-leaf-test.true, c.tree_of-tree.ensures.size) in
    let row = row_at image i _ _ leaf _ c.tree_of-tree.ensures.root c.tree_of-tree.ensures.size c.in-Some.ensures.some in
    let reports = c.has_long_entry.ensures i (16 * leaf) (min 16 (entry_count image i - 16 * leaf)) row in (
      λ yes. path_from_entry image c.requires.well_formed i c.requires.reached c.requires.directory c.args.left
          (long_inside image i c.args.left (16 * leaf) (min 16 (entry_count image i - 16 * leaf)) (entry_count image i) (omega (arith, live)) (reports.0 c.if-has_long_entry.true)),
      λ has. refl,
    )

pub has_long_path-loop-leaf-preserved : goal.has_long_path-loop-leaf-preserved
has_long_path-loop-leaf-preserved g t c =
    let image : Image = current_words (g.R.Region.memory c.args.region.now) in
    let i : ℕ = c.args.ino in
    let leaf : ℕ = c.loop-leaf.leaf in
    let live : 16 * leaf < entry_count image i = omega (arith, c.leaf_count-leaf-end.ensures.most leaf c.loop-leaf-test.true, c.tree_of-tree.ensures.size) in
    elim c.match-entry_row.branch [
      | has_long_path-in-Some+else-has_long_entry w ↦
          let row = row_at image i _ _ leaf _ c.tree_of-tree.ensures.root c.tree_of-tree.ensures.size w.in-Some.ensures.some in
          let reports = w.has_long_entry.ensures i (16 * leaf) (min 16 (entry_count image i - 16 * leaf)) row in
          let no = w.if-has_long_entry.false in
          leaf_more image i c.args.left leaf (entry_count image i) live c.loop-leaf.invariant (λ has. let yes = reports.1 has in absurd (cc))
      | has_long_path-in_default w ↦
          leaf_more image i c.args.left leaf (entry_count image i) live c.loop-leaf.invariant
          (none_empty image i c.args.left (16 * leaf) (min 16 (entry_count image i - 16 * leaf))
          (λ slot low high. ap (λ r. ino_in image r slot) (sym c.tree_of-tree.ensures.root) ∙ w.in_default.ensures.none slot low (omega (arith, high))))
    ]

pub has_long_path-returns : goal.has_long_path-returns
has_long_path-returns g t c =
    let image : Image = current_words (g.R.Region.memory c.args.region.now) in
    let i : ℕ = c.args.ino in
    let all : min (16 * c.loop-leaf.leaf) (entry_count image i) ≡ entry_count image i = omega (arith, c.leaf_count-leaf-end.ensures.all, c.loop-leaf-test.false, c.tree_of-tree.ensures.size) in (
      λ yes. absurd (cc),
      λ has. absurd (c.loop-leaf.invariant (subst (λ n. HasLongEntry image i 0 n c.args.left) (sym all) (entry_from_path image i c.args.left has))),
    )
