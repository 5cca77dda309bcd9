-- A name moves after the last entry of another directory: what is touched, and what that needs.
use Rattle.std.proofs.Common.{◌≡◌, ◌≢◌, ℕ, suc, ◌+◌, ◌*◌, ◌<◌, ◌≤◌, List, [], ◌∷◌, ◌++◌, ◌==◌, if◌then◌else◌, length, flat_map, Bool, None, refl, sym, ◌∙◌, ap, ap₂, subst, arith, inl, inr}
use Rattle.std.specs.List.{fold}
use Rattle.std.proofs.lemmas.Bool.{ne_eqb}
use Rattle.std.proofs.lemmas.List.{append-nil, length-map}
use Rattle.bp_append.specs.Prepared.{need_for}
use Rattle.bp_layout.specs.Directory.{empty_slot, entry_count}
use Rattle.bp_layout.specs.Inode.{inode_count, kind_of, root_of, size_of}
use Rattle.bp_layout.specs.Members.{Has}
use Rattle.bp_layout.specs.Need.{Beyond, beyond, common_all, content_path, copied, cover, growth, height_after, is_there_after, need, new_entry, new_inodes, preparation, prepared_for}
use Rattle.bp_layout.specs.Need.Change.{moves}
use Rattle.bp_layout.specs.Need as layout
use Rattle.bp_layout.specs.Nodes.{height_with, nodes_for}
use Rattle.bp_layout.specs.Reached.{IsReached}
use Rattle.bp_layout.specs.Reached.IsReached.{inode_file}
use Rattle.bp_layout.specs.WellFormed.{IsWellFormed}
use Rattle.bp_layout.specs.Thaw.{cover_now, thawed}
use Rattle.bp_layout.specs.WordPaths.{WordPath, inode_path, is_pointed, tree_path}
use Rattle.bp_layout.specs.Words.{Image, height_of}
use Rattle.bp_layout.proofs.Reached.{reached-in_file}
use Rattle.bp_changes.proofs.FreeSets.{wf_forest}
use Rattle.bp_read.proofs.ExistingPaths.{AllThere, content_path-there}
use Rattle.bp_changes.specs.Forest.{IsTreePointer}
use Rattle.bp_changes.specs.Trail.{trail_of}
use Rattle.bp_cow.specs.Commit.{HasLooseCover}
use Rattle.bp_cow.specs.Cover.{LeadsInside, commit_cover, copied_count, copied_paths}
use Rattle.bp_cow.specs.Touched.{IsTouched, NoneBegins, all_paths, path_of}
use Rattle.bp_cow.specs.declared.touched.Touched.{Touched}
use Rattle.bp_rename.specs.CanRename.{CanRename}
use Rattle.bp_rename.specs.TouchesTwo.{OtherTree, TouchesTwo, ino_path, size_path}
use Rattle.bp_rename.specs.declared.moves.Move.{Move}
use Rattle.bp_rename.proofs.ContentWords.{AreContent, words_apart, words_prefixes, words_inside, words_shape}
use Rattle.bp_rename.proofs.LooseCovers.{cover_loose, now_whole}
use Rattle.bp_rename.proofs.RenameTargets.{past_end_among, past_end_touched}
use Rattle.bp_rename.proofs.TwoWords.{has_second, pick, two_are, two_few, two_paths}
use Rattle.bp_rename.proofs.WholePaths.{cover-whole, pointed-directory}

pub not_inodes : (image : Image) (t : ℕ) → kind_of image t ≡ 2 → t ≡ 0 → ⊥
not_inodes image t kind e = let two : kind_of image 0 ≡ 2 = subst (λ x. kind_of image x ≡ 2) e kind in omega (arith, two)

-- ---- in any image: the size of inode j, and the inode number of an entry (i, s)

module _ (image : Image) (wf : IsWellFormed image) (i s j size : ℕ) (source : IsReached image i) (in_size : s < entry_count image i) (directory : kind_of image i ≡ 2) (target : IsReached image j)
    (touched : Touched) (is : TouchesTwo image (OtherTree j) touched (size_path image j) (ino_path image i s) size 0) where
  low_entry : 8 * (32 * s + 0) < size_of image i
  low_entry = omega (arith, in_size)

  low_size : 8 * (8 * j + 2) < size_of image 0
  low_size = let low : j < inode_count image = reached-in_file image wf j target in omega (arith, low)

  -- under sizes that are no less than those of the image
  pub past_end_are : (bound : ℕ → ℕ) → ((t : ℕ) → size_of image t ≤ bound t) → ((t : ℕ) → t ≢ j → bound t ≤ size_of image t) → AreContent image bound touched (pick 0 i) (pick (8 * j + 2) (32 * s + 0))
  past_end_are bound more fits =
      let top = more 0 in
      let own = more i in
      two_are image touched 0 (8 * j + 2) i (32 * s + 0) size 0 is bound inode_file source (omega (arith, low_size, top)) (omega (arith, low_entry, own))
      (λ e same. omega (arith, same)) (λ e. absurd (not_inodes image i directory e)) (λ e f. not_inodes image i directory (sym e)) fits

  plain : AreContent image (size_of image) touched (pick 0 i) (pick (8 * j + 2) (32 * s + 0))
  plain = past_end_are (size_of image) (λ t. omega arith) (λ t apart. omega arith)

  pub past_end_shape : IsTouched touched
  past_end_shape = words_shape image (size_of image) (wf_forest image wf) touched (pick 0 i) (pick (8 * j + 2) (32 * s + 0)) plain

  pub past_end_inside : LeadsInside image touched
  past_end_inside = words_inside image (size_of image) (wf_forest image wf) touched (pick 0 i) (pick (8 * j + 2) (32 * s + 0)) plain wf

  pub past_end_apart : NoneBegins (all_paths touched)
  past_end_apart = words_apart image (size_of image) (wf_forest image wf) touched (pick 0 i) (pick (8 * j + 2) (32 * s + 0)) plain

  pub past_end_few : copied_count image touched ≤ 23
  past_end_few = two_few image touched 0 (8 * j + 2) i (32 * s + 0) size 0 is past_end_shape past_end_apart

  -- a directory has no nulls, so the cover is all with which both paths begin
  pub past_end_cover : commit_cover image touched ≡ common_all (size_path image j ∷ ino_path image i s ∷ [])
  past_end_cover =
      cover-whole (is_pointed image) (all_paths touched) (ino_path image i s) (has_second image touched 0 (8 * j + 2) i (32 * s + 0) size 0 is)
      (pointed-directory image wf i (32 * s + 0) source directory low_entry)
      ∙ ap common_all (two_paths image touched 0 (8 * j + 2) i (32 * s + 0) size 0 is)

-- ---- the need, reported on the image before

module _ (image : Image) (move : Move) (can : CanRename image move) (other : move.from_dir ≢ move.to_dir) (none : empty_slot image move.to_dir ≡ None) where
  beyond_is : beyond image (moves move.from_dir move.from_slot move.to_dir) ≡ record { tree = move.to_dir; from = size_of image move.to_dir; to = size_of image move.to_dir + 256 } ∷ []
  beyond_is = ap (new_entry image move.to_dir) none

  -- no other tree gets higher
  heights : (t : ℕ) → move.to_dir ≢ t → height_after image (moves move.from_dir move.from_slot move.to_dir) t ≡ height_of (root_of image t)
  heights t apart =
      ap (λ bs. fold (λ h (b : Beyond). if b.tree == t then height_with (root_of image t) (size_of image t) b.to else h) (height_of (root_of image t)) (bs ++ new_inodes image (moves move.from_dir move.from_slot move.to_dir))) beyond_is
      ∙ rw (ne_eqb move.to_dir t apart) refl

  top : height_after image (moves move.from_dir move.from_slot move.to_dir) 0 ≡ height_of (root_of image 0)
  top = heights 0 (λ e. not_inodes image move.to_dir can.directory e)

  source : height_after image (moves move.from_dir move.from_slot move.to_dir) move.from_dir ≡ height_of (root_of image move.from_dir)
  source = heights move.from_dir (λ e. other (sym e))

  touched_is : layout.touched image (moves move.from_dir move.from_slot move.to_dir) ≡ size_path image move.to_dir ∷ ino_path image move.from_dir move.from_slot ∷ []
  touched_is =
      ap (λ o. layout.entered image (moves move.from_dir move.from_slot move.to_dir) move.to_dir o ∷ layout.entry_path image (moves move.from_dir move.from_slot move.to_dir) move.from_dir move.from_slot 0 ∷ []) none
      ∙ ap₂ (λ h k. inode_path h move.to_dir 2 ∷ tree_path h move.from_dir (suc k) (32 * move.from_slot + 0) ∷ []) top source

  low : 8 * (32 * move.from_slot + 0) < size_of image move.from_dir
  low = omega (arith, can.entry.in_size)

  entry_there : AllThere (is_there_after image (moves move.from_dir move.from_slot move.to_dir)) [] (ino_path image move.from_dir move.from_slot)
  entry_there =
      subst (AllThere (is_there_after image (moves move.from_dir move.from_slot move.to_dir)) []) path
      (content_path-there image (moves move.from_dir move.from_slot move.to_dir) can.well_formed top move.from_dir (32 * move.from_slot + 0) can.source source
      (can.well_formed.full_directories move.from_dir can.source can.entry.directory) low)
    where
      path : content_path image (moves move.from_dir move.from_slot move.to_dir) move.from_dir (32 * move.from_slot + 0) ≡ ino_path image move.from_dir move.from_slot
      path = ap₂ (λ h k. tree_path h move.from_dir (suc k) (32 * move.from_slot + 0)) top source

  pub past_end_whole_cover : cover image (moves move.from_dir move.from_slot move.to_dir) ≡ common_all (size_path image move.to_dir ∷ ino_path image move.from_dir move.from_slot ∷ [])
  past_end_whole_cover =
      cover-whole (is_there_after image (moves move.from_dir move.from_slot move.to_dir)) (layout.touched image (moves move.from_dir move.from_slot move.to_dir)) (ino_path image move.from_dir move.from_slot)
      (subst (λ (ps : List WordPath). Has ps (ino_path image move.from_dir move.from_slot)) (sym touched_is) (inr (inl refl))) entry_there
      ∙ ap common_all touched_is

  -- the nodes of the next entry's bytes are made
  made : length (preparation image (moves move.from_dir move.from_slot move.to_dir)) ≡ need_for image move.to_dir (size_of image move.to_dir) (size_of image move.to_dir + 256)
  made =
      let next : Beyond = record { tree = move.to_dir; from = size_of image move.to_dir; to = size_of image move.to_dir + 256 } in
      ap (λ bs. length (flat_map (prepared_for image) bs)) beyond_is
      ∙ ap length (append-nil (prepared_for image next))
      ∙ length-map (nodes_for image (root_of image move.to_dir) (size_of image move.to_dir) (size_of image move.to_dir) (size_of image move.to_dir + 256)) _

  -- In any image whose paths are these, the commit copies what is needed beside them.
  module _ (touched : Touched) (paths : all_paths touched ≡ size_path image move.to_dir ∷ ino_path image move.from_dir move.from_slot ∷ []) where
    pub past_end_needs : (mid : Image) → commit_cover mid touched ≡ common_all (size_path image move.to_dir ∷ ino_path image move.from_dir move.from_slot ∷ []) →
        need image (moves move.from_dir move.from_slot move.to_dir) ≡ need_for image move.to_dir (size_of image move.to_dir) (size_of image move.to_dir + 256) + copied_count mid touched
    past_end_needs mid covers =
        let same : copied_paths mid touched ≡ copied image (moves move.from_dir move.from_slot move.to_dir) =
        ap (λ (path : WordPath). layout.prefixes_of (length path) [] (all_paths touched)) (covers ∙ sym past_end_whole_cover)
        ∙ ap (λ (ps : List WordPath). layout.prefixes_of (length (cover image (moves move.from_dir move.from_slot move.to_dir))) [] ps) (paths ∙ sym touched_is) in
        let count : copied_count mid touched ≡ length (copied image (moves move.from_dir move.from_slot move.to_dir)) = ap (λ (ps : List WordPath). length ps) same in
        let nothing : length (growth image (moves move.from_dir move.from_slot move.to_dir)) ≡ 0 = refl in
        omega (arith, made, count, nothing)

  -- for what is touched
  module _ (touched : Touched) (is : TouchesTwo image (OtherTree move.to_dir) touched (size_path image move.to_dir) (ino_path image move.from_dir move.from_slot) (size_of image move.to_dir + 256) 0) where
    pub touched_paths : all_paths touched ≡ size_path image move.to_dir ∷ ino_path image move.from_dir move.from_slot ∷ []
    touched_paths = two_paths image touched 0 (8 * move.to_dir + 2) move.from_dir (32 * move.from_slot + 0) (size_of image move.to_dir + 256) 0 is

    pub touched_shape : IsTouched touched
    touched_shape = past_end_shape image can.well_formed move.from_dir move.from_slot move.to_dir (size_of image move.to_dir + 256) can.source can.entry.in_size can.entry.directory can.target touched is

    pub touched_inside : LeadsInside image touched
    touched_inside = past_end_inside image can.well_formed move.from_dir move.from_slot move.to_dir (size_of image move.to_dir + 256) can.source can.entry.in_size can.entry.directory can.target touched is

    pub touched_apart : NoneBegins (all_paths touched)
    touched_apart = past_end_apart image can.well_formed move.from_dir move.from_slot move.to_dir (size_of image move.to_dir + 256) can.source can.entry.in_size can.entry.directory can.target touched is

    pub touched_few : copied_count image touched ≤ 23
    touched_few = past_end_few image can.well_formed move.from_dir move.from_slot move.to_dir (size_of image move.to_dir + 256) can.source can.entry.in_size can.entry.directory can.target touched is

    pub touched_needs : need image (moves move.from_dir move.from_slot move.to_dir) ≡ need_for image move.to_dir (size_of image move.to_dir) (size_of image move.to_dir + 256) + copied_count image touched
    touched_needs =
        past_end_needs touched touched_paths image
        (past_end_cover image can.well_formed move.from_dir move.from_slot move.to_dir (size_of image move.to_dir + 256) can.source can.entry.in_size can.entry.directory can.target touched is)

    -- the cover is that of the change now
    pub touched_now : commit_cover image touched ≡ cover_now image (moves move.from_dir move.from_slot move.to_dir)
    touched_now =
        past_end_cover image can.well_formed move.from_dir move.from_slot move.to_dir (size_of image move.to_dir + 256) can.source can.entry.in_size can.entry.directory can.target touched is
        ∙ ap common_all (sym (past_end_touched image move can none))
        ∙ sym (now_whole image can.well_formed (moves move.from_dir move.from_slot move.to_dir) move.from_dir (32 * move.from_slot + 0) can.source can.entry.directory low (past_end_among image move can none))

    -- the size is the first of them
    pub touched_size : Has (all_paths touched) (size_path image move.to_dir)
    touched_size = subst (λ (ps : List WordPath). Has ps (size_path image move.to_dir)) (sym touched_paths) (inl refl)

    pub size_prefixes : (d : ℕ) → d < length (size_path image move.to_dir) → IsTreePointer image (size_of image) (trail_of (size_path image move.to_dir) d)
    size_prefixes =
        subst (λ (p : WordPath). (d : ℕ) → d < length p → IsTreePointer image (size_of image) (trail_of p d)) (ap (λ (ps : List WordPath). path_of ps 0) is.paths)
        (λ d low. words_prefixes image (size_of image) (wf_forest image can.well_formed) touched (pick 0 move.from_dir) (pick (8 * move.to_dir + 2) (32 * move.from_slot + 0)) these 0 d (omega (arith, these.some)) low)
      where
        these : AreContent image (size_of image) touched (pick 0 move.from_dir) (pick (8 * move.to_dir + 2) (32 * move.from_slot + 0))
        these = plain image can.well_formed move.from_dir move.from_slot move.to_dir (size_of image move.to_dir + 256) can.source can.entry.in_size can.entry.directory can.target touched is

    -- so the word of the cover may be stored to where nothing is left to thaw
    pub touched_loose : (in_snapshot : ℕ → Bool) → thawed image in_snapshot (moves move.from_dir move.from_slot move.to_dir) ≡ [] → HasLooseCover image in_snapshot touched
    touched_loose in_snapshot clear = cover_loose image can.well_formed touched touched_shape (size_path image move.to_dir) touched_size size_prefixes in_snapshot (moves move.from_dir move.from_slot move.to_dir) touched_now clear
