-- A name has moved into an empty entry of another directory: that it is performed, and that the sets are exact.
use Rattle.std.proofs.Common.{◌≡◌, ◌≢◌, ℕ, suc, ◌+◌, ◌*◌, ◌%◌, ◌<◌, ◌≤◌, List, [], ◌∷◌, ◌++◌, ◌==◌, if◌then◌else◌, length, flat_map, Bool, Some, refl, sym, ◌∙◌, ap, ap₂, subst, arith, inl}
use Rattle.bp_layout.specs.Directory.{empty_slot}
use Rattle.bp_layout.specs.Inode.{kind_of, root_of, size_of}
use Rattle.bp_layout.specs.Members.{Has}
use Rattle.bp_layout.specs.Need.{Beyond, Change, beyond, common_all, content_path, copied, cover, height_after, is_there_after, need, new_entry, new_inodes, preparation, prepared_for}
use Rattle.bp_layout.specs.Need.Change.{moves}
use Rattle.bp_layout.specs.Need as layout
use Rattle.std.specs.List.{fold}
use Rattle.bp_layout.specs.Nodes.{height_with}
use Rattle.bp_layout.specs.Thaw.{cover_now, thawed}
use Rattle.bp_layout.specs.WordPaths.{WordPath, is_pointed, tree_path}
use Rattle.bp_layout.specs.Words.{Image, height_of}
use Rattle.bp_changes.proofs.FreeSets.{wf_forest}
use Rattle.bp_read.proofs.ExistingPaths.{AllThere, content_path-there}
use Rattle.bp_changes.specs.Forest.{IsTreePointer}
use Rattle.bp_changes.specs.Trail.{trail_of}
use Rattle.bp_cow.specs.Commit.{HasLooseCover}
use Rattle.bp_cow.specs.Cover.{LeadsInside, commit_cover, copied_count, copied_paths}
use Rattle.bp_cow.specs.Touched.{IsTouched, NoneBegins, all_paths, path_of, word_paths}
use Rattle.bp_cow.specs.declared.touched.Touched.{Touched}
use Rattle.bp_rename.specs.CanRename.{CanRename, moved_inode}
use Rattle.bp_rename.specs.TouchesTwo.{AnyTree, TouchesTwo, ino_path}
use Rattle.bp_rename.specs.declared.moves.Move.{Move}
use Rattle.bp_calls.proofs.Refusals.{found_empty}
use Rattle.bp_cow.proofs.CopiesNeed.{has-word}
use Rattle.bp_rename.proofs.LooseCovers.{cover_loose, now_whole}
use Rattle.bp_rename.proofs.RenameTargets.{into_among, into_touched}
use Rattle.bp_rename.proofs.ContentWords.{AreContent, words_apart, words_prefixes, words_inside, words_shape}
use Rattle.bp_rename.proofs.TwoWords.{has_first, pick, two_are, two_few, two_paths}
use Rattle.bp_rename.proofs.WholePaths.{cover-whole, pointed-directory}

-- ---- what is touched, reported on the image before

module _ (image : Image) (move : Move) (s : ℕ) (can : CanRename image move) (other : move.from_dir ≢ move.to_dir) (found : empty_slot image move.to_dir ≡ Some s)
    (touched : Touched) (is : TouchesTwo image AnyTree touched (ino_path image move.to_dir s) (ino_path image move.from_dir move.from_slot) (moved_inode image move) 0) where
  abbrev change : Change
  change = moves move.from_dir move.from_slot move.to_dir

  low_target : 8 * (32 * s + 0) < size_of image move.to_dir
  low_target = let low = (found_empty image move.to_dir s found).0 in omega (arith, low)

  low_source : 8 * (32 * move.from_slot + 0) < size_of image move.from_dir
  low_source = omega (arith, can.entry.in_size)

  are : AreContent image (size_of image) touched (pick move.to_dir move.from_dir) (pick (32 * s + 0) (32 * move.from_slot + 0))
  are =
      two_are image touched move.to_dir (32 * s + 0) move.from_dir (32 * move.from_slot + 0) (moved_inode image move) 0 is (size_of image) can.target can.source low_target low_source
      (no_file move.to_dir (32 * s + 0) can.directory) (no_file move.from_dir (32 * move.from_slot + 0) can.entry.directory)
      (λ e f. other (sym e)) (λ t any. omega arith)
    where
      no_file : (t l : ℕ) → kind_of image t ≡ 2 → t ≡ 0 → l % 8 ≢ 1
      no_file t l kind e = let two : kind_of image 0 ≡ 2 = subst (λ x. kind_of image x ≡ 2) e kind in absurd (omega (arith, two))

  pub into_shape : IsTouched touched
  into_shape = words_shape image (size_of image) (wf_forest image can.well_formed) touched (pick move.to_dir move.from_dir) (pick (32 * s + 0) (32 * move.from_slot + 0)) are

  pub into_inside : LeadsInside image touched
  into_inside = words_inside image (size_of image) (wf_forest image can.well_formed) touched (pick move.to_dir move.from_dir) (pick (32 * s + 0) (32 * move.from_slot + 0)) are can.well_formed

  pub into_apart : NoneBegins (all_paths touched)
  into_apart = words_apart image (size_of image) (wf_forest image can.well_formed) touched (pick move.to_dir move.from_dir) (pick (32 * s + 0) (32 * move.from_slot + 0)) are

  nothing_beyond : beyond image (moves move.from_dir move.from_slot move.to_dir) ≡ []
  nothing_beyond = ap (new_entry image move.to_dir) found

  heights : (t : ℕ) → height_after image (moves move.from_dir move.from_slot move.to_dir) t ≡ height_of (root_of image t)
  heights t =
      ap (λ (bs : List Beyond). fold (λ h (b : Beyond). if b.tree == t then height_with (root_of image t) (size_of image t) b.to else h) (height_of (root_of image t)) (bs ++ new_inodes image (moves move.from_dir move.from_slot move.to_dir))) nothing_beyond

  touched_is : layout.touched image (moves move.from_dir move.from_slot move.to_dir) ≡ ino_path image move.to_dir s ∷ ino_path image move.from_dir move.from_slot ∷ []
  touched_is =
      ap (λ o. layout.entered image (moves move.from_dir move.from_slot move.to_dir) move.to_dir o ∷ layout.entry_path image (moves move.from_dir move.from_slot move.to_dir) move.from_dir move.from_slot 0 ∷ []) found
      ∙ ap (λ h. tree_path h move.to_dir (suc (height_after image (moves move.from_dir move.from_slot move.to_dir) move.to_dir)) (32 * s + 0)
      ∷ tree_path h move.from_dir (suc (height_after image (moves move.from_dir move.from_slot move.to_dir) move.from_dir)) (32 * move.from_slot + 0) ∷ []) (heights 0)
      ∙ ap₂ (λ h k. tree_path (height_of (root_of image 0)) move.to_dir (suc h) (32 * s + 0) ∷ tree_path (height_of (root_of image 0)) move.from_dir (suc k) (32 * move.from_slot + 0) ∷ []) (heights move.to_dir) (heights move.from_dir)

  pub into_paths : all_paths touched ≡ layout.touched image (moves move.from_dir move.from_slot move.to_dir)
  into_paths = two_paths image touched move.to_dir (32 * s + 0) move.from_dir (32 * move.from_slot + 0) (moved_inode image move) 0 is ∙ sym touched_is

  target_there : AllThere (is_there_after image (moves move.from_dir move.from_slot move.to_dir)) [] (ino_path image move.to_dir s)
  target_there =
      subst (AllThere (is_there_after image (moves move.from_dir move.from_slot move.to_dir)) []) path
      (content_path-there image (moves move.from_dir move.from_slot move.to_dir) can.well_formed (heights 0) move.to_dir (32 * s + 0) can.target (heights move.to_dir)
      (can.well_formed.full_directories move.to_dir can.target can.directory) low_target)
    where
      path : content_path image (moves move.from_dir move.from_slot move.to_dir) move.to_dir (32 * s + 0) ≡ ino_path image move.to_dir s
      path = ap₂ (λ h k. tree_path h move.to_dir (suc k) (32 * s + 0)) (heights 0) (heights move.to_dir)

  pub into_whole : cover image (moves move.from_dir move.from_slot move.to_dir) ≡ common_all (layout.touched image (moves move.from_dir move.from_slot move.to_dir))
  into_whole =
      cover-whole (is_there_after image (moves move.from_dir move.from_slot move.to_dir)) (layout.touched image (moves move.from_dir move.from_slot move.to_dir)) (ino_path image move.to_dir s)
      (subst (λ (ps : List WordPath). Has ps (ino_path image move.to_dir s)) (sym touched_is) (inl refl)) target_there

  -- in any image whose paths are as long, the commit copies as many blocks as are needed
  pub into_count : (mid : Image) → commit_cover mid touched ≡ cover image (moves move.from_dir move.from_slot move.to_dir) → copied_count mid touched ≡ need image (moves move.from_dir move.from_slot move.to_dir)
  into_count mid covers =
      let paths : copied_paths mid touched ≡ copied image (moves move.from_dir move.from_slot move.to_dir) =
      ap (λ (path : WordPath). layout.prefixes_of (length path) [] (all_paths touched)) covers
      ∙ ap (λ (paths : List WordPath). layout.prefixes_of (length (cover image (moves move.from_dir move.from_slot move.to_dir))) [] paths) into_paths in
      let nothing : preparation image (moves move.from_dir move.from_slot move.to_dir) ≡ [] = ap (flat_map (prepared_for image)) nothing_beyond in
      let none : length (preparation image (moves move.from_dir move.from_slot move.to_dir)) ≡ 0 = ap length nothing in
      ap (λ (ps : List WordPath). length ps) paths ∙ omega (arith, none)

  pub into_cover : commit_cover image touched ≡ cover image (moves move.from_dir move.from_slot move.to_dir)
  into_cover =
      cover-whole (is_pointed image) (all_paths touched) (ino_path image move.to_dir s)
      (has_first image touched move.to_dir (32 * s + 0) move.from_dir (32 * move.from_slot + 0) (moved_inode image move) 0 is)
      (pointed-directory image can.well_formed move.to_dir (32 * s + 0) can.target can.directory low_target)
      ∙ ap common_all into_paths ∙ sym into_whole

  pub into_need : copied_count image touched ≡ need image (moves move.from_dir move.from_slot move.to_dir)
  into_need = into_count image into_cover

  pub into_few : copied_count image touched ≤ 23
  into_few = two_few image touched move.to_dir (32 * s + 0) move.from_dir (32 * move.from_slot + 0) (moved_inode image move) 0 is into_shape into_apart

  -- the cover is that of the change now
  pub into_now : commit_cover image touched ≡ cover_now image (moves move.from_dir move.from_slot move.to_dir)
  into_now =
      into_cover ∙ into_whole ∙ ap common_all (touched_is ∙ sym (into_touched image move can s found))
      ∙ sym (now_whole image can.well_formed (moves move.from_dir move.from_slot move.to_dir) move.from_dir (32 * move.from_slot + 0) can.source can.entry.directory low_source (into_among image move can s found))

  pub into_some : 0 < length touched.words.now
  into_some = omega (arith, are.some)

  pub into_prefixes : (d : ℕ) → d < length (path_of (word_paths touched) 0) → IsTreePointer image (size_of image) (trail_of (path_of (word_paths touched) 0) d)
  into_prefixes d low = words_prefixes image (size_of image) (wf_forest image can.well_formed) touched (pick move.to_dir move.from_dir) (pick (32 * s + 0) (32 * move.from_slot + 0)) are 0 d into_some low

  -- so it may be stored to where nothing is left to thaw
  pub into_loose : (in_snapshot : ℕ → Bool) → thawed image in_snapshot (moves move.from_dir move.from_slot move.to_dir) ≡ [] → HasLooseCover image in_snapshot touched
  into_loose in_snapshot clear =
      cover_loose image can.well_formed touched into_shape (path_of (word_paths touched) 0) (has-word touched into_shape 0 into_some) into_prefixes
      in_snapshot (moves move.from_dir move.from_slot move.to_dir) into_now clear
