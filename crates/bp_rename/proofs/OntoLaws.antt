-- A name moves onto another one: what the commit asks, that it is performed, and what comes back.
use Rattle.std.proofs.Common.{◌≡◌, ◌≢◌, ℕ, ◌+◌, ◌*◌, ◌%◌, ◌<◌, ◌≤◌, List, [], ◌∷◌, length, Bool, Some, refl, sym, ◌∙◌, ap, ap₂, subst, arith, inl}
use Rattle.bp_limits.specs.Limits.{block_inodes, max_blocks}
use Rattle.bp_layout.specs.Directory.{EntryNames, ino_at, name_at}
use Rattle.bp_layout.specs.Free.{AreUnheld}
use Rattle.bp_layout.specs.Inode.{kind_of, size_of}
use Rattle.bp_layout.specs.Need.{Change, cover, copied, need, is_there_after, common_all}
use Rattle.bp_layout.specs.Need.Change.{replaces}
use Rattle.bp_layout.specs.Need as layout
use Rattle.bp_layout.specs.Reached.{IsReached}
use Rattle.bp_layout.specs.Reached.IsReached.{named}
use Rattle.bp_layout.specs.Thaw.{cover_now, thawed}
use Rattle.bp_layout.specs.WellFormed.{IsWellFormed}
use Rattle.bp_layout.specs.WordPaths.{WordPath, is_pointed}
use Rattle.bp_layout.specs.Words.{Image}
use Rattle.bp_changes.specs.Effects.{CanMoveEntry}
use Rattle.bp_changes.proofs.FreeSets.{wf_forest}
use Rattle.bp_read.proofs.ExistingPaths.{AllThere, content_path-there}
use Rattle.bp_cow.specs.CanCommit.{CanCommit}
use Rattle.bp_cow.specs.Commit.{HasLooseCover}
use Rattle.bp_cow.specs.Cover.{LeadsInside, commit_cover, copied_count, copied_paths}
use Rattle.bp_cow.specs.Touched.{IsTouched, NoneBegins, all_paths, path_of, word_paths}
use Rattle.bp_cow.specs.declared.touched.Touched.{Touched}
use Rattle.bp_calls.proofs.ReadingLaws.{few_inode}
use Rattle.bp_rename.specs.CanRename.{CanRename, moved_inode}
use Rattle.bp_rename.specs.TouchesTwo.{AnyTree, TouchesTwo, ino_path}
use Rattle.bp_rename.specs.declared.moves.Move.{Move}
use Rattle.bp_rename.proofs.ContentWords.{AreContent, words_apart, words_can, words_prefixes, words_inside, words_shape}
use Rattle.bp_cow.proofs.CopiesNeed.{has-word}
use Rattle.bp_rename.proofs.LooseCovers.{cover_loose, now_whole}
use Rattle.bp_rename.proofs.FoundNames.{found_entry, found_name}
use Rattle.bp_rename.proofs.TwoWords.{has_first, pick, two_are, two_few, two_paths}
use Rattle.bp_rename.proofs.WholePaths.{cover-whole, pointed-directory}

module _ (image : Image) (move : Move) (r : ℕ) (can : CanRename image move) (onto : move.to_slot ≡ Some r) where
  abbrev wf : IsWellFormed image
  wf = can.well_formed

  pub replaced : EntryNames image move.to_dir r (ino_at image move.to_dir r)
  replaced = found_entry image move.to_dir r move.name.now can.directory (can.slot ∙ onto)

  pub spelled : name_at image move.to_dir r ≡ move.name.now
  spelled = found_name image move.to_dir r move.name.now can.directory (can.slot ∙ onto)

  -- two entries that name two inodes are two
  apart_entries : move.from_dir ≡ move.to_dir → move.from_slot ≡ r → ⊥
  apart_entries e f = can.apart r onto (ap₂ (ino_at image) (sym e) (sym f))

  pub onto_can : CanMoveEntry image move.from_dir move.from_slot move.to_dir r (moved_inode image move)
  onto_can = record {
    reached = can.source;
    entry = can.entry;
    target = can.target;
    directory = can.directory;
    in_size = replaced.in_size;
    apart = apart_entries;
    alone = λ x l some n. can.alone r x l onto n;
    name = rw spelled can.name;
    new_name = λ x l n same. can.well_formed.names_once move.to_dir x r l (ino_at image move.to_dir r) can.target n replaced same;
  }

  pub replaced_reached : IsReached image (ino_at image move.to_dir r)
  replaced_reached = named r can.target replaced

  pub replaced_some : ino_at image move.to_dir r ≢ 0
  replaced_some = replaced.not_empty

  pub replaced_few : ino_at image move.to_dir r < block_inodes * max_blocks
  replaced_few = few_inode image can.well_formed (ino_at image move.to_dir r) (can.well_formed.inos move.to_dir r (ino_at image move.to_dir r) can.target replaced)

  low_source : 8 * (32 * move.from_slot + 0) < size_of image move.from_dir
  low_source = omega (arith, can.entry.in_size)

  low_target : 8 * (32 * r + 0) < size_of image move.to_dir
  low_target = omega (arith, replaced.in_size)

  no_directory : (t l : ℕ) → kind_of image t ≡ 2 → t ≡ 0 → l % 8 ≢ 1
  no_directory t l kind e = let two : kind_of image 0 ≡ 2 = subst (λ x. kind_of image x ≡ 2) e kind in absurd (omega (arith, two))

  abbrev change : Change
  change = replaces move.from_dir move.from_slot move.to_dir r

  source_there : AllThere (is_there_after image (replaces move.from_dir move.from_slot move.to_dir r)) [] (ino_path image move.from_dir move.from_slot)
  source_there =
      content_path-there image (replaces move.from_dir move.from_slot move.to_dir r) can.well_formed refl move.from_dir (32 * move.from_slot + 0) can.source refl
      (can.well_formed.full_directories move.from_dir can.source can.entry.directory) low_source

  -- ---- what is touched

  module _ (touched : Touched) (is : TouchesTwo image AnyTree touched (ino_path image move.from_dir move.from_slot) (ino_path image move.to_dir r) 0 (moved_inode image move)) where
    pub are : AreContent image (size_of image) touched (pick move.from_dir move.to_dir) (pick (32 * move.from_slot + 0) (32 * r + 0))
    are =
        two_are image touched move.from_dir (32 * move.from_slot + 0) move.to_dir (32 * r + 0) 0 (moved_inode image move) is (size_of image) can.source can.target low_source low_target
        (no_directory move.from_dir (32 * move.from_slot + 0) can.entry.directory) (no_directory move.to_dir (32 * r + 0) can.directory)
        (λ e f. apart_entries e (omega (arith, f))) (λ t any. omega arith)

    pub onto_shape : IsTouched touched
    onto_shape = words_shape image (size_of image) (wf_forest image can.well_formed) touched (pick move.from_dir move.to_dir) (pick (32 * move.from_slot + 0) (32 * r + 0)) are

    pub onto_inside : LeadsInside image touched
    onto_inside = words_inside image (size_of image) (wf_forest image can.well_formed) touched (pick move.from_dir move.to_dir) (pick (32 * move.from_slot + 0) (32 * r + 0)) are can.well_formed

    pub onto_apart : NoneBegins (all_paths touched)
    onto_apart = words_apart image (size_of image) (wf_forest image can.well_formed) touched (pick move.from_dir move.to_dir) (pick (32 * move.from_slot + 0) (32 * r + 0)) are

    pub onto_commit : {in_snapshot : ℕ → Bool} (free : ℕ → Bool) → AreUnheld image (IsReached image) (size_of image) in_snapshot free → CanCommit image (size_of image) in_snapshot touched free
    onto_commit free exact = words_can image (size_of image) (wf_forest image can.well_formed) touched (pick move.from_dir move.to_dir) (pick (32 * move.from_slot + 0) (32 * r + 0)) are (λ t q. omega arith) free exact

    all_touched : all_paths touched ≡ ino_path image move.from_dir move.from_slot ∷ ino_path image move.to_dir r ∷ []
    all_touched = two_paths image touched move.from_dir (32 * move.from_slot + 0) move.to_dir (32 * r + 0) 0 (moved_inode image move) is

    pub onto_cover : commit_cover image touched ≡ cover image (replaces move.from_dir move.from_slot move.to_dir r)
    onto_cover =
        cover-whole (is_pointed image) (all_paths touched) (ino_path image move.from_dir move.from_slot)
        (has_first image touched move.from_dir (32 * move.from_slot + 0) move.to_dir (32 * r + 0) 0 (moved_inode image move) is)
        (pointed-directory image can.well_formed move.from_dir (32 * move.from_slot + 0) can.source can.entry.directory low_source)
        ∙ ap common_all all_touched
        ∙ sym (cover-whole (is_there_after image (replaces move.from_dir move.from_slot move.to_dir r)) (layout.touched image (replaces move.from_dir move.from_slot move.to_dir r)) (ino_path image move.from_dir move.from_slot) (inl refl) source_there)

    pub onto_need : copied_count image touched ≡ need image (replaces move.from_dir move.from_slot move.to_dir r)
    onto_need =
        let paths : copied_paths image touched ≡ copied image (replaces move.from_dir move.from_slot move.to_dir r) =
        ap (λ (path : WordPath). layout.prefixes_of (length path) [] (all_paths touched)) onto_cover
        ∙ ap (λ (paths : List WordPath). layout.prefixes_of (length (cover image (replaces move.from_dir move.from_slot move.to_dir r))) [] paths) all_touched in
        ap (λ (ps : List WordPath). length ps) paths ∙ omega arith

    pub onto_few : copied_count image touched ≤ 23
    onto_few = two_few image touched move.from_dir (32 * move.from_slot + 0) move.to_dir (32 * r + 0) 0 (moved_inode image move) is onto_shape onto_apart

    -- the cover is that of the change now
    pub onto_now : commit_cover image touched ≡ cover_now image (replaces move.from_dir move.from_slot move.to_dir r)
    onto_now =
        cover-whole (is_pointed image) (all_paths touched) (ino_path image move.from_dir move.from_slot)
        (has_first image touched move.from_dir (32 * move.from_slot + 0) move.to_dir (32 * r + 0) 0 (moved_inode image move) is)
        (pointed-directory image can.well_formed move.from_dir (32 * move.from_slot + 0) can.source can.entry.directory low_source)
        ∙ ap common_all all_touched
        ∙ sym (now_whole image can.well_formed (replaces move.from_dir move.from_slot move.to_dir r) move.from_dir (32 * move.from_slot + 0) can.source can.entry.directory low_source (inl refl))

    -- so it may be stored to where nothing is left to thaw
    pub onto_loose : (in_snapshot : ℕ → Bool) → thawed image in_snapshot (replaces move.from_dir move.from_slot move.to_dir r) ≡ [] → HasLooseCover image in_snapshot touched
    onto_loose in_snapshot clear =
        let some : 0 < length touched.words.now = omega (arith, are.some) in
        cover_loose image can.well_formed touched onto_shape (path_of (word_paths touched) 0) (has-word touched onto_shape 0 some)
        (λ d low. words_prefixes image (size_of image) (wf_forest image can.well_formed) touched (pick move.from_dir move.to_dir) (pick (32 * move.from_slot + 0) (32 * r + 0)) are 0 d some low)
        in_snapshot (replaces move.from_dir move.from_slot move.to_dir r) onto_now clear
