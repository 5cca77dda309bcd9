-- A name moves into an empty entry of another directory: the name is written there first, where nobody sees it.
use Rattle.std.proofs.Common.{◌≡◌, ◌≢◌, ℕ, suc, ◌+◌, ◌-◌, ◌*◌, ◌/◌, ◌<◌, ◌≤◌, [], ◌∷◌, ◌++◌, length, Bool, false, None, Some, refl, sym, ◌∙◌, ap, ap₂, arith}
use Rattle.pm_epochs.specs.declared.event.Event.TheVariants.{Barrier}
use Rattle.pm_epochs.specs.May.{AnyAt, EachMay}
use Rattle.pm_epochs.proofs.CrashLaws.{IsClosed-barrier, quiet-barrier}
use Rattle.pm_epochs.proofs.MayLaws.{StoresMay-append, StoresMay-weaker, quiet_may}
use Rattle.pm_epochs.proofs.PieceLaws.{IsPiece-append, IsPiece-barrier}
use Rattle.pm_region.specs.Memory.{Adds, Memory, current_words}
use Rattle.pm_region.specs.Safe.{AddsMay}
use Rattle.pm_region.proofs.MayLaws.{each_after, may_weaker}
use Rattle.pm_region.proofs.MemoryLaws.{adds_both, current_words-adds}
use Rattle.bp_changes.proofs.PerformsLaws.{same_equivalence}
use Rattle.bp_read.specs.Written.{HasNameAt}
use Rattle.bp_read.specs.Within.{IsWithin}
use Rattle.bp_changes.specs.Performs.{AddsTaking, IsOpen}
use Rattle.bp_changes.specs.Performs.IsOpen.{in_live}
use Rattle.bp_layout.specs.Directory.{EntryNames, empty_slot, entry_count, ino_at, name_at}
use Rattle.bp_layout.specs.Inode.{ContentStandsAt, kind_of, root_of, size_of}
use Rattle.bp_layout.specs.Reached.{IsReached}
use Rattle.bp_layout.specs.Reached.IsReached.{inode_file}
use Rattle.bp_layout.specs.Same.{Same}
use Rattle.bp_layout.specs.WellFormed.{IsWellFormed}
use Rattle.bp_layout.specs.WordPaths.{WordPath, tree_path}
use Rattle.bp_layout.specs.Words.{Image, height_of}
use Rattle.bp_cow.specs.declared.touched.Touched.{Touched}
use Rattle.bp_changes.specs.Effects.{CanMoveEntry, IsAtOrBelow}
use Rattle.bp_calls.specs.Spare.{IsSpare}
use Rattle.bp_calls.proofs.AfterLaws.{kind_after, names_after, prepared_same, prepared_well_formed, reached_after, size_after, slot_named_after}
use Rattle.bp_calls.proofs.EnteredLaws.{not_named}
use Rattle.bp_calls.proofs.OpenPlaces.{content_live, each_weaker}
use Rattle.bp_calls.proofs.ReadBack.{name_read}
use Rattle.bp_calls.proofs.Refusals.{found_empty}
use Rattle.bp_calls.proofs.Spares.{row_stands, spare_entry}
use Rattle.bp_calls.proofs.Trees.{SameTrees, spare_trees, word_kept}
use Rattle.bp_rename.specs.CanRename.{CanRename, moved_inode}
use Rattle.bp_rename.specs.TouchesTwo.{AnyTree, TouchesTwo, ino_path}
use Rattle.bp_rename.specs.declared.moves.Move.{Move}
use Rattle.bp_rename.proofs.ListedTrees.{lists_stay}
use Rattle.bp_rename.proofs.Outside.{below_before}

module _ (old third mid : Memory) (move : Move) (s entry : ℕ) (can : CanRename (current_words old) move) (new : move.to_slot ≡ None) (other : move.from_dir ≢ move.to_dir)
    (found : empty_slot (current_words old) move.to_dir ≡ Some s) (entry_at : ContentStandsAt (current_words old) move.to_dir (32 * s + 0) entry)
    (spells : AddsMay (AnyAt (IsWithin (entry + 1) 31)) 0 31 old third) (spelled : HasNameAt (current_words third) entry move.name.now)
    (ends : Adds third mid (Barrier ∷ [])) where
  abbrev image : Image
  image = current_words old

  in_size : s < entry_count (current_words old) move.to_dir
  in_size = (found_empty (current_words old) move.to_dir s found).0

  empty : ino_at (current_words old) move.to_dir s ≡ 0
  empty = (found_empty (current_words old) move.to_dir s found).1

  -- the words of the name are an empty entry's
  stands : (p : ℕ) → IsWithin (entry + 1) 31 p → ContentStandsAt (current_words old) move.to_dir (32 * s + (p - entry)) p
  stands p inside =
      let low : entry + 1 ≤ p = inside.low in
      let high : p < entry + 1 + 31 = inside.high in
      row_stands (current_words old) move.to_dir (32 * s + 0) (p - entry) (32 * s + (p - entry)) entry p (omega arith) (omega arith) (omega arith) entry_at

  name_spare : (p v : ℕ) → AnyAt (IsWithin (entry + 1) 31) p v → AnyAt (IsSpare (current_words old)) p v
  name_spare p v inside =
      let low : entry + 1 ≤ p = inside.low in
      let high : p < entry + 1 + 31 = inside.high in
      spare_entry (current_words old) can.well_formed move.to_dir s (p - entry) p can.target can.directory in_size empty (omega arith) (omega arith) (stands p inside)

  all_spare : AddsMay (AnyAt (IsSpare (current_words old))) 0 31 old third
  all_spare = may_weaker (AnyAt (IsWithin (entry + 1) 31)) (AnyAt (IsSpare (current_words old))) 0 31 old third name_spare spells

  words : current_words mid ≡ current_words third
  words = current_words-adds third mid (Barrier ∷ []) ends

  pub into_trees : SameTrees (current_words old) (current_words mid)
  into_trees = rw words (spare_trees (current_words old) (current_words third) can.well_formed (each_after (AnyAt (IsSpare (current_words old))) 0 31 old third all_spare))

  -- where the block of the entry is not in the snapshot the name may be stored there
  module _ (in_snapshot : ℕ → Bool) (loose : in_snapshot (entry / 512) ≡ false) where
    abbrev Inside : ℕ → Type 0
    Inside p = IsSpare (current_words old) p × IsOpen (current_words old) in_snapshot [] p

    name_inside : (p v : ℕ) → AnyAt (IsWithin (entry + 1) 31) p v → AnyAt Inside p v
    name_inside p v inside =
        let low : entry + 1 ≤ p = inside.low in
        let high : p < entry + 1 + 31 = inside.high in
        let block : p / 512 ≡ entry / 512 = omega (arith, low, high, entry_at.at) in
        (name_spare p v inside, in_live (content_live (current_words old) move.to_dir (32 * s + (p - entry)) p can.target (omega (arith, in_size, high)) (stands p inside)) (ap in_snapshot block ∙ loose))

    all_inside : AddsMay (AnyAt Inside) 0 31 old third
    all_inside = may_weaker (AnyAt (IsWithin (entry + 1) 31)) (AnyAt Inside) 0 31 old third name_inside spells

    trees_of : (after : Image) → EachMay (AnyAt Inside) (current_words old) after → SameTrees (current_words old) after
    trees_of after all = spare_trees (current_words old) after can.well_formed (each_weaker Inside (IsSpare (current_words old)) (current_words old) after (λ p both. both.0) all)

    pub into_taking : AddsTaking in_snapshot [] 1 31 old mid
    into_taking = record {
      part = record {
        added = all_inside.added ++ Barrier ∷ [];
        adds = adds_both old third mid all_inside.added (Barrier ∷ []) all_inside.adds ends;
        quiet = quiet-barrier Same (current_words old) all_inside.added
            (quiet_may Same same_equivalence (AnyAt Inside) (current_words old) all_inside.added (λ after all. prepared_same (current_words old) after can.well_formed (trees_of after all).prepared) all_inside.may);
        closed = IsClosed-barrier all_inside.added [] tt;
        piece = IsPiece-append 0 31 1 0 all_inside.added (Barrier ∷ []) all_inside.piece IsPiece-barrier;
      };
      takes = record {
        once = tt;
        free = tt;
        stored = tt;
        only = StoresMay-append (AnyAt (IsOpen (current_words old) in_snapshot [])) all_inside.added (Barrier ∷ [])
            (StoresMay-weaker (AnyAt Inside) (AnyAt (IsOpen (current_words old) in_snapshot [])) (λ p v both. both.1) all_inside.added all_inside.may) tt;
      };
    }

  -- ---- the image in the middle

  pub mid_formed : IsWellFormed (current_words mid)
  mid_formed = prepared_well_formed (current_words old) (current_words mid) can.well_formed into_trees.prepared

  pub mid_whole : length (current_words mid) ≡ length (current_words old)
  mid_whole = into_trees.prepared.meaning.trees.whole

  on : (t : ℕ) → IsReached (current_words old) t → IsReached (current_words mid) t
  on = reached_after (current_words old) (current_words mid) can.well_formed into_trees.prepared

  sizes : (t : ℕ) → IsReached (current_words old) t → size_of (current_words mid) t ≡ size_of (current_words old) t
  sizes = size_after (current_words old) (current_words mid) can.well_formed into_trees.prepared

  mid_entry : EntryNames (current_words mid) move.from_dir move.from_slot (moved_inode (current_words old) move)
  mid_entry = names_after (current_words old) (current_words mid) can.well_formed into_trees.prepared move.from_dir move.from_slot (moved_inode (current_words old) move) can.source can.entry

  mid_directory : kind_of (current_words mid) move.to_dir ≡ 2
  mid_directory = kind_after (current_words old) (current_words mid) can.well_formed into_trees.prepared move.to_dir can.target ∙ can.directory

  mid_size : s < entry_count (current_words mid) move.to_dir
  mid_size = rw (sizes move.to_dir can.target) in_size

  pub mid_empty : ino_at (current_words mid) move.to_dir s ≡ 0
  mid_empty = into_trees.prepared.meaning.ino move.to_dir s can.target can.directory in_size ∙ empty

  pub mid_name : name_at (current_words mid) move.to_dir s ≡ move.name.now
  mid_name =
      name_read (current_words mid) (root_of (current_words mid) move.to_dir) s entry move.name.now can.name.short (rw words spelled)
      (λ f some few. word_kept (current_words old) (current_words mid) into_trees move.to_dir (32 * s + f) (entry + f) can.target (omega (arith, in_size, few))
      (row_stands (current_words old) move.to_dir (32 * s + 0) f (32 * s + f) entry (entry + f) (omega arith) refl (omega (arith, few)) entry_at))

  pub into_can : CanMoveEntry (current_words mid) move.from_dir move.from_slot move.to_dir s (moved_inode (current_words old) move)
  into_can = record {
    reached = on move.from_dir can.source;
    entry = mid_entry;
    target = on move.to_dir can.target;
    directory = mid_directory;
    in_size = mid_size;
    apart = λ e. absurd (other e);
    alone = λ x l some. absurd (some mid_empty);
    name = rw mid_name can.name;
    new_name = λ x l n same.
        absurd (not_named (current_words mid) mid_formed move.to_dir move.name.now (on move.to_dir can.target)
        (slot_named_after (current_words old) (current_words mid) can.well_formed into_trees.prepared move.to_dir move.name.now can.target can.directory ∙ can.slot ∙ new)
        x l n (same ∙ mid_name));
  }

  -- nothing moves into itself
  pub mid_outside : IsAtOrBelow (current_words mid) (moved_inode (current_words old) move) move.to_dir → ⊥
  mid_outside below =
      can.outside (below_before (current_words old) (current_words mid) can.well_formed into_trees.prepared.meaning move.from_dir move.from_slot (moved_inode (current_words old) move) can.source can.entry move.to_dir below)

  -- ---- the paths stay

  same_path : (t slot : ℕ) → IsReached (current_words old) t → slot < entry_count (current_words old) t → ino_path (current_words old) t slot ≡ ino_path (current_words mid) t slot
  same_path t slot reached low =
      ap₂ (λ top root. tree_path (height_of top) t (suc (height_of root)) (32 * slot + 0)) (sym (into_trees.root 0 inode_file (omega (arith, can.well_formed.some_inodes)))) (sym (into_trees.root t reached (omega (arith, low))))

  pub mid_touches : (touched : Touched) (one two : ℕ) → TouchesTwo (current_words old) AnyTree touched (ino_path (current_words old) move.to_dir s) (ino_path (current_words old) move.from_dir move.from_slot) one two →
      TouchesTwo (current_words mid) AnyTree touched (ino_path (current_words mid) move.to_dir s) (ino_path (current_words mid) move.from_dir move.from_slot) one two
  mid_touches touched one two is = record {
    none = is.none;
    trees = lists_stay (current_words old) (current_words mid) AnyTree touched.trees.now (ap height_of (into_trees.root 0 inode_file (omega (arith, can.well_formed.some_inodes))))
        (λ t any reached some. (on t reached, (into_trees.root t reached some, sizes t reached))) is.trees;
    paths = is.paths ∙ ap₂ (λ (p q : WordPath). p ∷ q ∷ []) (same_path move.to_dir s can.target in_size) (same_path move.from_dir move.from_slot can.source can.entry.in_size);
    values = is.values;
  }
