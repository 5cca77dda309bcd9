-- The words near which a rename stores, and the ways to them.
use Rattle.std.proofs.Common.{◌≡◌, ◌≢◌, ◌⊎◌, ℕ, zero, suc, ◌+◌, ◌-◌, ◌*◌, ◌/◌, ◌<◌, ◌≤◌, List, [], ◌∷◌, ◌++◌, flat_map, length, Bool, false, Option, None, Some, refl, sym, ◌∙◌, ap, subst, arith, inl, inr}
use Rattle.std.proofs.lemmas.Bool.{cases_eq}
use Rattle.bp_layout.specs.Directory.{empty_slot}
use Rattle.bp_layout.specs.Inode.{ContentStandsAt, root_of, size_of}
use Rattle.bp_layout.specs.Members.{Has}
use Rattle.bp_layout.specs.Need.{Change, entered_at, entry_path_at, new_entry, touched_at}
use Rattle.bp_layout.specs.Need.Change.{moves, replaces, respells}
use Rattle.bp_layout.specs.Thaw.{cover_now, end_path_now, end_targets, heights_now, root_path_now, slot_target, targets, thawed}
use Rattle.bp_layout.specs.Tree.{node}
use Rattle.bp_layout.specs.WordPaths.{WordPath, inode_path, tree_path}
use Rattle.std.proofs.lemmas.List.{append-nil}
use Rattle.bp_layout.specs.Words.{Image, height_of}
use Rattle.bp_layout.proofs.ThawLaws.{loose-on}
use Rattle.bp_thaw.specs.Prefixes.{IsWayIn}
use Rattle.bp_read.proofs.LooseWays.{loose_word}
use Rattle.bp_append.specs.Prepared.{HasLooseEnd}
use Rattle.bp_append.proofs.EndWays.{loose_end}
use Rattle.bp_calls.proofs.Refusals.{found_empty}
use Rattle.bp_calls.proofs.TargetPaths.{content_way, end_way, root_way}
use Rattle.bp_calls.proofs.Trees.{live_leaf}
use Rattle.bp_rename.specs.CanRename.{CanRename, change_of}
use Rattle.bp_rename.specs.TouchesTwo.{ino_path, size_path}
use Rattle.bp_rename.specs.declared.moves.Move.{Move}
use Rattle.bp_rename.proofs.LooseCovers.{now_way}
use Rattle.bp_rename.proofs.Renames.{across_change, onto_change, within_change}

-- the path of the root word of a tree but the inode file
pub root_is : (h t : ℕ) → 1 ≤ t → inode_path h t 1 ≡ tree_path h t 0 0
root_is h zero some = absurd (omega (arith, some))
root_is h (suc n) some = sym (append-nil (inode_path h (suc n) 1))

module _ (image : Image) (move : Move) (can : CanRename image move) where
  low_source : 8 * (32 * move.from_slot + 0) < size_of image move.from_dir
  low_source = omega (arith, can.entry.in_size)

  only_cover : (change : Change) → IsWayIn image (cover_now image change) → (path : WordPath) → Has (cover_now image change ∷ []) path → IsWayIn image path
  only_cover change way path (inl e) = subst (IsWayIn image) e way
  only_cover change way path (inr never) = absurd never

  -- onto an entry, and within a directory: the word of the cover alone
  pub onto_ways : (r : ℕ) (path : WordPath) → Has (targets image (replaces move.from_dir move.from_slot move.to_dir r)) path → IsWayIn image path
  onto_ways r =
      only_cover (replaces move.from_dir move.from_slot move.to_dir r)
      (now_way image can.well_formed (replaces move.from_dir move.from_slot move.to_dir r) move.from_dir (32 * move.from_slot + 0) can.source can.entry.directory low_source (inl refl))

  pub within_ways : (len : ℕ) (path : WordPath) → Has (targets image (respells move.from_dir move.from_slot len)) path → IsWayIn image path
  within_ways len =
      only_cover (respells move.from_dir move.from_slot len)
      (now_way image can.well_formed (respells move.from_dir move.from_slot len) move.from_dir (32 * move.from_slot + 1) can.source can.entry.directory (omega (arith, can.entry.in_size)) (inl refl))

  -- ---- into an empty entry

  module _ (s : ℕ) (found : empty_slot image move.to_dir ≡ Some s) where
    pub into_touched : touched_at (heights_now image) image (moves move.from_dir move.from_slot move.to_dir) ≡ ino_path image move.to_dir s ∷ ino_path image move.from_dir move.from_slot ∷ []
    into_touched = ap (λ o. entered_at (heights_now image) move.to_dir o ∷ entry_path_at (heights_now image) move.from_dir move.from_slot 0 ∷ []) found

    pub into_among : Has (touched_at (heights_now image) image (moves move.from_dir move.from_slot move.to_dir)) (ino_path image move.from_dir move.from_slot)
    into_among = subst (λ (ps : List WordPath). Has ps (ino_path image move.from_dir move.from_slot)) (sym into_touched) (inr (inl refl))

    low_target : 8 * (32 * s + 0) < size_of image move.to_dir
    low_target = let low = (found_empty image move.to_dir s found).0 in omega (arith, low)

    pub into_targets : targets image (moves move.from_dir move.from_slot move.to_dir) ≡ cover_now image (moves move.from_dir move.from_slot move.to_dir) ∷ ino_path image move.to_dir s ∷ []
    into_targets = ap (λ (o : Option ℕ). cover_now image (moves move.from_dir move.from_slot move.to_dir) ∷ flat_map (end_targets image) (new_entry image move.to_dir o ++ []) ++ slot_target image move.to_dir o) found

    pub into_ways : (path : WordPath) → Has (targets image (moves move.from_dir move.from_slot move.to_dir)) path → IsWayIn image path
    into_ways path has = go (subst (λ (ps : List WordPath). Has ps path) into_targets has)
      where
        go : Has (cover_now image (moves move.from_dir move.from_slot move.to_dir) ∷ ino_path image move.to_dir s ∷ []) path → IsWayIn image path
        go (inl e) = subst (IsWayIn image) e (now_way image can.well_formed (moves move.from_dir move.from_slot move.to_dir) move.from_dir (32 * move.from_slot + 0) can.source can.entry.directory low_source into_among)
        go (inr (inl e)) = subst (IsWayIn image) e (content_way image can.well_formed move.to_dir (32 * s + 0) can.target low_target)
        go (inr (inr never)) = absurd never

    -- where nothing is left to thaw the block of the empty entry is not in the snapshot
    pub slot_loose : (in_snapshot : ℕ → Bool) → thawed image in_snapshot (moves move.from_dir move.from_slot move.to_dir) ≡ [] → (entry : ℕ) → ContentStandsAt image move.to_dir (32 * s + 0) entry → in_snapshot (entry / 512) ≡ false
    slot_loose in_snapshot clear entry stands =
        let among : Has (targets image (moves move.from_dir move.from_slot move.to_dir)) (ino_path image move.to_dir s) =
        subst (λ (ps : List WordPath). Has ps (ino_path image move.to_dir s)) (sym into_targets) (inr (inl refl)) in
        let here : node image (root_of image move.to_dir) (height_of (root_of image move.to_dir)) ((32 * s + 0) / 512) ≡ entry / 512 = omega (arith, stands.at) in
        ap in_snapshot (sym here)
        ∙ loose_word image can.well_formed in_snapshot move.to_dir (height_of (root_of image move.to_dir)) (32 * s + 0) can.target
        (live_leaf (root_of image move.to_dir) (size_of image move.to_dir) ((32 * s + 0) / 512) (omega (arith, low_target))) stands.present
        (loose-on image in_snapshot (targets image (moves move.from_dir move.from_slot move.to_dir)) clear (ino_path image move.to_dir s) among (length (ino_path image move.to_dir s) - 1))

  -- ---- after the last entry

  module _ (none : empty_slot image move.to_dir ≡ None) where
    pub past_end_touched : touched_at (heights_now image) image (moves move.from_dir move.from_slot move.to_dir) ≡ size_path image move.to_dir ∷ ino_path image move.from_dir move.from_slot ∷ []
    past_end_touched = ap (λ o. entered_at (heights_now image) move.to_dir o ∷ entry_path_at (heights_now image) move.from_dir move.from_slot 0 ∷ []) none

    pub past_end_among : Has (touched_at (heights_now image) image (moves move.from_dir move.from_slot move.to_dir)) (ino_path image move.from_dir move.from_slot)
    past_end_among = subst (λ (ps : List WordPath). Has ps (ino_path image move.from_dir move.from_slot)) (sym past_end_touched) (inr (inl refl))

    pub past_end_targets : targets image (moves move.from_dir move.from_slot move.to_dir) ≡
        cover_now image (moves move.from_dir move.from_slot move.to_dir) ∷ root_path_now image move.to_dir ∷ end_path_now image move.to_dir ∷ []
    past_end_targets = ap (λ (o : Option ℕ). cover_now image (moves move.from_dir move.from_slot move.to_dir) ∷ flat_map (end_targets image) (new_entry image move.to_dir o ++ []) ++ slot_target image move.to_dir o) none

    pub past_end_ways : (path : WordPath) → Has (targets image (moves move.from_dir move.from_slot move.to_dir)) path → IsWayIn image path
    past_end_ways path has = go (subst (λ (ps : List WordPath). Has ps path) past_end_targets has)
      where
        go : Has (cover_now image (moves move.from_dir move.from_slot move.to_dir) ∷ root_path_now image move.to_dir ∷ end_path_now image move.to_dir ∷ []) path → IsWayIn image path
        go (inl e) = subst (IsWayIn image) e (now_way image can.well_formed (moves move.from_dir move.from_slot move.to_dir) move.from_dir (32 * move.from_slot + 0) can.source can.entry.directory low_source past_end_among)
        go (inr (inl e)) = subst (IsWayIn image) e (root_way image can.well_formed move.to_dir can.target)
        go (inr (inr (inl e))) = subst (IsWayIn image) e (end_way image can.well_formed move.to_dir can.target)
        go (inr (inr (inr never))) = absurd never

    -- where nothing is left to thaw an entry may be put there
    pub end_loose : (in_snapshot : ℕ → Bool) → thawed image in_snapshot (moves move.from_dir move.from_slot move.to_dir) ≡ [] → HasLooseEnd image in_snapshot move.to_dir
    end_loose in_snapshot clear =
        let among : Has (targets image (moves move.from_dir move.from_slot move.to_dir)) (end_path_now image move.to_dir) =
        subst (λ (ps : List WordPath). Has ps (end_path_now image move.to_dir)) (sym past_end_targets) (inr (inr (inl refl))) in
        loose_end image can.well_formed in_snapshot move.to_dir can.target
        (loose-on image in_snapshot (targets image (moves move.from_dir move.from_slot move.to_dir)) clear (end_path_now image move.to_dir) among (length (root_path_now image move.to_dir) - 1))

  -- ---- all of them

  across_ways : (empty : Option ℕ) → empty_slot image move.to_dir ≡ empty → (path : WordPath) → Has (targets image (moves move.from_dir move.from_slot move.to_dir)) path → IsWayIn image path
  across_ways (Some s) found = into_ways s found
  across_ways None none = past_end_ways none

  abbrev AreWays : Change → Type 0
  AreWays change = (path : WordPath) → Has (targets image change) path → IsWayIn image path

  pub rename_ways : AreWays (change_of move)
  rename_ways = go move.to_slot refl (cases_eq move.from_dir move.to_dir)
    where
      go : (slot : Option ℕ) → move.to_slot ≡ slot → (move.from_dir ≡ move.to_dir) ⊎ (move.from_dir ≢ move.to_dir) → AreWays (change_of move)
      go (Some r) is either = subst AreWays (sym (onto_change move r is)) (onto_ways r)
      go None is (inl here) = subst AreWays (sym (within_change move is here)) (within_ways (length move.name.now))
      go None is (inr other) = subst AreWays (sym (across_change move is other)) (across_ways (empty_slot image move.to_dir) refl)
