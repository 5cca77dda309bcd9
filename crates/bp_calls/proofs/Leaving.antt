-- A name leaves its directory by a store of 0 to its inode number, and the blocks and the number of its inode come back.
use Rattle.std.proofs.Common.{◌≡◌, ◌≢◌, ◌⊎◌, ℕ, suc, ◌+◌, ◌*◌, ◌/◌, ◌%◌, ◌<◌, ◌≤◌, List, [], length, set, slice_index, Bool, true, false, ◌-◌, refl, sym, ◌∙◌, ap, ap₂, subst, arith, inl, inr}
use Rattle.std.proofs.lemmas.Bool.{cases_Bool, cases_eq}
use Rattle.std.proofs.lemmas.List.{length-set}
use Rattle.bp_limits.specs.Limits.{block_inodes, max_blocks}
use Rattle.bp_calls.specs.Commits.{CommitsChange}
use Rattle.bp_calls.specs.GivenBack.{GivesBack}
use Rattle.bp_calls.proofs.CountLaws.{exact_with}
use Rattle.bp_calls.proofs.TruncatedLaws.{gives_as}
use Rattle.bp_calls.proofs.OpenPlaces.{content_address, content_live, root_word_stays, stands_stored}
use Rattle.bp_calls.proofs.ReadingLaws.{few_inode}
use Rattle.bp_calls.proofs.Shorter.{CanGiveBack}
use Rattle.bp_changes.specs.Effects.{CanUnlink, HasOtherName, IsLastName, KeepsBlocks, RemovesEntry}
use Rattle.bp_changes.proofs.ContentStore.{pointers_stay, root_stays}
use Rattle.bp_changes.proofs.LinkInPlace.{store_blocks, store_removes}
use Rattle.bp_changes.proofs.Named.{removed_counts}
use Rattle.bp_changes.proofs.Unlink.{reached_back, reached_stays, unlinked_well_formed}
use Rattle.bp_free.specs.Set.{Set, has, with}
use Rattle.bp_free.specs.declared.parts.Parts.{Parts}
use Rattle.bp_free.proofs.Members.{has_with_other, has_with_same}
use Rattle.bp_layout.proofs.FewLeaves.{few_inodes}
use Rattle.bp_layout.specs.Directory.{EntryNames, ino_at, ino_in}
use Rattle.bp_layout.specs.Inode.{ContentStandsAt, inode_count, kind_of, root_of, size_of}
use Rattle.bp_layout.specs.Names.{AreCounts}
use Rattle.bp_layout.specs.Need.{Change, copied, cover, entry_path, is_there_after, need}
use Rattle.bp_layout.specs.Need.Change.{leaves}
use Rattle.bp_layout.specs.Reached.{IsReached}
use Rattle.bp_layout.specs.Reached.IsReached.{inode_file, named}
use Rattle.bp_layout.specs.Same.{Same}
use Rattle.bp_layout.specs.Tree.{HasBlock, IsLivePointer, node}
use Rattle.bp_layout.specs.WellFormed.{IsWellFormed}
use Rattle.bp_layout.specs.WordPaths.{WordPath, address, tree_path}
use Rattle.bp_layout.specs.Words.{Image, block_count, height_of}
use Rattle.bp_layout.proofs.Reached.{reached-in_file}
use Rattle.bp_layout.proofs.SameLaws.{same_self}
use Rattle.bp_layout.proofs.TreeLaws.{KeepsPointers, has_block-kept, has_block-stays, sound-kept}
use Rattle.bp_changes.specs.Freed.{IsTruncated}
use Rattle.bp_changes.specs.Sets.{AreExact, IsExact, in_snapshot_of}
use Rattle.bp_changes.proofs.Freed.{freed_blocks, remove_frees, removed_inode}
use Rattle.bp_changes.specs.Performs.{PerformsThawed}
use Rattle.bp_read.proofs.ExistingPaths.{AllThere, content_path-there, copied-one, cover-one}
use Rattle.bp_changes.proofs.PerformsLaws.{performs_committed, takes_none}
use Rattle.pm_epochs.specs.Crash.{commit}
use Rattle.pm_epochs.proofs.CrashLaws.{quiet_none}
use Rattle.pm_epochs.proofs.PieceLaws.{IsPiece-commit}
use Rattle.pm_region.specs.Memory.{Adds, Memory, current_words}
use Rattle.pm_region.proofs.MemoryLaws.{current_words-adds}
use Rattle.bp_layout.specs.Thaw.{targets, thawed}
use Rattle.bp_layout.specs.Members.{Has}
use Rattle.bp_layout.proofs.ThawLaws.{loose-on}
use Rattle.bp_read.proofs.LooseWays.{loose_word}
use Rattle.bp_changes.specs.Performs.IsOpen.{in_live}
use Rattle.bp_calls.proofs.Trees.{live_leaf}
use Rattle.bp_calls.proofs.TargetPaths.{leaving_targets}
use Rattle.bp_calls.proofs.SetLaws.{free_blocks_stay, free_inodes_stay}

-- an entry that may go, and where its inode number stands
pub record CanLeave (image : Image) (i s j place : ℕ) : Type 0 where
  pub well_formed : IsWellFormed image
  pub unlink : CanUnlink image i s j
  pub stands : ContentStandsAt image i (32 * s + 0) place

-- as it is found: the tree of the directory is read first, and its entry then
pub found_leaving : (image : Image) (i s j place root : ℕ) → IsWellFormed image → CanUnlink image i s (ino_at image i s) → root ≡ root_of image i → j ≡ ino_in image root s →
    place ≡ 512 * node image root (height_of root) ((32 * s + 0) / 512) + (32 * s + 0) % 512 → node image root (height_of root) ((32 * s + 0) / 512) ≢ 0 → CanLeave image i s j place
found_leaving image i s j place root wf can root_is names place_is present = record {
  well_formed = wf;
  unlink = subst (CanUnlink image i s) (sym (names ∙ ap (λ r. ino_in image r s) root_is)) can;
  stands = record { present = rw root_is at present; at = sym (rw root_is at place_is) };
}

-- ---- what an entry's inode number covers and needs

module _ (image : Image) (wf : IsWellFormed image) (i s j : ℕ) (reached : IsReached image i) (entry : EntryNames image i s j) where
  whole : AllThere (is_there_after image (leaves i s)) [] (entry_path image (leaves i s) i s 0)
  whole = content_path-there image (leaves i s) wf refl i (32 * s + 0) reached refl (wf.full_directories i reached entry.directory) (omega (arith, entry.in_size))

  covered_leaving : cover image (leaves i s) ≡ tree_path (height_of (root_of image 0)) i (suc (height_of (root_of image i))) (32 * s + 0)
  covered_leaving = cover-one image (leaves i s) (entry_path image (leaves i s) i s 0) refl whole

  pub none_leaving : need image (leaves i s) ≡ 0
  none_leaving = let copies : length (copied image (leaves i s)) ≡ 0 = ap length (copied-one image (leaves i s) (entry_path image (leaves i s) i s 0) refl whole) in omega (arith, copies)

-- ---- the store

module _ {image : Image} {i s j place : ℕ} (can : CanLeave image i s j place) where
  abbrev last : Image
  last = set image place 0

  abbrev change : Change
  change = leaves i s

  abbrev wf : IsWellFormed image
  wf = can.well_formed

  abbrev reached : IsReached image i
  reached = can.unlink.reached

  abbrev entry : EntryNames image i s j
  entry = can.unlink.entry

  not_file : i ≢ 0
  not_file e = let two : kind_of image 0 ≡ 2 = subst (λ t. kind_of image t ≡ 2) e entry.directory in omega (arith, two)

  below : 8 * (32 * s + 0) < size_of image i
  below = omega (arith, entry.in_size)

  pub named_reached : IsReached image j
  named_reached = named s reached entry

  pub named_few : j < block_inodes * max_blocks
  named_few = few_inode image wf j (wf.inos i s j reached entry)

  removes : RemovesEntry image last i s
  removes = store_removes image wf i s j place can.unlink can.stands

  last_well_formed : IsWellFormed last
  last_well_formed = unlinked_well_formed image last wf i s j can.unlink removes

  -- the directory is not the inode that it names, which has no entries
  other : i ≡ j → ⊥
  other e = can.unlink.alone s j (subst (λ x. EntryNames image x s j) e entry)

  directory_reached : IsReached last i
  directory_reached = reached_stays image last wf i s j can.unlink removes i reached other

  root_after : root_of last i ≡ root_of image i
  root_after = root_stays image wf i (32 * s + 0) place 0 reached not_file below can.stands i (reached-in_file image wf i reached)

  top_after : root_of last 0 ≡ root_of image 0
  top_after = root_word_stays image wf i (32 * s + 0) place 0 reached below can.stands

  at_cover : address last (cover image change) ≡ place
  at_cover =
      ap (address last) (covered_leaving image wf i s j reached entry ∙ ap₂ (λ h k. tree_path (height_of h) i (suc (height_of k)) (32 * s + 0)) (sym top_after) (sym root_after))
      ∙ content_address last last_well_formed i (32 * s + 0) place directory_reached (stands_stored image wf i (32 * s + 0) place 0 reached below can.stands root_after)

  -- ---- the tree of the inode, by the words that it had

  abbrev root : ℕ
  root = root_of image j

  abbrev size : ℕ
  size = size_of image j

  keeps : KeepsPointers image last root size
  keeps = pointers_stay image wf i (32 * s + 0) place 0 reached not_file below can.stands j named_reached

  gone_back : (b : ℕ) → IsTruncated last root size 0 b → HasBlock image root size b
  gone_back b gone = has_block-kept image last root size keeps b gone.has

  gone_on : (b : ℕ) → HasBlock image root size b → IsTruncated last root size 0 b
  gone_on b has = record { has = has_block-stays image last root size keeps b has; past = omega arith }

  -- where it is the last name of its inode, the blocks and the number come back
  module _ {in_snapshot : ℕ → Bool} {blocks inodes : Set} (exact : AreExact image in_snapshot blocks inodes) where
    can_give_blocks : CanGiveBack last root size blocks
    can_give_blocks = record {
      sound = sound-kept image last root size keeps (length-set image place 0) (wf.sound j named_reached);
      room = rw (length-set image place 0) exact.block_room;
      taken = λ b held. go b (has_block-kept image last root size keeps b held) (cases_Bool (has blocks b));
    }
      where
        go : (b : ℕ) → HasBlock image root size b → (has blocks b ≡ true) ⊎ (has blocks b ≡ false) → has blocks b ≡ false
        go b here (inl is) = absurd ((exact.free_blocks.free b is).free (record { tree = j; reached = named_reached; has = here }))
        go b here (inr not) = not

    pub inode_in_room : j < length inodes
    inode_in_room =
        let low : j < inode_count image = wf.inos i s j reached entry in
        let few : size_of image 0 / 64 ≤ 64 * block_count image = few_inodes image (root_of image 0) (size_of image 0) (wf.sound 0 inode_file) wf.full_inode_file (omega (arith, wf.formatted.sized.at_least)) wf.inode_blocks in
        omega (arith, low, few, exact.inode_room)

    pub inode_taken : has inodes j ≡ false
    inode_taken = go (cases_Bool (has inodes j))
      where
        go : (has inodes j ≡ true) ⊎ (has inodes j ≡ false) → has inodes j ≡ false
        go (inl is) = absurd ((exact.free_inodes.free j is).free named_reached)
        go (inr not) = not

    exact_last : IsLastName image i s j → (after : Set) → GivesBack in_snapshot (IsTruncated last root size 0) blocks after → AreExact last in_snapshot after (with inodes j)
    exact_last last_name after gives = record {
      block_room = rw (length-set image place 0) (gives.room ∙ exact.block_room);
      inode_room = rw (length-set image place 0) (length-set inodes j true ∙ exact.inode_room);
      free_blocks = freed_blocks image last wf (length-set image place 0) (HasBlock image root size) (remove_frees image wf i s j place can.unlink last_name can.stands) in_snapshot (has blocks) (has after) exact.free_blocks
          reported.only reported.still reported.given;
      free_inodes = removed_inode image last wf i s j can.unlink removes last_name (has inodes) (has (with inodes j)) exact.free_inodes (has_with_same inodes j inode_in_room) (has_with_other inodes j);
    }
      where
        reported : GivesBack in_snapshot (HasBlock image root size) blocks after
        reported = gives_as (IsTruncated last root size 0) (HasBlock image root size) blocks after gone_back gone_on gives

  -- ---- where it has another name all stays

  module _ (more : HasOtherName image i s j) where
    still_named : EntryNames last more.directory more.slot j
    still_named =
        let inside : more.directory < inode_count image = reached-in_file image wf more.directory more.reached in
        record {
          directory = removes.kind more.directory inside ∙ more.names.directory;
          in_size = subst (λ z. more.slot < z / 256) (sym (removes.size more.directory inside)) more.names.in_size;
          ino = removes.entry more.directory more.slot 0 more.reached more.names.directory more.names.in_size (omega arith) (λ e same. more.other (sym e) (omega (arith, same))) ∙ more.names.ino;
          not_empty = more.names.not_empty;
        }

    still_reached : (t : ℕ) → IsReached image t → IsReached last t
    still_reached t was = go (cases_eq t j)
      where
        not_itself : more.directory ≡ j → ⊥
        not_itself e = can.unlink.alone more.slot j (subst (λ x. EntryNames image x more.slot j) e more.names)

        go : (t ≡ j) ⊎ (t ≡ j → ⊥) → IsReached last t
        go (inl e) = subst (IsReached last) (sym e) (named more.slot (reached_stays image last wf i s j can.unlink removes more.directory more.reached not_itself) still_named)
        go (inr differ) = reached_stays image last wf i s j can.unlink removes t was differ

    blocks_kept : KeepsBlocks image last
    blocks_kept = store_blocks image wf i s 0 place reached entry.directory entry.in_size can.stands

    exact_named : {in_snapshot : ℕ → Bool} (blocks inodes : Set) → AreExact image in_snapshot blocks inodes → AreExact last in_snapshot blocks inodes
    exact_named blocks inodes exact = record {
      block_room = rw (length-set image place 0) exact.block_room;
      inode_room = rw (length-set image place 0) exact.inode_room;
      free_blocks = free_blocks_stay image last (has blocks) (length-set image place 0)
          (λ b live. let was : IsReached image live.tree = before live.tree live.reached in record { tree = live.tree; reached = was; has = blocks_kept.back live.tree b was live.has })
          (λ b live. record { tree = live.tree; reached = still_reached live.tree live.reached; has = blocks_kept.stay live.tree b live.reached live.has }) exact.free_blocks;
      free_inodes = free_inodes_stay image last (has inodes) (removes.size 0 (reached-in_file image wf 0 inode_file)) before still_reached exact.free_inodes;
    }
      where
        before : (t : ℕ) → IsReached last t → IsReached image t
        before = reached_back image last wf i s j can.unlink removes

module _ (old new : Memory) {i s j place : ℕ} (can : CanLeave (current_words old) i s j place) (adds : Adds old new (commit place 0)) where
  stored : current_words new ≡ set (current_words old) place 0
  stored = current_words-adds old new (commit place 0) adds

  -- the block of the entry is not in the snapshot, where nothing is left to thaw
  leaving_loose : (in_snapshot : ℕ → Bool) → thawed (current_words old) in_snapshot (leaves i s) ≡ [] → in_snapshot (place / 512) ≡ false
  leaving_loose in_snapshot clear =
      let image : Image = current_words old in
      let live : IsLivePointer (root_of image i) (size_of image i) (height_of (root_of image i)) ((32 * s + 0) / 512) =
      live_leaf (root_of image i) (size_of image i) ((32 * s + 0) / 512) (omega (arith, can.unlink.entry.in_size)) in
      let here : node image (root_of image i) (height_of (root_of image i)) ((32 * s + 0) / 512) ≡ place / 512 = omega (arith, can.stands.at) in
      let way : WordPath = tree_path (height_of (root_of image 0)) i (suc (height_of (root_of image i))) (32 * s + 0) in
      let among : Has (targets image (leaves i s)) way = subst (λ ps. Has ps way) (sym (leaving_targets image can.well_formed i s j can.unlink)) (inl refl) in
      ap in_snapshot (sym here)
      ∙ loose_word image can.well_formed in_snapshot i (height_of (root_of image i)) (32 * s + 0) can.unlink.reached live can.stands.present
      (loose-on image in_snapshot (targets image (leaves i s)) clear way among (length way - 1))

  pub leaving_performs : (in_snapshot : ℕ → Bool) → thawed (current_words old) in_snapshot (leaves i s) ≡ [] → PerformsThawed in_snapshot old new (leaves i s) (λ image after. RemovesEntry image after i s)
  leaving_performs in_snapshot clear =
      performs_committed in_snapshot old new (leaves i s) (λ image after. RemovesEntry image after i s) place 0 2 1 []
      (record {
        prepared = [];
        adds = adds;
        quiet = quiet_none Same (current_words old) (same_self (current_words old) can.well_formed);
        piece = IsPiece-commit place 0;
      })
      (takes_none (current_words old) in_snapshot)
      (rw stored (sym (at_cover can)))
      (omega arith) (omega arith)
      (sym (none_leaving (current_words old) can.well_formed i s j can.unlink.reached can.unlink.entry))
      (in_live (content_live (current_words old) i (32 * s + 0) place can.unlink.reached (omega (arith, can.unlink.entry.in_size)) can.stands) (leaving_loose in_snapshot clear))
      (rw stored (last_well_formed can))
      (rw stored (removes can))

  module _ {in_snapshot : ℕ → Bool} {blocks inodes : Set} (exact : AreExact (current_words old) in_snapshot blocks inodes) where
    pub can_give : CanGiveBack (current_words new) (root_of (current_words old) j) (size_of (current_words old) j) blocks
    can_give = rw stored (can_give_blocks can exact)

    pub leaving_exact : IsLastName (current_words old) i s j → (after : Set)
        → GivesBack in_snapshot (IsTruncated (current_words new) (root_of (current_words old) j) (size_of (current_words old) j) 0) blocks after
        → AreExact (current_words new) in_snapshot after (with inodes j)
    leaving_exact last_name after gives = rw stored (exact_last can exact last_name after (rw stored at gives))

    pub named_exact : HasOtherName (current_words old) i s j → AreExact (current_words new) in_snapshot blocks inodes
    named_exact more = rw stored (exact_named can more _ _ exact)

  pub leaving_counts : (counts : List ℕ) → AreCounts (current_words old) counts → j < length counts → (rest : ℕ) → slice_index counts j ≡ rest + 1 → AreCounts (current_words new) (set counts j rest)
  leaving_counts counts are low rest is = rw stored
      (removed_counts (current_words old) (set (current_words old) place 0) can.well_formed i s j can.unlink (removes can) counts are low rest is)

  pub leaving_whole : length (current_words new) ≡ length (current_words old)
  leaving_whole = rw stored (length-set (current_words old) place 0)

-- a call that stores it has taken the name out, where the sets of its parts are exact then and one name less is counted
pub leaving_commits : {R : Type 0} (memory : R → Memory) (old new : Parts R) {i s j place : ℕ} (can : CanLeave (current_words (memory old.region)) i s j place)
    → Adds (memory old.region) (memory new.region) (commit place 0) → IsExact (current_words (memory old.region)) old
    → thawed (current_words (memory old.region)) (in_snapshot_of old) (leaves i s) ≡ []
    → AreExact (current_words (memory new.region)) (in_snapshot_of old) new.free_blocks new.free_inodes → new.snapshot_blocks ≡ old.snapshot_blocks
    → j < length old.link_counts → (rest : ℕ) → slice_index old.link_counts j ≡ rest + 1 → new.link_counts ≡ set old.link_counts j rest
    → CommitsChange memory old new (leaves i s) (λ image after. RemovesEntry image after i s)
leaving_commits memory old new {j = j} can adds exact clear sets snapshot_blocks low rest some counts = record {
  performs = leaving_performs (memory old.region) (memory new.region) can adds (in_snapshot_of old) clear;
  snapshot_blocks = snapshot_blocks;
  exact = exact_with _ _ old new exact sets snapshot_blocks (leaving_whole (memory old.region) (memory new.region) can adds)
      (rw counts (length-set old.link_counts j rest))
      (rw counts (leaving_counts (memory old.region) (memory new.region) can adds old.link_counts exact.counts low rest some));
}
