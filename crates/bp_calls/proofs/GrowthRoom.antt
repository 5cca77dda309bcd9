-- One more leaf of the inode file: what its preparation asks, and what it leaves.
use Rattle.std.proofs.Common.{◌≡◌, ℕ, Bool, suc, ◌+◌, ◌*◌, ◌/◌, ◌<◌, ◌≤◌, [], ◌∷◌, length, refl, sym, ◌∙◌, ap, subst, subst₂, arith, le_trans}
use Rattle.bp_limits.specs.declared.version.Version.TheVariants.{One}
use Rattle.bp_limits.proofs.Versions.{size_least}
use Rattle.bp_layout.specs.Formatted.{version_of}
use Rattle.std.proofs.lemmas.List.{length-append}
use Rattle.bp_append.specs.Prepared.{CanPrepare, PreparesWith}
use Rattle.bp_append.proofs.StoresLaws.{past_end_whole, room_past_end_whole}
use Rattle.bp_layout.proofs.FewLeaves.{few_leaves}
use Rattle.bp_free.specs.Set.{Set, Fills, members}
use Rattle.bp_layout.specs.Inode.{root_of, size_of}
use Rattle.bp_layout.specs.Reached.IsReached.{inode_file}
use Rattle.bp_layout.specs.WellFormed.{IsWellFormed}
use Rattle.bp_layout.specs.Words.{Image, block_count}
use Rattle.bp_limits.specs.Limits.{block_size, inode_size, max_height, super_size}
use Rattle.bp_limits.specs.CallLimits.{greatest_size}
use Rattle.bp_changes.specs.Performs.{room_for}
use Rattle.bp_read.proofs.RegionWords.{length_now}
use Rattle.bp_layout.specs.WordPaths.{WordPath}
use Rattle.bp_changes.specs.Sets.{AreExact}
use Rattle.pm_epochs.specs.declared.event.Event.TheVariants.{Store, Barrier}
use Rattle.pm_region.specs.Memory.{Memory, Adds, current_words, room_in}
use Rattle.pm_region.proofs.MemoryLaws.{base-adds, length-current_words, room_in-piece}
use Rattle.bp_calls.specs.Growth.{AddsInodes, CanGrowInodes, GrowsInodes, growth_need}
use Rattle.bp_calls.proofs.GrowthMemory.{grown, grows, growth_need_is}
use Rattle.bp_calls.proofs.GrowthSets.{exact_grown}
use Rattle.bp_calls.proofs.TakenBlocks.{members_free, usable_members}
use Rattle.bp_calls.proofs.PreparedRoom.{preparation_room}

module _ (image : Image) (wf : IsWellFormed image) where
  -- its leaves are different blocks, and block 0 is none of them
  pub inodes_end_low : size_of image 0 + block_size ≤ block_size * block_count image
  inodes_end_low =
      let few : size_of image 0 / 4096 < block_count image =
      few_leaves image (root_of image 0) (size_of image 0) (wf.sound 0 inode_file) wf.full_inode_file (omega (arith, wf.formatted.sized.at_least)) (size_of image 0 / 4096) (λ k low. omega (arith, low)) in
      omega (arith, few, wf.inode_blocks)

  pub inodes_end_fits : size_of image 0 + block_size ≤ greatest_size One
  inodes_end_fits = omega (arith, inodes_end_low, wf.formatted.sized.at_most)

can_prepare : {in_snapshot : ℕ → Bool} (old : Memory) (blocks inodes : Set) → CanGrowInodes in_snapshot old blocks inodes →
    CanPrepare in_snapshot old (members blocks) 0 [] (size_of (current_words old) 0) (size_of (current_words old) 0 + block_size)
can_prepare old blocks inodes can = record {
  well = can.well_formed;
  reached = inode_file;
  leads = refl;
  past_end = omega arith;
  order = omega arith;
  fits = le_trans (inodes_end_fits (current_words old) can.well_formed) (size_least (version_of (current_words old)));
  by_words = λ by. refl;
  usable = usable_members (current_words old) blocks inodes can.exact (length old.base / 512) (omega (arith, length_now old));
  are_free = members_free (current_words old) blocks inodes can.exact;
  loose = can.loose;
  enough = omega (arith, can.enough, growth_need_is (current_words old));
  room = preparation_room _ _ _ _ (growth_need_is (current_words old))
      (room_past_end_whole (size_of (current_words old) 0) (size_of (current_words old) 0) (size_of (current_words old) 0 + block_size) max_height) can.room;
}

-- ---- the parts of the growth, by the path and the size that are read

module _ {in_snapshot : ℕ → Bool} (old : Memory) (blocks inodes : Set) (path : WordPath) (size : ℕ) (can : CanGrowInodes in_snapshot old blocks inodes) (top : path ≡ []) (is : size ≡ size_of (current_words old) 0) where
  abbrev Ready : WordPath → ℕ → Type 0
  Ready at from = CanPrepare in_snapshot old (members blocks) 0 at from (from + block_size)

  pub can_prepare_at : Ready path size
  can_prepare_at = subst₂ Ready (sym top) (sym is) (can_prepare old blocks inodes can)

  -- as many inodes as the set has room for
  pub last_fits : (size + block_size) / inode_size ≤ length inodes
  last_fits = omega (arith, is, inodes_end_low (current_words old) can.well_formed, can.exact.inode_room)

  module _ (middle : Memory) (after : Set) (prepares : Ready path size → PreparesWith in_snapshot old middle (members blocks) (members after) 0 size (size + block_size) []) where
    prepared : PreparesWith in_snapshot old middle (members blocks) (members after) 0 (size_of (current_words old) 0) (size_of (current_words old) 0 + block_size) []
    prepared = subst (λ s. PreparesWith in_snapshot old middle (members blocks) (members after) 0 s (s + block_size) []) is (prepares can_prepare_at)

    pub base_prepared : super_size < length middle.base
    base_prepared = omega (arith, ap length (base-adds old middle prepared.adds.part.added prepared.adds.part.adds), length-current_words old, can.well_formed.formatted.sized.whole, can.well_formed.formatted.sized.at_least)

    -- for the store of the size and its barrier
    pub room_prepared : 2 ≤ room_in middle
    room_prepared =
        let stores = past_end_whole (size_of (current_words old) 0) (size_of (current_words old) 0) (size_of (current_words old) 0 + block_size) max_height in
        let left = room_in-piece _ _ old middle prepared.adds.part.added prepared.adds.part.adds prepared.adds.part.piece in
        enough _ _ _ _ left stores (rw (growth_need_is (current_words old)) at can.room)
      where
        enough : (needed past_end room left : ℕ) → room ≤ left + (2 + (512 * needed + past_end + 2)) → past_end ≤ 512 * suc max_height → room_for needed ≤ room + 2 → 2 ≤ left
        enough needed past_end room left a b c = omega (arith, a, b, c)

    module _ (new : Memory) (stored : Adds middle new (Store super_size (size + block_size) ∷ Barrier ∷ [])) where
      pub grew : GrowsInodes in_snapshot old new
      grew = grows old middle new (members blocks) (members after) can.well_formed prepared (subst (λ s. Adds middle new (Store super_size (s + block_size) ∷ Barrier ∷ [])) is stored)

      module _ (filled : Set) (room : length after ≡ length blocks) (fills : Fills (size / inode_size) ((size + block_size) / inode_size) inodes filled) where
        pub exact_after : AreExact (current_words new) in_snapshot after filled
        exact_after =
            exact_grown (current_words old) (current_words new) prepared.taken can.well_formed grown_here blocks after inodes filled can.exact prepared.takes room
            (subst (λ s. Fills (s / inode_size) ((s + block_size) / inode_size) inodes filled) is fills)
          where
            grown_here : AddsInodes (current_words old) (current_words new) prepared.taken
            grown_here = grown old middle new (members blocks) (members after) can.well_formed prepared (subst (λ s. Adds middle new (Store super_size (s + block_size) ∷ Barrier ∷ [])) is stored)

    pub left_after : length (members blocks) ≡ growth_need (current_words old) + length (members after)
    left_after = omega (arith, ap length prepared.takes ∙ length-append prepared.taken (members after), prepared.counted, growth_need_is (current_words old))
