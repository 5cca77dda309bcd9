-- Nothing is left to do.
use Rattle.std.proofs.Common.{◌≡◌, ℕ, ◌%◌, ◌<◌, ◌≤◌, ◌⊎◌, List, true, false, inl, inr, arith}
use Rattle.bp_free.specs.Set.{Set, has}
use Rattle.bp_layout.specs.Words.{Image}
use Rattle.bp_layout.specs.Formatted.{IsFormatted}
use Rattle.bp_layout.specs.Free.{AreFreeBlocks, AreFreeInodes}
use Rattle.bp_layout.specs.Inode.{kind_of, size_of, inode_count}
use Rattle.bp_layout.specs.Names.{AreCounts}
use Rattle.bp_layout.specs.Reached.{IsReached}
use Rattle.bp_layout.specs.WellFormed.{IsWellFormed}
use Rattle.bp_layout.proofs.ChecksLaws.{found_reached}
use Rattle.bp_walk.proofs.TakenLaws.{known}
use Rattle.bp_scan.specs.Named.{CountsAmong}
use Rattle.bp_scan.specs.Scanned.{AreOthersLive, IsAll, HasRest}
use Rattle.bp_scan.proofs.Named.{counts_all}
use Rattle.bp_scan.specs.Progress.{IsEntered, IsDone, IsMidway}
use Rattle.bp_scan.proofs.ProgressLaws.{all_done}
use Rattle.bp_scan.proofs.Frontier.{well_formed, free_blocks, others_live, free_inodes, reached_entered}
use Rattle.bp_layout.specs.Thaw.{none_in_snapshot}

module _ (image : Image) (blocks inodes todo : Set) (formatted : IsFormatted image) (whole : size_of image 0 % 4096 ≡ 0) (some : 4096 ≤ size_of image 0) (kind : kind_of image 1 ≡ 2)
    (range : (i : ℕ) → has inodes i ≡ true → (2 ≤ i) × (i < inode_count image)) (midway : IsMidway image blocks inodes todo 0 0) (none : (i : ℕ) → has todo i ≡ false) where
  entered : (t : ℕ) → t < 2 → IsEntered image inodes t
  entered t low = (omega (arith, low, some), go (known (has inodes t)))
    where
      go : (has inodes t ≡ true) ⊎ (has inodes t ≡ false) → has inodes t ≡ false
      go (inl there) = absurd (omega (arith, low, (range t there).0))
      go (inr gone) = gone

  all : IsAll image (IsEntered image inodes) (IsDone image inodes todo 0 0)
  all = all_done image midway.all blocks inodes todo midway.under_way none whole some (entered 0 (omega arith)) (entered 1 (omega arith)) kind

  rest : HasRest image (IsEntered image inodes) inodes
  rest = record {
    low = λ i there. (range i there).0;
    high = λ i there. (range i there).1;
    out = λ i e. e.1;
    entered = λ i two low gone. (low, gone);
  }

  pub end_well_formed : IsWellFormed image
  end_well_formed = well_formed image (IsEntered image inodes) (IsDone image inodes todo 0 0) midway.all blocks midway.under_way.scanned all formatted

  pub end_blocks : AreFreeBlocks image none_in_snapshot (has blocks)
  end_blocks = free_blocks image (IsEntered image inodes) (IsDone image inodes todo 0 0) midway.all blocks midway.under_way.scanned all formatted.sized.at_least midway.whole

  pub end_others : AreOthersLive image (has blocks)
  end_others = others_live image (IsEntered image inodes) (IsDone image inodes todo 0 0) midway.all blocks midway.under_way.scanned all midway.whole

  pub end_inodes : AreFreeInodes image (has inodes)
  end_inodes = free_inodes image (IsEntered image inodes) (IsDone image inodes todo 0 0) midway.all blocks midway.under_way.scanned all inodes rest

  pub end_counts : (counts : List ℕ) → CountsAmong image (IsDone image inodes todo 0 0) counts → AreCounts image counts
  end_counts counts are = counts_all image (IsDone image inodes todo 0 0) counts (λ i s d. reached i d)
      (λ i s j is n. all.slots i s j (reached_entered image (IsEntered image inodes) (IsDone image inodes todo 0 0) midway.all blocks midway.under_way.scanned all i is) n) are
    where
      reached : (i : ℕ) {s : ℕ} → IsDone image inodes todo 0 0 i s → IsReached image i
      reached i (inl d) = found_reached image i (midway.under_way.scanned.found i d.0)
      reached i (inr d) = absurd (omega (arith, d.1))
