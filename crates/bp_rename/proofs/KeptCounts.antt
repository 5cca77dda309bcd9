-- The parts are exact after a rename that leaves the counts of names as they were.
use Rattle.std.proofs.Common.{◌≡◌, ℕ, List, length, sym, ap, subst}
use Rattle.bp_free.specs.declared.parts.Parts.{Parts}
use Rattle.bp_layout.specs.Names.{AreCounts}
use Rattle.bp_layout.specs.Words.{Image}
use Rattle.bp_changes.specs.Sets.{AreExact, IsExact, in_snapshot_of}
use Rattle.bp_calls.proofs.CountLaws.{exact_with}

pub exact_kept : {R : Type 0} (old new : Image) (before after : Parts R) → IsExact old before → AreExact new (in_snapshot_of before) after.free_blocks after.free_inodes → after.snapshot_blocks ≡ before.snapshot_blocks → after.link_counts ≡ before.link_counts →
    length new ≡ length old → AreCounts new before.link_counts → IsExact new after
exact_kept old new before after exact sets snapshot_blocks same whole counts =
    exact_with old new before after exact sets snapshot_blocks whole (ap (λ (ns : List ℕ). length ns) same) (subst (AreCounts new) (sym same) counts)
