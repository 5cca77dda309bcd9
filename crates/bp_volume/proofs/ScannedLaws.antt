-- A region with an empty log whose words a scan has passed is a volume.
use Rattle.std.proofs.Common.{◌≡◌, ℕ, ◌*◌, ◌≤◌, [], ap, subst}
use Rattle.pm_epochs.specs.Log.{words_after}
use Rattle.pm_region.specs.Memory.{Memory, current_words}
use Rattle.pm_region.proofs.SafeLaws.{safe_empty}
use Rattle.bp_free.specs.declared.parts.Parts.{Parts}
use Rattle.bp_layout.specs.Whole.{IsFileSystem, SameFiles}
use Rattle.bp_layout.specs.Words.{block_count}
use Rattle.bp_layout.specs.Trees.{AreInSnapshot}
use Rattle.bp_limits.specs.Limits.{call_room}
use Rattle.bp_changes.specs.Sets.{IsExact, in_snapshot_of}
use Rattle.bp_volume.specs.Volume.{IsVolume}
use Rattle.bp_volume.proofs.SafeLaws.{whole_self}
use Rattle.bp_volume.proofs.WholeLaws.{whole_equivalence}

pub words_fresh : (memory : Memory) → memory.events ≡ [] → current_words memory ≡ memory.base
words_fresh memory fresh = ap (words_after memory.base) fresh

pub scanned_volume : {R : Type 0} (memory : Memory) (parts : Parts R) (pending : ℕ) → memory.events ≡ [] → call_room ≤ memory.capacity → IsFileSystem (current_words memory) → AreInSnapshot (current_words memory) (in_snapshot_of parts) →
    IsExact (current_words memory) parts → pending ≡ 64 * block_count (current_words memory) → IsVolume memory parts pending
scanned_volume memory parts pending fresh roomy is snapshot_blocks exact scans =
    let base : IsFileSystem memory.base = subst IsFileSystem (words_fresh memory fresh) is in
    record {
      safe = safe_empty SameFiles whole_equivalence memory fresh (whole_self memory.base base);
      roomy = roomy;
      well_formed = is;
      snapshot_blocks = snapshot_blocks;
      exact = exact;
      scans = scans;
    }
