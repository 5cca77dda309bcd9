-- What a crash leaves of a volume.
use Rattle.std.proofs.Common.{◌≡◌, ℕ, ◌*◌, ◌/◌, sym, ◌∙◌, ap}
use Rattle.pm_epochs.specs.Replay.{PowerCut, IsRight, kept_calls, kept_stores, after_calls}
use Rattle.pm_epochs.proofs.CrashLaws.{length-words_after}
use Rattle.pm_region.specs.Memory.{Memory, current_words, crashed}
use Rattle.pm_region.specs.Safe.{IsSafe}
use Rattle.pm_region.proofs.MemoryLaws.{length-current_words}
use Rattle.pm_region.proofs.SafeLaws.{safe_crashed}
use Rattle.bp_free.specs.declared.parts.Parts.{Parts}
use Rattle.bp_layout.specs.Whole.{IsFileSystem, SameFiles}
use Rattle.bp_layout.specs.Words.{block_count}
use Rattle.bp_layout.specs.Trees.{AreInSnapshot}
use Rattle.bp_changes.specs.Sets.{IsExact, in_snapshot_of}
use Rattle.bp_volume.specs.Volume.{IsVolume}
use Rattle.bp_volume.proofs.SafeLaws.{whole_of_same}
use Rattle.bp_volume.proofs.WholeLaws.{whole_equivalence}

module _ {R : Type 0} (memory : Memory) (parts : Parts R) (pending : ℕ) (volume : IsVolume memory parts pending) (cut : PowerCut) (right : IsRight memory.events cut) (new : Memory) (left : new ≡ crashed memory cut) where
  pub crashed_safe : IsSafe SameFiles new
  crashed_safe = rw left (safe_crashed SameFiles whole_equivalence memory cut volume.safe right)

  -- the words are a file system, as both their trees mean what they mean
  pub crashed_file_system : IsFileSystem (current_words new)
  crashed_file_system = whole_of_same (current_words new) (current_words new) crashed_safe.well

  pub blocks-crashed : block_count (current_words memory) ≡ block_count (current_words new)
  blocks-crashed = rw left (ap (λ n. n / 512) (length-current_words memory ∙ sym (length-words_after memory.base (kept_stores memory.events cut))))

  -- the words show what the kept calls had made
  pub crashed_shows : (count : ℕ) → count ≡ kept_calls memory.events cut → SameFiles (current_words new) (after_calls memory.base memory.events count)
  crashed_shows count is = rw (left, is) (volume.safe.right.each cut right)

  -- a volume again, with the sets and counts of the new words
  pub crashed_volume : (made : Parts R) (made_pending : ℕ) → AreInSnapshot (current_words new) (in_snapshot_of made) → IsExact (current_words new) made → made_pending ≡ pending → IsVolume new made made_pending
  crashed_volume made made_pending snapshot_blocks exact same = record {
    safe = crashed_safe;
    roomy = rw left volume.roomy;
    well_formed = crashed_file_system;
    snapshot_blocks = snapshot_blocks;
    exact = exact;
    scans = same ∙ volume.scans ∙ ap (λ n. 64 * n) blocks-crashed;
  }
