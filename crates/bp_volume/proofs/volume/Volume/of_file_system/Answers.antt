use Rattle.std.proofs.Common.{◌≡◌, ◌*◌, ◌≤◌, ◌∙◌, ap, sym, subst}
use Rattle.bp_cache.specs.Cache.{IsCacheOf}
use Rattle.bp_layout.specs.Whole.{IsFileSystem}
use Rattle.bp_layout.specs.Words.{Image, block_count}
use Rattle.bp_roles.specs.Mounted.{KeepsRoles}
use Rattle.bp_roles.specs.Seen.{seen}
use Rattle.bp_limits.specs.Limits.{call_room}
use Rattle.pm_region.specs.Memory.{Memory, current_words}
use Rattle.bp_volume.proofs.ScannedLaws.{scanned_volume, words_fresh}
use Rattle.bp_volume.proofs.ViewLaws.{fresh_keeps}
use Rattle.bp_volume.proofs.volume.Volume.of_file_system.Goals as goal

pub rescan-requires-clause-well_formed : goal.rescan-requires-clause-well_formed
rescan-requires-clause-well_formed g c = subst IsFileSystem (sym (words_fresh (seen c.args.region) c.requires.fresh)) c.requires.well_formed

pub rescan-requires-clause-blocks : goal.rescan-requires-clause-blocks
rescan-requires-clause-blocks g c = c.requires.blocks ∙ ap block_count (sym (words_fresh (seen c.args.region) c.requires.fresh))

pub rescan-requires-clause-inodes : goal.rescan-requires-clause-inodes
rescan-requires-clause-inodes g c = c.requires.inodes ∙ ap (λ n. 64 * block_count n) (sym (words_fresh (seen c.args.region) c.requires.fresh))

pub rescan-requires-clause-counts : goal.rescan-requires-clause-counts
rescan-requires-clause-counts g c = c.requires.counts ∙ ap (λ n. 64 * block_count n) (sym (words_fresh (seen c.args.region) c.requires.fresh))

pub rescan-requires-clause-snapshot_blocks : goal.rescan-requires-clause-snapshot_blocks
rescan-requires-clause-snapshot_blocks g c = c.requires.snapshot_blocks ∙ ap block_count (sym (words_fresh (seen c.args.region) c.requires.fresh))

pub rescan-requires-clause-pending : goal.rescan-requires-clause-pending
rescan-requires-clause-pending g c = c.requires.pending ∙ ap (λ n. 64 * block_count n) (sym (words_fresh (seen c.args.region) c.requires.fresh))

pub invariant_of-result : goal.invariant_of-result
invariant_of-result g c =
    let memory : Memory = seen c.args.region in
    let same : seen c.rescan.new.parts.region ≡ memory = ap seen c.rescan.ensures.region in
    let words : current_words memory ≡ memory.base = words_fresh memory c.requires.fresh in
    record {
      roles = subst KeepsRoles (sym c.rescan.ensures.region) (fresh_keeps c.args.region c.requires.wide c.requires.roles c.requires.fresh);
      volume = scanned_volume (seen c.rescan.new.parts.region) _ _
          (ap (λ (m : Memory). m.events) same ∙ c.requires.fresh)
          (subst (λ (m : Memory). call_room ≤ m.capacity) (sym same) c.requires.roomy)
          (subst (λ (m : Memory). IsFileSystem (current_words m)) (sym same) (subst IsFileSystem (sym words) c.requires.well_formed))
          c.rescan.ensures.snapshot_blocks c.rescan.ensures.exact
          (c.rescan.ensures.pending ∙ c.requires.pending ∙ ap (λ n. 64 * block_count n) (sym words) ∙ ap (λ (m : Memory). 64 * block_count (current_words m)) (sym same));
      right = subst (λ (m : Memory). IsCacheOf (current_words m) c.args.cache) (sym same) (subst (λ (image : Image). IsCacheOf image c.args.cache) (sym words) c.requires.right);
    }
