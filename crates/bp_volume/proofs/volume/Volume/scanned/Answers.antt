use Rattle.std.proofs.Common.{◌≡◌, ◌*◌, ◌∙◌, ap, sym}
use Rattle.pm_region.specs.Memory.{Memory, current_words}
use Rattle.bp_roles.specs.Seen.{seen}
use Rattle.bp_layout.specs.Words.{block_count}
use Rattle.bp_volume.proofs.ScannedLaws.{scanned_volume, words_fresh}
use Rattle.bp_volume.proofs.ViewLaws.{fresh_keeps}
use Rattle.bp_volume.proofs.volume.Volume.scanned.Goals as goal

pub invariant_of-result : goal.invariant_of-result
invariant_of-result g c =
    let memory : Memory = seen c.args.region in
    let blocks : block_count memory.base ≡ block_count (current_words memory) = ap block_count (sym (words_fresh memory c.requires.fresh)) in
    record {
      roles = fresh_keeps c.args.region c.requires.wide c.requires.roles c.requires.fresh;
      volume = scanned_volume memory _ _ c.requires.fresh c.requires.roomy c.in-Ok.ensures.well_formed c.in-Ok.ensures.snapshot_blocks
          (record {
            sets = record {
              block_room = c.scan_whole.ensures.block_room ∙ c.requires.blocks ∙ blocks;
              inode_room = c.scan_whole.ensures.inode_room ∙ c.requires.inodes ∙ ap (λ n. 64 * n) blocks;
              free_blocks = c.in-Ok.ensures.blocks;
              free_inodes = c.in-Ok.ensures.inodes;
            };
            counts = c.in-Ok.ensures.counts;
            count_room = c.scan_whole.ensures.count_room ∙ c.requires.counts ∙ ap (λ n. 64 * n) blocks;
            snapshot_room = c.scan_whole.ensures.snapshot_room ∙ c.requires.snapshot_blocks ∙ blocks;
          })
          (c.scan_whole.ensures.pending ∙ c.requires.pending ∙ ap (λ n. 64 * n) blocks);
      right = rw (words_fresh memory c.requires.fresh) c.requires.right;
    }
