use Rattle.std.proofs.Common.{rules}
use Rattle.pm_region.specs.Memory.{Memory, Adds}
use Rattle.bp_layout.specs.Words.{block_count}
use Rattle.bp_mount.specs.Laid.{format_events}
use Rattle.bp_mount.proofs.HalfFormat.{left_by_format}
use Rattle.bp_mount.proofs.format_stores.lay_out.Goals as goal

pub returns-clause-left : goal.returns-clause-left
returns-clause-left g c image found =
    let old : Memory = g.R.Region.memory c.args.region.now in
    let adds : Adds old (g.R.Region.memory c.lay_first_blocks.new.region) (format_events c.args.version (block_count old.base)) = search rules in
    left_by_format old.base c.args.version (block_count old.base) c.requires.sized.whole c.requires.sized.at_least c.requires.sized.at_most image (rw (adds, c.requires.fresh) at found)
