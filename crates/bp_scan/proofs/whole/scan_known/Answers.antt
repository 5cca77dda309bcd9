use Rattle.std.proofs.Common.{true, true≢false}
use Rattle.pm_region.specs.Memory.{current_words}
use Rattle.bp_scan.proofs.FaultLaws.{no_memory}
use Rattle.bp_scan.proofs.whole.scan_known.Goals as goal

pub unreachable-requires : goal.unreachable-requires
unreachable-requires g c =
    true≢false (no_memory (current_words (g.R.Region.memory c.args.region.now)) true c.in-Err.field-0 c.requires.well_formed c.in-Err.ensures.fault).1
