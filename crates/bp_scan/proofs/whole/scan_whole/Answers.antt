use Rattle.std.proofs.Common.{false}
use Rattle.pm_region.specs.Memory.{current_words}
use Rattle.bp_scan.proofs.FaultLaws.{no_memory}
use Rattle.bp_scan.proofs.InodeFaults.{err_then}
use Rattle.bp_scan.proofs.whole.scan_whole.Goals as goal

pub returns-clause-exact : goal.returns-clause-exact
returns-clause-exact g c = λ fs.
    err_then c.scan_trees.result (λ f fault. (no_memory (current_words (g.R.Region.memory c.args.region.now)) false f fs fault).0) c.scan_trees.ensures.fault
