use Rattle.std.proofs.Common.{arith}
use Rattle.bp_read.proofs.RegionWords.{length_now}
use Rattle.bp_scan.proofs.whole.has_second.Goals as goal

pub load-requires : goal.load-requires
load-requires g c = omega (arith, c.requires.at_least, length_now (g.R.Region.memory c.args.region.now))
