use Rattle.std.proofs.Common.{arith}
use Rattle.bp_read.proofs.RegionWords.{length_now}
use Rattle.bp_thaw.proofs.ways.inode_file.Goals as goal

pub load-requires : goal.load-requires
load-requires g c = omega (arith, c.requires.formatted.sized.at_least, length_now (g.R.Region.memory c.args.region.now))

pub load-requires-2 : goal.load-requires-2
load-requires-2 g c = omega (arith, c.requires.formatted.sized.at_least, length_now (g.R.Region.memory c.args.region.now))
