use Rattle.std.proofs.Common.{arith}
use Rattle.bp_read.proofs.RegionWords.{length_now}
use Rattle.bp_scan.proofs.first_tree.read_superblock.Goals as goal

pub load-requires : goal.load-requires
load-requires g c = omega (arith, c.requires, length_now (g.R.Region.memory c.args.region.now))

pub load-requires-2 : goal.load-requires-2
load-requires-2 g c = omega (arith, c.requires, length_now (g.R.Region.memory c.args.region.now))

pub load-requires-3 : goal.load-requires-3
load-requires-3 g c = omega (arith, c.requires, length_now (g.R.Region.memory c.args.region.now))

pub load-requires-4 : goal.load-requires-4
load-requires-4 g c = omega (arith, c.requires, length_now (g.R.Region.memory c.args.region.now))
