use Rattle.std.proofs.Common.{arith}
use Rattle.pm_region.proofs.MemoryLaws.{length-current_words}
use Rattle.bp_export.proofs.attributes.has_attributes.Goals as goal

pub load-requires : goal.load-requires
load-requires g c = omega (arith, c.requires, length-current_words (g.R.Region.memory c.args.region.now))
