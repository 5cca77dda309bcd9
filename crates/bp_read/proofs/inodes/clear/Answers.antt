use Rattle.bp_read.proofs.Filling.{cleared}
use Rattle.bp_read.proofs.inodes.clear.Goals as goal

pub returns-clause-cleared : goal.returns-clause-cleared
returns-clause-cleared g c = cleared _ _ _ _ c.args.first c.requires.in_range c.store_past_head.ensures c.store_past_head-2.ensures c.store_past_head-3.ensures
