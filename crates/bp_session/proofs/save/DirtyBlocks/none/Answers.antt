use Rattle.bp_session.proofs.DirtyLaws.{prefix_clean}
use Rattle.bp_session.proofs.save.DirtyBlocks.none.Goals as goal

pub returns-clause-none : goal.returns-clause-none
returns-clause-none c = prefix_clean c.args.blocks
