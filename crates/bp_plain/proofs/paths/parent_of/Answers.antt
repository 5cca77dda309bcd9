use Rattle.bp_plain.proofs.PathLaws.{parent_prefix}
use Rattle.bp_plain.proofs.paths.parent_of.Goals as goal

pub returns : goal.returns
returns c = parent_prefix c.args.path.now c.saturating_sub.result c.saturating_sub.ensures
