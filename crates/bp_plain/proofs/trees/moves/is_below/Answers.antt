use Rattle.std.proofs.Common.{◌∙◌}
use Rattle.bp_plain.proofs.Renamed.{below_seen}
use Rattle.bp_plain.proofs.trees.moves.is_below.Goals as goal

pub returns : goal.returns
returns c = c.starts_with.ensures.value ∙ below_seen c.args.above.now c.args.path.now
