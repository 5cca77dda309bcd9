use Rattle.std.proofs.Common.{◌∙◌}
use Rattle.bp_plain.proofs.Renamed.{same_seen}
use Rattle.bp_plain.proofs.paths.is_same.Goals as goal

pub returns : goal.returns
returns c = c.eq.ensures ∙ same_seen c.args.path.now c.args.other.now
