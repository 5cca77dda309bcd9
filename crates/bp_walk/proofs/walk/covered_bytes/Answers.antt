use Rattle.std.proofs.Common.{◌∙◌}
use Rattle.bp_walk.proofs.Spans.{span-covered}
use Rattle.bp_walk.proofs.walk.covered_bytes.Goals as goal

pub returns : goal.returns
returns c = c.span.ensures ∙ span-covered c.args.level c.requires.least
