use Rattle.std.proofs.Common.{sym, ◌∙◌}
use Rattle.bp_volume.proofs.RenameLaws.{into_itself}
use Rattle.bp_volume.proofs.rename.ends_on.Goals as goal

pub returns-then-is_below-clause-refused : goal.returns-then-is_below-clause-refused
returns-then-is_below-clause-refused g c =
    into_itself _ c.args.from.now c.args.to.now c.in_ok-ends.ensures.source.below c.in_ok-ends.ensures.target.below _ _ _ c.in_ok-ends.ensures.source _ c.in_ok-ends.ensures.target
    (sym c.if-is_below.true ∙ c.is_below.ensures)
