use Rattle.std.proofs.lemmas.Bool.{not-false}
use Rattle.std.proofs.Common.{sym, ◌∙◌}
use Rattle.bp_path.proofs.BelowLaws.{next_left}
use Rattle.bp_path.proofs.names.is_below.Goals as goal

pub loop-above-preserved : goal.loop-above-preserved
loop-above-preserved c =
    next_left c.args.above.now c.args.text.now c.loop-above.above.now c.loop-above.text.now c.split_first-in-loop-above.result.1.now c.split_first.result.1.now
    c.split_first-in-loop-above.result.0.now c.split_first.result.0.now c.loop-above.invariant c.split_first-in-loop-above.ensures.split c.split_first.ensures.split
    (not-false _ (sym c.ne.ensures ∙ c.if-ne.false)) c.split_first-in-loop-above.ensures.rest c.split_first.ensures.rest
