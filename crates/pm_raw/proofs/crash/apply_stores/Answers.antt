use Rattle.std.proofs.Common.{◌∙◌, arith, sym}
use Rattle.pm_raw.proofs.PieceLaws.{kept-end, kept-step}
use Rattle.pm_raw.proofs.crash.apply_stores.Goals as goal

pub loop-i-preserved : goal.loop-i-preserved
loop-i-preserved c =
    kept-step c.loop-i.words c.put_kept.new.words c.args.values.now c.args.mask.now c.args.word c.loop-i.i (omega (arith, c.loop-i-test.true, c.min-i-end.ensures)) (omega (arith, c.loop-i-test.true, c.min-i-end.ensures)) c.put_kept.ensures.kept c.put_kept.ensures.lost
    ∙ c.loop-i.invariant

pub returns : goal.returns
returns c =
    sym (kept-end c.loop-i.words c.args.values.now c.args.mask.now _ c.loop-i.i (omega (arith, c.loop-i-test.false, c.min-i-end.ensures)))
    ∙ c.loop-i.invariant
