use Rattle.std.proofs.Common.{arith, refl, ◌≡◌, ◌∙◌, length}
use Rattle.std.specs.Prelude.{codes}
use Rattle.std.proofs.lemmas.Result.{err_from_is_err_and}
use Rattle.std.proofs.Math.Seq.{take-length}
use Rattle.bp_script.specs.Texts.{entry_text}
use Rattle.bp_replies.proofs.PassingLaws.{part_before, passes_nothing, passes_then, then_part, then_passes}
use Rattle.bp_session.proofs.ReportLaws.{listed, around}
use Rattle.bp_session.proofs.replies.write_names.Goals as goal

pub loop-i-init : goal.loop-i-init
loop-i-init g c = record { passes = passes_nothing _ _; faults = refl }

pub loop-i-preserved : goal.loop-i-preserved
loop-i-preserved g c = record {
  passes = rw (listed entry_text c.args.listing.now c.loop-i.i _ c.at-kind.ensures.entry) (passes_then _ _ _ _ _ _ _ _ c.loop-i.invariant.passes c.in_ok-report.ensures.all);
  faults = c.in_ok-report.ensures.cause.same ∙ c.loop-i.invariant.faults;
}

pub returns-in_err-report-clause-some : goal.returns-in_err-report-clause-some
returns-in_err-report-clause-some g c =
    let p = err_from_is_err_and c.from_residual.result c.from_residual.ensures.1 in
    let broken = c.in_err-report.ensures.some in
    rw p.1 (rw (around entry_text c.args.listing.now c.loop-i.i _ (codes "end\n") c.at-kind.ensures.entry) (part_before _ _ _ _ _ _ _ _ c.loop-i.invariant.passes broken))

pub returns-clause-all : goal.returns-clause-all
returns-clause-all g c =
    let list = c.args.listing.now in
    let all : c.loop-i.i ≡ length list = omega (arith, c.len-i-end.ensures) in
    let before = rw (all, take-length list) at c.loop-i.invariant.passes in
    then_passes c.report-2.result _ _ _ _ _ _ _ _ before c.report-2.ensures.all

pub returns-clause-some : goal.returns-clause-some
returns-clause-some g c =
    let list = c.args.listing.now in
    let all : c.loop-i.i ≡ length list = omega (arith, c.len-i-end.ensures) in
    let before = rw (all, take-length list) at c.loop-i.invariant.passes in
    then_part c.report-2.result _ _ _ _ _ _ _ before c.report-2.ensures.some
