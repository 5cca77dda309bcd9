use Rattle.std.proofs.Common.{refl, arith, rules, sym, ap, ◌∙◌, ◌≡◌, ◌≤◌, ◌-◌, ◌++◌, take, drop, length, get_or}
use Rattle.std.proofs.lemmas.Bool.{eqb-true}
use Rattle.std.proofs.lemmas.List.{nil_from_length}
use Rattle.std.proofs.lemmas.Result.{err_from_is_err_and}
use Rattle.bp_replies.specs.Gathering.{waiting}
use Rattle.bp_session.specs.Lines.{commands_from}
use Rattle.bp_session.proofs.AheadLaws.{waits_broken, waits_handed, waits_nothing}
use Rattle.bp_session.proofs.OutcomeLaws.{never_whole, piece_nothing}
use Rattle.bp_session.proofs.Runs.{next_ends, next_waits, run_waits}
use Rattle.bp_session.proofs.server.take_piece.Goals as goal

pub loop-end-init : goal.loop-end-init
loop-end-init g c = record { inside = omega arith; piece = refl; waits = waits_nothing g.V.FileSystem.behaviour _ _ _ _ c.clear.ensures (piece_nothing g.V.FileSystem.behaviour _ _ _) }

pub loop-end-preserved : goal.loop-end-preserved
loop-end-preserved g c =
    let all = c.args.work.now.piece.items in
    let at = c.loop-end.at in
    let end = c.in-Some.end in
    let line = c.loop-end.work.buffers.line.items in
    let found = c.in-Some.ensures in
    let whole : c.deref.result.now ≡ c.loop-end.work.piece.items = search rules in
    let size : length all ≡ 65536 = search rules in
    let newline : get_or all end 0 ≡ 10 = ap (λ l. get_or l end 0) (sym (whole ∙ c.loop-end.invariant.piece)) ∙ eqb-true (get_or c.deref.result.now end 0) 10 found.1 in
    let b = waiting c.end_line.new.work.buffers.replies in
    record {
      inside = omega (arith, found.0.high);
      piece = c.end_line.ensures.piece ∙ c.take_run.ensures.piece ∙ c.loop-end.invariant.piece;
      waits = rw c.end_line.ensures.line (
          next_waits g.V.FileSystem.behaviour _ c.args.most all _ line c.take_run.new.work.buffers.line.items _ at end _ found.0.low c.loop-end.invariant.waits
          (λ rest. ap (λ l. commands_from line (take (end - at) (drop at l) ++ rest)) (sym c.loop-end.invariant.piece) ∙ c.take_run.ensures.same rest)
          (omega (arith, found.0.high, size)) newline b _
          (λ e. nil_from_length b (let few : length b ≤ c.args.most = c.in_ok-end_line.ensures.few in omega (arith, few, e)))
          (rw c.take_run.ensures.replies at c.in_ok-end_line.ensures.outcome));
    }

pub returns-in_err-end_line-clause-outcome : goal.returns-in_err-end_line-clause-outcome
returns-in_err-end_line-clause-outcome g c =
    let p = err_from_is_err_and c.from_residual.result c.from_residual.ensures.1 in
    let all = c.args.work.now.piece.items in
    let at = c.loop-end.at in
    let end = c.in-Some.end in
    let line = c.loop-end.work.buffers.line.items in
    let found = c.in-Some.ensures in
    let whole : c.deref.result.now ≡ c.loop-end.work.piece.items = search rules in
    let size : length all ≡ 65536 = search rules in
    let newline : get_or all end 0 ≡ 10 = ap (λ l. get_or l end 0) (sym (whole ∙ c.loop-end.invariant.piece)) ∙ eqb-true (get_or c.deref.result.now end 0) 10 found.1 in
    rw (p.1, p.2) (next_ends g.V.FileSystem.behaviour _ c.args.most all _ line c.take_run.new.work.buffers.line.items _ at end _ found.0.low c.loop-end.invariant.waits
    (λ rest. ap (λ l. commands_from line (take (end - at) (drop at l) ++ rest)) (sym c.loop-end.invariant.piece) ∙ c.take_run.ensures.same rest)
    (omega (arith, found.0.high, size)) newline _ _ _ c.args.count _ (never_whole c.in_err-end_line.field-0.0) (omega (arith, found.0.high))
    (rw c.take_run.ensures.replies at c.in_err-end_line.ensures.outcome))

pub returns-in-Ok-clause-outcome : goal.returns-in-Ok-clause-outcome
returns-in-Ok-clause-outcome g c =
    let all = c.args.work.now.piece.items in
    let at = c.loop-end.at in
    let count = c.args.count in
    let line = c.loop-end.work.buffers.line.items in
    let ran = run_waits g.V.FileSystem.behaviour _ c.args.most all _ line c.take_run-2.new.work.buffers.line.items _ at count _ c.loop-end.invariant.inside c.loop-end.invariant.waits
    (λ rest. ap (λ l. commands_from line (take (count - at) (drop at l) ++ rest)) (sym c.loop-end.invariant.piece) ∙ c.take_run-2.ensures.same rest) in
    rw c.in-Ok.ensures.cause.same (waits_handed g.V.FileSystem.behaviour _ _ _ _ _ _ _ ran _ (rw c.take_run-2.ensures.replies at c.in-Ok.ensures.all))

pub returns-in-Err-clause-outcome : goal.returns-in-Err-clause-outcome
returns-in-Err-clause-outcome g c =
    let all = c.args.work.now.piece.items in
    let at = c.loop-end.at in
    let count = c.args.count in
    let line = c.loop-end.work.buffers.line.items in
    let ran = run_waits g.V.FileSystem.behaviour _ c.args.most all _ line c.take_run-2.new.work.buffers.line.items _ at count _ c.loop-end.invariant.inside c.loop-end.invariant.waits
    (λ rest. ap (λ l. commands_from line (take (count - at) (drop at l) ++ rest)) (sym c.loop-end.invariant.piece) ∙ c.take_run-2.ensures.same rest) in
    waits_broken g.V.FileSystem.behaviour _ _ _ _ _ _ _ ran _ _ _ (rw c.take_run-2.ensures.replies at c.in-Err.ensures.some) c.in-Err.ensures.cause.failed
