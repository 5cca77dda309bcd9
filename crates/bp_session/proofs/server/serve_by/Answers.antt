use Rattle.std.proofs.Common.{arith, rules, refl, ◌++◌, [], drop, take, ◌∙◌, sym, ap, ◌≡◌, ◌≤◌, ◌+◌, length, length-append}
use Rattle.std.proofs.lemmas.List.{append_assoc}
use Rattle.std.proofs.lemmas.Result.{err_from_is_err_and}
use Rattle.std.proofs.KnownBytes.{Consumes-kept, Consumes-nil, Consumes-trans}
use Rattle.std.specs.Io.KnownBytes.{Consumes}
use Rattle.bp_session.proofs.OutcomeLaws.{never_whole, piece_nothing, piece_then, piece_stops, serve_part, serve_long, serve_ended, serve_end}
use Rattle.bp_session.proofs.ServingLaws.{take_more, length_taken}
use Rattle.bp_session.proofs.server.serve_by.Goals as goal

pub loop-count-init : goal.loop-count-init
loop-count-init g c = record {
  served = ([], Consumes-nil _, refl, rw c.clear.ensures.items (piece_nothing g.V.FileSystem.behaviour c.args.most _ []));
  source = refl;
  taken = search rules;
}

pub returns-in-Err-clause-outcome : goal.returns-in-Err-clause-outcome
returns-in-Err-clause-outcome g c =
    let before = c.loop-count.invariant.served in
    serve_part g.V.FileSystem.behaviour _ _ _ _ _ before.0 _ (Consumes-kept _ _ _ _ before.1 c.in-Err.ensures.bytes) before.3 (rw c.loop-count.invariant.source at c.in-Err.ensures.cause.failed)

pub loop-count-preserved : goal.loop-count-preserved
loop-count-preserved g c =
    let before = c.loop-count.invariant.served in
    let piece = c.fill.new.piece.items in
    let all : c.min-served.result ≡ c.in-Ok.count = omega arith in
    record {
      served = (
        before.0 ++ take c.in-Ok.count piece,
        Consumes-trans _ _ _ _ _ before.1 c.in-Ok.ensures.bytes.0,
        omega (arith, length-append before.0 (take c.in-Ok.count piece), length_taken piece c.in-Ok.count c.in-Ok.ensures.bound.0, before.2),
        piece_then g.V.FileSystem.behaviour _ _ _ _ _ _ _ before.3 _ _ _ (rw all at c.in_ok-take_piece.ensures.outcome),
      );
      source = c.in-Ok.ensures.cause.same ∙ c.loop-count.invariant.source;
      taken = search rules;
    }

pub returns-in_err-take_piece-clause-outcome : goal.returns-in_err-take_piece-clause-outcome
returns-in_err-take_piece-clause-outcome g c =
    let p = err_from_is_err_and c.from_residual.result c.from_residual.ensures.1 in
    let some = never_whole c.in_err-take_piece.field-0.0 in
    let before = c.loop-count.invariant.served in
    let piece = c.fill.new.piece.items in
    let served = c.min-served.result in
    let whole = take_more piece served c.in-Ok.count (omega arith) in
    let ended = piece_stops g.V.FileSystem.behaviour _ _ _ _ (drop served (take c.in-Ok.count piece)) _ [] _ _ some c.in_err-take_piece.ensures.outcome in
    rw (p.1, p.2) (serve_ended g.V.FileSystem.behaviour _ _ _ _ _ _ (before.0 ++ take c.in-Ok.count piece) _ some (Consumes-trans _ _ _ _ _ before.1 c.in-Ok.ensures.bytes.0)
    (piece_then g.V.FileSystem.behaviour _ _ _ _ _ _ _ before.3 _ _ _ (rw whole at ended)) (c.in-Ok.ensures.cause.same ∙ c.loop-count.invariant.source))

pub returns-then-served-count-clause-outcome : goal.returns-then-served-count-clause-outcome
returns-then-served-count-clause-outcome g c =
    let before = c.loop-count.invariant.served in
    let piece = c.fill.new.piece.items in
    let served = c.min-served.result in
    let whole = take_more piece served c.in-Ok.count (omega arith) in
    let size : length (take c.in-Ok.count piece) ≡ c.in-Ok.count = length_taken piece c.in-Ok.count c.in-Ok.ensures.bound.0 in
    let first : length (take served piece) ≡ served = length_taken piece served (omega (arith, c.in-Ok.ensures.bound.0)) in
    let parts = length-append (take served piece) (drop served (take c.in-Ok.count piece)) in
    let more : length (take served piece) + length (drop served (take c.in-Ok.count piece)) ≡ c.in-Ok.count = sym parts ∙ ap length whole ∙ size in
    let most : c.in-Ok.count ≤ 65536 = search rules in
    serve_long g.V.FileSystem.behaviour _ _ _ _ _ (before.0 ++ take served piece) (drop served (take c.in-Ok.count piece)) _
    (rw (append_assoc before.0 (take served piece) (drop served (take c.in-Ok.count piece)), whole) (Consumes-trans _ _ _ _ _ before.1 c.in-Ok.ensures.bytes.0))
    (omega (arith, length-append before.0 (take served piece), first, before.2))
    (omega (arith, first, more)) (omega (arith, first, more, most))
    (piece_then g.V.FileSystem.behaviour _ _ _ _ _ _ _ before.3 _ _ _ c.in_ok-take_piece.ensures.outcome) (c.in-Ok.ensures.cause.same ∙ c.loop-count.invariant.source)

pub returns-clause-outcome : goal.returns-clause-outcome
returns-clause-outcome g c =
    let before = c.loop-count.invariant.served in
    let none : Consumes (g.S.Source.view c.loop-count.src).left (g.S.Source.view c.fill.new.src).left [] = rw c.if-count-eq0.true at c.in-Ok.ensures.bytes.0 in
    serve_end g.V.FileSystem.behaviour _ _ _ _ _ _ (before.0 ++ []) _ _ (Consumes-trans _ _ _ _ _ before.1 none) (c.in-Ok.ensures.bytes.1 c.if-count-eq0.true (search rules))
    (omega (arith, length-append before.0 [], before.2, c.loop-count.invariant.taken))
    (piece_then g.V.FileSystem.behaviour _ _ _ _ _ _ _ before.3 _ _ _ (piece_nothing g.V.FileSystem.behaviour _ _ _)) c.finish.ensures (c.in-Ok.ensures.cause.same ∙ c.loop-count.invariant.source)
