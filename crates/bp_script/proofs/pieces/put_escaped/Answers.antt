use Rattle.std.proofs.Common.{◌≡◌, ◌+◌, ◌≤◌, ℕ, List, length, take, ◌++◌, ◌∙◌, ap, arith, length-append}
use Rattle.std.proofs.lemmas.List.{length-take-le}
use Rattle.percent_encoding.specs.Iter.{encoded_text}
use Rattle.percent_encoding.specs.Percent.{percent_encode}
use Rattle.bp_script.proofs.WrittenPieces.{nothing_written, next_fits, one_more, end_is, text_is}
use Rattle.bp_script.proofs.pieces.put_escaped.Goals as goal

-- how long all is that is written, and what stood before it
whole_is : (first text : List ℕ) (at : ℕ) → at + length text ≤ length first → length (take at first ++ text) ≡ at + length text
whole_is first text at room = omega (arith, room, length-append (take at first) text, length-take-le at first (omega (arith, room)))

pub loop-piece-init : goal.loop-piece-init
loop-piece-init c =
    nothing_written c.args.into.now _ (percent_encode c.args.escaped c.args.bytes.now) c.args.at
    (ap encoded_text c.into_iter-piece-iterator.ensures.into_iter_gives ∙ c.percent_encode-piece-items.ensures.text)
    (omega (arith, c.requires))

pub put-end-requires : goal.put-end-requires
put-end-requires c =
    let room : length (take c.args.at c.args.into.now ++ percent_encode c.args.escaped c.args.bytes.now) ≤ length c.loop-piece.into = omega (arith, c.requires, whole_is c.args.into.now (percent_encode c.args.escaped c.args.bytes.now) c.args.at c.requires, c.loop-piece.auto.into) in
    omega (arith, next_fits _ _ _ _ _ c.loop-piece.invariant c.in-Some.piece.now _ c.in-Some.ensures.steps room, ap length c.as_bytes.ensures.value)

pub loop-piece-preserved : goal.loop-piece-preserved
loop-piece-preserved c =
    let piece = c.as_bytes.ensures.value in
    let room : length (take c.args.at c.args.into.now ++ percent_encode c.args.escaped c.args.bytes.now) ≤ length c.loop-piece.into = omega (arith, c.requires, whole_is c.args.into.now (percent_encode c.args.escaped c.args.bytes.now) c.args.at c.requires, c.loop-piece.auto.into) in
    let fits = next_fits _ _ _ _ _ c.loop-piece.invariant c.in-Some.piece.now _ c.in-Some.ensures.steps room in
    one_more _ _ _ _ _ c.loop-piece.invariant c.in-Some.piece.now _ c.put-end.new.into c.put-end.result c.in-Some.ensures.steps
    (rw piece at c.put-end.ensures.text)
    (rw piece at c.put-end.ensures.end)
    (omega (arith, fits, c.put-end.ensures.end, ap length piece, c.put-end.auto.into))

pub returns-clause-text : goal.returns-clause-text
returns-clause-text c =
    let end = end_is _ _ _ _ _ c.loop-piece.invariant c.in-None.ensures.steps ∙ whole_is c.args.into.now (percent_encode c.args.escaped c.args.bytes.now) c.args.at c.requires in
    rw end at (text_is _ _ _ _ _ c.loop-piece.invariant c.in-None.ensures.steps)

pub returns-clause-end : goal.returns-clause-end
returns-clause-end c = end_is _ _ _ _ _ c.loop-piece.invariant c.in-None.ensures.steps ∙ whole_is c.args.into.now (percent_encode c.args.escaped c.args.bytes.now) c.args.at c.requires
