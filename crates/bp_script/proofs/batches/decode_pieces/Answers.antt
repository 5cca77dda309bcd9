use Rattle.std.proofs.Common.{◌≡◌, ◌∙◌, ◌∷◌, ◌++◌, ◌+◌, ◌≤◌, ◌==◌, [], List, ℕ, length, map, sym, ap, ap₂, arith}
use Rattle.std.specs.Option.{option_map_or}
use Rattle.std.proofs.lemmas.Bool.{eqb-false, eqb-true}
use Rattle.std.proofs.lemmas.List.{length-map}
use Rattle.std.proofs.lemmas.Result.{err_from_is_err_and}
use Rattle.bp_plain.specs.Calls.{Piece}
use Rattle.bp_plain.specs.Calls.Call.{batch}
use Rattle.bp_plain.specs.Seen.{piece_in}
use Rattle.bp_script.specs.Commands.Command.{bad_syntax, file_call}
use Rattle.bp_script.specs.Lines.{first_word, words_at, words_after}
use Rattle.bp_script.proofs.BatchWords.{asked_so, asks_on, len_after_less, lie_in_all, no_piece, on_few, on_full, on_none, on_piece, one_more, one_more_lies}
use Rattle.bp_script.proofs.FirstWord.{words_reported}
use Rattle.bp_script.proofs.Splitting.{slice_split-cons}
use Rattle.bp_script.proofs.batches.decode_pieces.Goals as goal

pub returns-then-is_full-clause-meaning : goal.returns-then-is_full-clause-meaning
returns-then-is_full-clause-meaning c =
    let done = map (piece_in c.loop-left.text.items) c.loop-left.pieces.items in
    let cut = slice_split-cons (λ b. b == 32) c.in-Some.words.rest.now in
    let full = length-map c.loop-left.pieces.items (piece_in c.loop-left.text.items) ∙ eqb-true _ _ (sym c.is_full.ensures.value ∙ c.if-is_full.true) in
    asked_so (words_at c.args.first) done (words_at c.in-Some.words) bad_syntax (rw c.in-Some.is at c.loop-left.invariant.asks)
    (ap (λ words. asks_on done (c.in-Some.words.path.now ∷ c.in-Some.words.offset.now ∷ words)) cut.2 ∙ on_full done c.in-Some.words.path.now c.in-Some.words.offset.now cut.0 cut.1 full)

pub returns-in_err-piece-clause-meaning : goal.returns-in_err-piece-clause-meaning
returns-in_err-piece-clause-meaning c =
    let p = err_from_is_err_and c.from_residual.result c.from_residual.ensures.1 in
    let done = map (piece_in c.loop-left.text.items) c.loop-left.pieces.items in
    let words = c.in-Some.words in
    let cut = slice_split-cons (λ b. b == 32) words.rest.now in
    rw p.1 (
    asked_so (words_at c.args.first) done (words_at words) bad_syntax (rw c.in-Some.is at c.loop-left.invariant.asks)
    (ap (λ ws. asks_on done (words.path.now ∷ words.offset.now ∷ ws)) (words_reported words.rest.now cut.0 cut.1 cut.2)
    ∙ no_piece done words.path.now words.offset.now (first_word words.rest.now) cut.1 (sym c.in_err-piece.ensures.piece))
    )

pub returns-in_err-left-clause-meaning : goal.returns-in_err-left-clause-meaning
returns-in_err-left-clause-meaning c =
    let p = err_from_is_err_and c.from_residual-in_err-left.result c.from_residual-in_err-left.ensures.1 in
    let done = map (piece_in c.loop-left.text.items) c.loop-left.pieces.items in
    let words = c.in-Some.words in
    let piece = piece_in c.add_piece.new.text.items c.in_ok-piece.piece in
    rw p.1 (
    asked_so (words_at c.args.first) done (words_at words) bad_syntax (rw c.in-Some.is at c.loop-left.invariant.asks)
    (ap (λ ws. asks_on done (words.path.now ∷ words.offset.now ∷ ws)) c.in_ok-piece.ensures.following
    ∙ on_piece done words.path.now words.offset.now (first_word words.rest.now) (words_after c.in_ok-piece.more) piece (sym c.in_ok-piece.ensures.piece)
    ∙ on_few (done ++ piece ∷ []) (words_after c.in_ok-piece.more) c.in_err-left.ensures.few.0 c.in_err-left.ensures.few.1)
    )

pub loop-left-preserved : goal.loop-left-preserved
loop-left-preserved c =
    let end = c.loop-left.end in
    let text = c.loop-left.text.items in
    let longer = c.add_piece.new.text.items in
    let pieces = c.loop-left.pieces.items in
    let done = map (piece_in text) pieces in
    let words = c.in-Some.words in
    let given = c.in_ok-piece.piece in
    let piece = piece_in longer given in
    let asks : asks_on (map (piece_in longer) c.push.new.self.items) (option_map_or words_at c.in_ok-left.left []) ≡ asks_on [] (words_at c.args.first) =
    ap₂ (λ (ps : List Piece) (ws : List (List ℕ)). asks_on ps ws) (ap (map (piece_in longer)) c.push.ensures.items ∙ one_more end text longer pieces given c.in_ok-piece.ensures.prefix c.loop-left.invariant.whole) c.in_ok-left.ensures.split
    ∙ sym (on_piece done words.path.now words.offset.now (first_word words.rest.now) (words_after c.in_ok-piece.more) piece (sym c.in_ok-piece.ensures.piece))
    ∙ ap (λ ws. asks_on done (words.path.now ∷ words.offset.now ∷ ws)) (sym c.in_ok-piece.ensures.following)
    ∙ (rw c.in-Some.is at c.loop-left.invariant.asks) in record {
      asks = asks;
      whole = rw c.push.ensures.items (
          one_more_lies end c.end_of-end.result text longer pieces given c.loop-left.invariant.whole
          (omega (arith, c.end_of-end.ensures, c.in_ok-piece.ensures.later)) (omega (arith, c.end_of-end.ensures, c.in_ok-piece.ensures.lies.bytes))
          (omega (arith, c.end_of-end.ensures, c.in_ok-piece.ensures.order)) (omega (arith, c.end_of-end.ensures))
          );
      within = omega (arith, c.end_of-end.ensures, c.in_ok-piece.ensures.lies.bytes);
      some = omega (arith, c.push.ensures.len);
      few = omega (arith, c.push.ensures.len, c.is_full.ensures.fits, eqb-false _ _ (sym c.is_full.ensures.value ∙ c.if-is_full.false));
      fits = omega (arith, (rw c.in-Some.is at c.loop-left.invariant.fits), c.end_of-end.ensures, c.in_ok-piece.ensures.len, c.in_ok-left.ensures.len, len_after_less c.in_ok-piece.more);
      room = omega (arith, c.loop-left.invariant.room, c.in_ok-piece.ensures.room);
    }

pub returns-clause-meaning : goal.returns-clause-meaning
returns-clause-meaning c =
    let done = map (piece_in c.loop-left.text.items) c.loop-left.pieces.items in
    let some : 1 ≤ length c.loop-left.pieces.items + 0 = rw c.in_default.is at c.loop-left.invariant.some in
    let len = length-map c.loop-left.pieces.items (piece_in c.loop-left.text.items) in
    asked_so (words_at c.args.first) done [] (file_call (batch done)) (rw c.in_default.is at c.loop-left.invariant.asks)
    (on_none done (omega (arith, some, len)) (omega (arith, len, c.loop-left.invariant.few)))

pub returns-clause-whole : goal.returns-clause-whole
returns-clause-whole c = lie_in_all c.loop-left.end c.loop-left.text.items c.loop-left.pieces.items c.loop-left.invariant.whole
