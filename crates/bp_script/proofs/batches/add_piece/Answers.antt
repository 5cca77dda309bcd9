use Rattle.std.proofs.Common.{◌≡◌, ◌∙◌, Some, sym, ap, arith, List, ℕ}
use Rattle.bp_script.specs.Commands.{path_bytes}
use Rattle.bp_script.specs.Lines.{first_word}
use Rattle.bp_plain.specs.Seen.{spanned}
use Rattle.bp_script.proofs.BatchWords.{prefix_kept, part_kept, piece_is}
use Rattle.bp_script.proofs.batches.add_piece.Goals as goal

pub returns-clause-piece : goal.returns-clause-piece
returns-clause-piece c =
    let longer = c.add_bytes_part.new.text.items in
    let path : spanned longer c.add_path_part-path.result ≡ path_bytes c.args.words.path.now =
    part_kept c.end_of.result c.add_path_part-path.new.text.items longer c.add_path_part-path.result c.in_ok-bytes.ensures.prefix (omega (arith, c.end_of.ensures)) ∙ c.add_path_part-path.ensures.part in
    ap (λ (text : List ℕ). Some (record { path = text; offset = c.in-Some.offset; bytes = spanned longer c.in_ok-bytes.bytes })) path
    ∙ sym (piece_is c.args.words.path.now c.args.words.offset.now (first_word c.args.words.rest.now) c.in-Some.offset (spanned longer c.in_ok-bytes.bytes) (sym c.is_empty.ensures ∙ c.if-is_empty.false)
    (sym c.number.ensures ∙ c.in-Some.is) (sym c.in_ok-bytes.ensures.part))

pub returns-clause-prefix : goal.returns-clause-prefix
returns-clause-prefix c =
    prefix_kept c.args.at c.end_of.result c.add_path_part-path.new.text.items c.add_bytes_part.new.text.items (omega (arith, c.end_of.ensures, c.add_path_part-path.ensures.place)) c.in_ok-bytes.ensures.prefix
    ∙ c.add_path_part-path.ensures.prefix
