use Rattle.std.proofs.Common.{◌≡◌, ◌*◌, ◌-◌, take, drop, length, sym, ◌∙◌, ap, arith}
use Rattle.std.proofs.Math.Seq.{take-length}
use Rattle.std.proofs.lemmas.List.{get_or-drop, length-drop}
use Rattle.pm_words.specs.Bytes.{word_of}
use Rattle.bp_layout.specs.Words.{byte_of}
use Rattle.bp_layout.proofs.PartLaws.{chunk-at, part_small, rest_small}
use Rattle.bp_layout.proofs.WordBytes.{byte_of-spelled}
use Rattle.bp_layout.proofs.name_words.name_word.Goals as goal

pub returns-then-from-name : goal.returns-then-from-name
returns-then-from-name c offset low =
    let name = c.args.name.now in
    ap (λ w. byte_of w offset) c.whole_word.ensures
    ∙ byte_of-spelled (take 8 (drop (8 * c.args.index) name)) (part_small name (8 * c.args.index) (λ k. omega (arith, c.type_inv.name k))) offset
    ∙ chunk-at name c.args.index offset low

pub returns-then-from-name-2 : goal.returns-then-from-name-2
returns-then-from-name-2 c offset low =
    let name = c.args.name.now in
    let rest = drop (8 * c.args.index) name in
    let whole : take (length name - 8 * c.args.index) rest ≡ rest = ap (λ n. take n rest) (sym (length-drop (8 * c.args.index) name)) ∙ take-length rest in
    ap (λ w. byte_of w offset) (c.pack.ensures ∙ ap word_of whole)
    ∙ byte_of-spelled rest (rest_small name (8 * c.args.index) (λ k. omega (arith, c.type_inv.name k))) offset
    ∙ get_or-drop (8 * c.args.index) name offset 0
