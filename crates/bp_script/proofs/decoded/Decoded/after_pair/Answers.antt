use Rattle.std.proofs.Common.{◌≡◌, ◌∙◌, ◌∷◌, [], ap, arith, refl, sym}
use Rattle.bp_script.specs.Commands.{asked_by, decoded, pair_command, words_of}
use Rattle.bp_script.proofs.NoBatch.{none_pair, parts_of_other}
use Rattle.bp_script.proofs.NumberWords.{not_empty}
use Rattle.bp_script.proofs.Rows.{asked_three}
use Rattle.bp_script.proofs.decoded.Decoded.after_pair.Goals as goal

pub returns-in-None : goal.returns-in-None
returns-in-None c =
    let verb = c.args.verb.now in
    let first = c.args.first.now in
    let second = c.split_once.result.0.now in
    let split : words_of c.args.rest.now ≡ second ∷ [] = rw c.in-None.is at c.split_once.ensures.split in
    let row = asked_three verb first second c.requires.some (not_empty _ (sym c.is_empty.ensures ∙ c.if-is_empty.false)) in (
      (refl, λ _. tt, omega arith),
      record {
        keeps_room = tt;
        meaning = c.on_pair.ensures.meaning ∙ ap decoded (sym row) ∙ ap (λ words. decoded (asked_by (verb ∷ first ∷ words))) (sym split);
        whole = parts_of_other c.on_pair.result (pair_command verb first second) c.on_pair.ensures.meaning (none_pair verb first second);
      },
    )
