use Rattle.std.proofs.Common.{◌≡◌, ◌∙◌, ◌∷◌, [], ap, arith, refl, sym}
use Rattle.bp_script.specs.Commands.{asked_by, decoded, word_command, words_of}
use Rattle.bp_script.proofs.NoBatch.{none_word, parts_of_other}
use Rattle.bp_script.proofs.NumberWords.{not_empty}
use Rattle.bp_script.proofs.Rows.{asked_two}
use Rattle.bp_script.proofs.decoded.Decoded.after_verb.Goals as goal

pub returns-in-None : goal.returns-in-None
returns-in-None c =
    let verb = c.args.verb.now in
    let word = c.split_once.result.0.now in
    let split : words_of c.args.rest.now ≡ word ∷ [] = rw c.in-None.is at c.split_once.ensures.split in
    let row = asked_two verb word (not_empty _ (sym c.is_empty.ensures ∙ c.if-is_empty.false)) in (
      (refl, λ _. tt, omega arith),
      record {
        keeps_room = tt;
        meaning = c.on_word.ensures.meaning ∙ ap decoded (sym row) ∙ ap (λ words. decoded (asked_by (verb ∷ words))) (sym split);
        whole = parts_of_other c.on_word.result (word_command verb word) c.on_word.ensures.meaning (none_word verb word);
      },
    )
