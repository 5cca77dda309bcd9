use Rattle.std.proofs.Common.{◌≡◌, ◌∙◌, ap, arith, codes, false, refl, sym}
use Rattle.std.specs.Prelude.{bytes_eq}
use Rattle.bp_script.specs.Commands.{decoded, long_command}
use Rattle.bp_script.proofs.NoBatch.{none_long, parts_of_other}
use Rattle.bp_script.proofs.NumberWords.{not_empty}
use Rattle.bp_script.proofs.Rows.{asked_after}
use Rattle.bp_script.proofs.decoded.Decoded.long.Goals as goal

pub returns-else-is_batch : goal.returns-else-is_batch
returns-else-is_batch c =
    let verb = c.args.verb.now in
    let first = c.args.first.now in
    let second = c.args.second.now in
    let rest = c.args.rest.now in
    let other : bytes_eq verb (codes "batch") ≡ false = sym c.is_batch.ensures ∙ c.if-is_batch.false in (
      (refl, λ _. tt, omega arith),
      record {
        keeps_room = tt;
        meaning = c.on_long.ensures.meaning
            ∙ ap decoded (asked_after verb first second rest other c.requires.some_first c.requires.some_second (not_empty _ (sym c.is_empty.ensures ∙ c.if-is_empty.false)));
        whole = parts_of_other c.on_long.result (long_command verb first second rest) c.on_long.ensures.meaning (none_long verb first second rest);
      },
    )
