use Rattle.std.proofs.Common.{◌≡◌, ◌∙◌, ap, arith, refl}
use Rattle.bp_script.specs.Commands.{in_grammar}
use Rattle.bp_script.specs.Lines.{HasItsParts, line_asks}
use Rattle.bp_script.proofs.Asked.{can_be_asked}
use Rattle.bp_script.proofs.Masks.{mask_short}
use Rattle.bp_script.proofs.NoBatch.{has_batch, has_none, none_bare}
use Rattle.bp_script.proofs.Rows.{bare_asked}
use Rattle.bp_script.proofs.ServedLines.{served_line}
use Rattle.bp_script.proofs.decoded.Decoded.line.Goals as goal

pub returns-in-Some : goal.returns-in-Some
returns-in-Some c =
    let split = rw c.in-Some.is at c.split_once.ensures.split in
    let asked : line_asks c.after_verb.result ≡ in_grammar c.args.bytes.now = rw split c.after_verb.ensures.meaning in (
      (refl, λ _. tt, omega arith),
      record {
        keeps_room = tt;
        meaning = asked;
        mask = rw asked (mask_short c.args.bytes.now);
        served = rw asked (served_line c.args.bytes.now);
        can = can_be_asked c.after_verb.result (rw asked (served_line c.args.bytes.now)) c.after_verb.ensures.whole;
      },
    )

pub returns-in-None : goal.returns-in-None
returns-in-None c =
    let split = rw c.in-None.is at c.split_once.ensures.split in
    let asked : line_asks c.bare.result ≡ in_grammar c.args.bytes.now = rw split (c.bare.ensures ∙ bare_asked c.split_once.result.0.now) in
    let parts : HasItsParts c.bare.result = has_none c.bare.result (ap has_batch c.bare.ensures ∙ none_bare c.split_once.result.0.now) in (
      (refl, λ _. tt, omega arith),
      record {
        keeps_room = tt;
        meaning = asked;
        mask = rw asked (mask_short c.args.bytes.now);
        served = rw asked (served_line c.args.bytes.now);
        can = can_be_asked c.bare.result (rw asked (served_line c.args.bytes.now)) parts;
      },
    )
