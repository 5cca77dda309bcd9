use Rattle.std.proofs.Common.{◌≡◌, ◌∙◌, Some, ap, arith, refl, sym}
use Rattle.bp_script.specs.Commands.{decoded, upgrade_command, whole_crash, word_command}
use Rattle.bp_script.specs.Lines.{word_row}
use Rattle.bp_script.proofs.Rows.{decoded-upgrade, decoded-whole}
use Rattle.bp_script.proofs.decoded.Decoded.on_word.Goals as goal

pub returns-in-Some-Crash : goal.returns-in-Some-Crash
returns-in-Some-Crash c =
    let word = c.args.word.now in
    let row : word_command c.args.verb.now word ≡ whole_crash word =
    c.word_verb.ensures word ∙ ap (λ found. word_row found word) c.in-Some-Crash.is ∙ ap (λ verb. word_row (Some verb) word) c.in-Some-Crash.field-0-is in (
      (refl, λ _. tt, omega arith),
      record { keeps_room = tt; meaning = c.whole_crash.ensures ∙ decoded-whole word ∙ ap decoded (sym row) },
    )

pub returns-in-Some-Upgrade : goal.returns-in-Some-Upgrade
returns-in-Some-Upgrade c =
    let word = c.args.word.now in
    let row : word_command c.args.verb.now word ≡ upgrade_command word =
    c.word_verb.ensures word ∙ ap (λ found. word_row found word) c.in-Some-Upgrade.is ∙ ap (λ verb. word_row (Some verb) word) c.in-Some-Upgrade.field-0-is in (
      (refl, λ _. tt, omega arith),
      record { keeps_room = tt; meaning = c.upgrade.ensures ∙ decoded-upgrade word ∙ ap decoded (sym row) },
    )
