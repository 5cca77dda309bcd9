use Rattle.std.proofs.Common.{◌+◌, ◌-◌, length, drop, Some, None, arith}
use Rattle.std.proofs.lemmas.List.{length-drop, length-take}
use Rattle.memchr.specs.Find.{is_byte}
use Rattle.bp_text.proofs.Places.{found_after, none_after, of_both}
use Rattle.bp_text.proofs.first_far.Goals as goal

pub returns-in-Some : goal.returns-in-Some
returns-in-Some c =
    let p = is_byte c.args.byte in
    let text = c.args.text.now in
    of_both c.args.byte c.args.from (length text) text (Some (c.args.from + c.in-Some.place))
    (found_after p text c.args.from c.args.from _ c.in-Some.place (omega arith) (omega (arith, length-take (length text - c.args.from) (drop c.args.from text), length-drop c.args.from text)) (λ k low high passes. absurd (omega (arith, low, high))) c.in-Some.ensures)

pub returns-in-None : goal.returns-in-None
returns-in-None c k low high =
    let p = is_byte c.args.byte in
    let text = c.args.text.now in
    of_both c.args.byte c.args.from (length text) text None
    (λ j from to. none_after p text c.args.from c.args.from _ (omega (arith, length-take (length text - c.args.from) (drop c.args.from text), length-drop c.args.from text)) (λ k low high passes. absurd (omega (arith, low, high))) c.in-None.ensures j from (omega (arith, to, length-take (length text - c.args.from) (drop c.args.from text), length-drop c.args.from text))) k low high
