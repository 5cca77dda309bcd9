use Rattle.std.proofs.Common.{◌≡◌, ◌++◌, arith, codes, decimal, length, length-append}
use Rattle.bp_script.specs.Export.{path_word}
use Rattle.bp_script.proofs.Joining.{spaced_placed}
use Rattle.bp_script.proofs.calls.say_set_attribute.Goals as goal

pub returns-clause-text : goal.returns-clause-text
returns-clause-text c =
    let prefix : c.say_verb-end.result ≡ length (codes "setattr " ++ path_word c.args.path.now) = omega (arith, c.say_verb-end.ensures.end, length-append (codes "setattr ") (path_word c.args.path.now)) in
    spaced_placed (codes "setattr " ++ path_word c.args.path.now ++ codes " " ++ decimal c.args.number) (decimal c.args.value) c.put_number-end.new.into c.args.into.now c.put_number.new.into c.put_number-end.result c.put_number.result
    (spaced_placed (codes "setattr " ++ path_word c.args.path.now) (decimal c.args.number) c.say_verb-end.new.into c.args.into.now c.put_number-end.new.into c.say_verb-end.result c.put_number-end.result
    c.say_verb-end.ensures.text prefix c.put_number-end.ensures.text c.put_number-end.ensures.end)
    (omega (arith, prefix, c.put_number-end.ensures.end, length-append (codes "setattr " ++ path_word c.args.path.now ++ codes " ") (decimal c.args.number), length-append (codes "setattr " ++ path_word c.args.path.now) (codes " ")))
    c.put_number.ensures.text c.put_number.ensures.end
