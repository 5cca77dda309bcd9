use Rattle.std.proofs.Common.{◌++◌, arith, codes, decimal, length-append}
use Rattle.bp_script.specs.Export.{path_word}
use Rattle.bp_script.proofs.Joining.{spaced_placed}
use Rattle.bp_script.proofs.calls.say_truncate.Goals as goal

pub returns-clause-text : goal.returns-clause-text
returns-clause-text c =
    spaced_placed (codes "truncate " ++ path_word c.args.path.now) (decimal c.args.size) c.say_verb-end.new.into c.args.into.now c.put_number.new.into c.say_verb-end.result c.put_number.result
    c.say_verb-end.ensures.text (omega (arith, c.say_verb-end.ensures.end, length-append (codes "truncate ") (path_word c.args.path.now))) c.put_number.ensures.text c.put_number.ensures.end
