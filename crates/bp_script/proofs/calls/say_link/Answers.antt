use Rattle.std.proofs.Common.{◌++◌, arith, codes, length-append}
use Rattle.bp_script.specs.Export.{path_word}
use Rattle.bp_script.proofs.Joining.{spaced_placed}
use Rattle.bp_script.proofs.calls.say_link.Goals as goal

pub returns-clause-text : goal.returns-clause-text
returns-clause-text c =
    spaced_placed (codes "link " ++ path_word c.args.from.now) (path_word c.args.to.now) c.say_verb-end.new.into c.args.into.now c.put_second.new.into c.say_verb-end.result c.put_second.result
    c.say_verb-end.ensures.text (omega (arith, c.say_verb-end.ensures.end, length-append (codes "link ") (path_word c.args.from.now))) c.put_second.ensures.text c.put_second.ensures.end
