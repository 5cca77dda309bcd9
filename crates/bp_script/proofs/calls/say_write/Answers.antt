use Rattle.std.proofs.Common.{◌≡◌, ◌++◌, arith, codes, decimal, length, length-append}
use Rattle.bp_script.specs.Export.{path_word}
use Rattle.bp_script.specs.Texts.{digits_or_dash}
use Rattle.bp_script.proofs.Joining.{spaced_placed}
use Rattle.bp_script.proofs.calls.say_write.Goals as goal

pub returns-clause-text : goal.returns-clause-text
returns-clause-text c =
    let prefix : c.say_verb-end.result ≡ length (codes "write " ++ path_word c.args.path.now) = omega (arith, c.say_verb-end.ensures.end, length-append (codes "write ") (path_word c.args.path.now)) in
    spaced_placed (codes "write " ++ path_word c.args.path.now ++ codes " " ++ decimal c.args.offset) (digits_or_dash c.args.bytes.now) c.put_number-end.new.into c.args.into.now c.put_bytes.new.into c.put_number-end.result c.put_bytes.result
    (spaced_placed (codes "write " ++ path_word c.args.path.now) (decimal c.args.offset) c.say_verb-end.new.into c.args.into.now c.put_number-end.new.into c.say_verb-end.result c.put_number-end.result
    c.say_verb-end.ensures.text prefix c.put_number-end.ensures.text c.put_number-end.ensures.end)
    (omega (arith, prefix, c.put_number-end.ensures.end, length-append (codes "write " ++ path_word c.args.path.now ++ codes " ") (decimal c.args.offset), length-append (codes "write " ++ path_word c.args.path.now) (codes " ")))
    c.put_bytes.ensures.text c.put_bytes.ensures.end
