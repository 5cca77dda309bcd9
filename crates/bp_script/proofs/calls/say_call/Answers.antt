use Rattle.std.proofs.Common.{◌∷◌, []}
use Rattle.bp_plain.specs.Seen.{call_of}
use Rattle.bp_script.specs.Export.{call_line}
use Rattle.bp_script.proofs.Joining.{piece_placed}
use Rattle.bp_script.proofs.calls.say_call.Goals as goal

pub returns-clause-whole : goal.returns-clause-whole
returns-clause-whole c =
    piece_placed (call_line (call_of c.args.call.now)) (10 ∷ []) c.say_line-end.new.into c.args.into.now c.put.new.into c.say_line-end.result c.put.result
    c.say_line-end.ensures.text c.say_line-end.ensures.end c.put.ensures.text c.put.ensures.end
