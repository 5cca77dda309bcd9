use Rattle.std.proofs.Common.{◌∷◌, [], arith}
use Rattle.bp_script.specs.Export.{path_word}
use Rattle.bp_script.proofs.Joining.{two_placed}
use Rattle.bp_script.proofs.calls.put_second.Goals as goal

pub returns-clause-text : goal.returns-clause-text
returns-clause-text c =
    two_placed c.args.into.now (32 ∷ []) (path_word c.args.path.now) c.put-end.new.into c.put_path.new.into c.args.at c.put-end.result c.put_path.result
    (omega (arith, c.requires)) c.put-end.ensures.text c.put-end.ensures.end c.put_path.ensures.text c.put_path.ensures.end
