use Rattle.std.proofs.Common.{◌∷◌, [], arith}
use Rattle.bp_script.specs.Texts.{digits_or_dash}
use Rattle.bp_script.proofs.Joining.{two_placed}
use Rattle.bp_script.proofs.calls.put_bytes.Goals as goal

pub returns-clause-text : goal.returns-clause-text
returns-clause-text c =
    two_placed c.args.into.now (32 ∷ []) (digits_or_dash c.args.bytes.now) c.put-end.new.into c.put_content.new.into c.args.at c.put-end.result c.put_content.result
    (omega (arith, c.requires)) c.put-end.ensures.text c.put-end.ensures.end c.put_content.ensures.text c.put_content.ensures.end
