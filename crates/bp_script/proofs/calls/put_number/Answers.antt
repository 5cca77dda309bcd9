use Rattle.std.proofs.Common.{◌≡◌, ◌∷◌, [], ◌∙◌, arith, decimal}
use Rattle.bp_script.proofs.Joining.{two_placed}
use Rattle.bp_script.proofs.calls.put_number.Goals as goal

pub returns-clause-text : goal.returns-clause-text
returns-clause-text c =
    let is : c.as_bytes.result.now ≡ decimal c.args.number = c.as_bytes.ensures.value ∙ c.format.ensures.text in
    two_placed c.args.into.now (32 ∷ []) (decimal c.args.number) c.put-end.new.into c.put.new.into c.args.at c.put-end.result c.put.result
    (omega (arith, c.requires)) c.put-end.ensures.text c.put-end.ensures.end (rw is at c.put.ensures.text) (rw is at c.put.ensures.end)
