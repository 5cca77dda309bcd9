use Rattle.std.proofs.Common.{◌≡◌, ◌+◌, ◌++◌, ◌∙◌, ap, arith, length, drop}
use Rattle.bp_script.specs.Export.{path_word}
use Rattle.bp_script.proofs.Joining.{two_placed}
use Rattle.bp_script.proofs.calls.say_verb.Goals as goal

pub returns-clause-text : goal.returns-clause-text
returns-clause-text c =
    let last : 0 + length c.args.verb.now + length (path_word c.args.path.now) ≡ c.put_path.result = omega (arith, c.put-end.ensures.end, c.put_path.ensures.end) in
    two_placed c.args.into.now c.args.verb.now (path_word c.args.path.now) c.put-end.new.into c.put_path.new.into 0 c.put-end.result c.put_path.result
    (omega arith) c.put-end.ensures.text c.put-end.ensures.end c.put_path.ensures.text c.put_path.ensures.end
    ∙ ap (λ n. c.args.verb.now ++ path_word c.args.path.now ++ drop n c.args.into.now) last
