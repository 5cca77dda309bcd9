use Rattle.std.proofs.Common.{◌+◌, ◌≤◌, ◌++◌, ◌∙◌, length, take, drop, ap, subst, sym}
use Rattle.bp_script.proofs.PathWord.{encoded_path}
use Rattle.bp_script.proofs.calls.put_path.Goals as goal

pub put_escaped-requires : goal.put_escaped-requires
put_escaped-requires c = subst (λ text. c.args.at + length text ≤ length c.args.into.now) (sym (encoded_path c.args.path.now)) c.requires

pub returns-clause-text : goal.returns-clause-text
returns-clause-text c =
    c.put_escaped.ensures.text ∙ ap (λ text. take c.args.at c.args.into.now ++ text ++ drop (c.args.at + length text) c.args.into.now) (encoded_path c.args.path.now)

pub returns-clause-end : goal.returns-clause-end
returns-clause-end c = c.put_escaped.ensures.end ∙ ap (λ text. c.args.at + length text) (encoded_path c.args.path.now)
