use Rattle.std.proofs.Common.{◌+◌, ◌≤◌, ◌++◌, ◌∙◌, length, take, drop, ap, subst, sym}
use Rattle.bp_script.proofs.NameText.{encoded_name}
use Rattle.bp_script.proofs.replies.put_name.Goals as goal

pub put_escaped-requires : goal.put_escaped-requires
put_escaped-requires c = subst (λ text. c.args.at + length text ≤ length c.args.into.now) (sym (encoded_name c.args.name.now)) c.requires

pub returns-else-is_plain-clause-text : goal.returns-else-is_plain-clause-text
returns-else-is_plain-clause-text c =
    c.put_escaped.ensures.text ∙ ap (λ text. take c.args.at c.args.into.now ++ text ++ drop (c.args.at + length text) c.args.into.now) (encoded_name c.args.name.now)

pub returns-else-is_plain-clause-end : goal.returns-else-is_plain-clause-end
returns-else-is_plain-clause-end c = c.put_escaped.ensures.end ∙ ap (λ text. c.args.at + length text) (encoded_name c.args.name.now)
