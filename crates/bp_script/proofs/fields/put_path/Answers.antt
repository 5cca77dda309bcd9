use Rattle.std.proofs.Common.{◌++◌, ◌∙◌, ap, sym, take}
use Rattle.bp_script.proofs.PlainPath.{unescaped_path}
use Rattle.bp_script.proofs.fields.put_path.Goals as goal

pub returns-in-None-clause-path : goal.returns-in-None-clause-path
returns-in-None-clause-path c =
    c.put.ensures.items ∙ ap (λ path. take c.args.at c.args.text.now.items ++ path) (sym (unescaped_path c.args.word.now (sym c.in-None.ensures)))
