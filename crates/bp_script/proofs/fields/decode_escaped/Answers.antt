use Rattle.std.proofs.Common.{sym}
use Rattle.bp_script.proofs.PlainPath.{unescaped_path}
use Rattle.bp_script.proofs.fields.decode_escaped.Goals as goal

pub returns-in-None-clause-path : goal.returns-in-None-clause-path
returns-in-None-clause-path c = sym (unescaped_path c.args.word.now (sym c.in-None.ensures))
