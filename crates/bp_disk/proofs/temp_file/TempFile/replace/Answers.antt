use Rattle.std.proofs.Common.{rules}
use Rattle.bp_disk.proofs.CopyLaws.{changes_then}
use Rattle.bp_disk.proofs.temp_file.TempFile.replace.Goals as goal

pub returns-clause-changes : goal.returns-clause-changes
returns-clause-changes g c = changes_then _ _ (g.S.System.calls c.set_len-2.new.self) _ (search rules) c.write.ensures.changes
