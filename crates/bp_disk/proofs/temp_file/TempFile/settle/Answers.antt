use Rattle.std.proofs.Common.{rules}
use Rattle.bp_disk.proofs.CopyLaws.{settles_then}
use Rattle.bp_disk.proofs.temp_file.TempFile.settle.Goals as goal

pub returns-then-not-branch-clause-done : goal.returns-then-not-branch-clause-done
returns-then-not-branch-clause-done g c = settles_then _ (g.S.System.calls c.flush_names.new.self) _ (search rules) c.remove_second.ensures
