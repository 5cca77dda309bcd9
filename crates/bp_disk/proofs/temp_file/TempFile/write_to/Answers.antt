use Rattle.std.proofs.Common.{rules}
use Rattle.bp_disk.proofs.CopyLaws.{changes_then}
use Rattle.bp_disk.proofs.temp_file.TempFile.write_to.Goals as goal

pub returns-in_err-copy_written : goal.returns-in_err-copy_written
returns-in_err-copy_written g c = changes_then _ _ _ _ (search rules) c.copy_written.ensures

pub returns : goal.returns
returns g c = changes_then _ _ (g.S.System.calls c.copy_written.new.system) _
    (changes_then _ _ (g.S.System.calls c.set_len.new.self) _ (search rules) c.copy_written.ensures) c.copy_zeros.ensures
