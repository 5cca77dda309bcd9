use Rattle.bp_disk.proofs.CopyLaws.{none_spare, spares_then}
use Rattle.bp_disk.proofs.temp_file.TempFile.new.Goals as goal

pub returns-then-is_err-clause-spares : goal.returns-then-is_err-clause-spares
returns-then-is_err-clause-spares g c = λ other.
    spares_then _ _ (g.S.System.calls c.make-made.new.system) _ (c.make-made.ensures.spares other) (none_spare _ _ _ c.remove_second.ensures)
