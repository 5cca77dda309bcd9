use Rattle.std.proofs.Common.{◌∙◌}
use Rattle.bp_disk.proofs.CopyLaws.{none_spare, others_spare, spares_then, named_still}
use Rattle.bp_disk.proofs.temp_file.TempFile.make.Goals as goal

pub returns-in_err-metadata-clause-spares : goal.returns-in_err-metadata-clause-spares
returns-in_err-metadata-clause-spares g c = λ other. none_spare _ _ _ c.remove_old.ensures.changes

pub returns-then-nlink-gt1-clause-spares : goal.returns-then-nlink-gt1-clause-spares
returns-then-nlink-gt1-clause-spares g c = λ other. none_spare _ _ _ c.remove_old.ensures.changes

pub returns-in_err-folder-clause-spares : goal.returns-in_err-folder-clause-spares
returns-in_err-folder-clause-spares g c = λ other. none_spare _ _ _ c.remove_old.ensures.changes

pub returns-in_err-file-clause-spares : goal.returns-in_err-file-clause-spares
returns-in_err-file-clause-spares g c = λ other.
    spares_then _ _ (g.S.System.calls c.remove_old.new.system) _ (none_spare _ _ _ c.remove_old.ensures.changes)
    c.take_or_make.ensures.spares

pub returns-clause-spares : goal.returns-clause-spares
returns-clause-spares g c = λ other.
    spares_then _ _ (g.S.System.calls c.take_or_make.new.system) _
    (spares_then _ _ (g.S.System.calls c.remove_old.new.system) _ (none_spare _ _ _ c.remove_old.ensures.changes)
    c.take_or_make.ensures.spares)
    (others_spare _ _ _ _ (c.in_ok-file.ensures.other other) c.prepare.ensures.changes)

pub returns-clause-named : goal.returns-clause-named
returns-clause-named g c = λ named.
    c.prepare.ensures.named ∙ c.in_ok-file.ensures.named (named_still _ (g.S.System.calls c.args.system.now) (g.S.System.calls c.remove_old.new.system) c.remove_old.ensures.second named)

pub returns-in-Err-clause-spares : goal.returns-in-Err-clause-spares
returns-in-Err-clause-spares g c = λ other.
    spares_then _ _ (g.S.System.calls c.prepare.new.system) _
    (spares_then _ _ (g.S.System.calls c.take_or_make.new.system) _
    (spares_then _ _ (g.S.System.calls c.remove_old.new.system) _ (none_spare _ _ _ c.remove_old.ensures.changes)
    c.take_or_make.ensures.spares)
    (others_spare _ _ _ _ (c.in_ok-file.ensures.other other) c.prepare.ensures.changes))
    (none_spare _ _ _ c.remove_second.ensures)
