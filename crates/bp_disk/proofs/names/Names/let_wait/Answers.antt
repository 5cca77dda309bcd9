use Rattle.bp_disk.proofs.CopyLaws.{changes_then}
use Rattle.bp_disk.proofs.names.Names.let_wait.Goals as goal

pub returns-in_default-clause-changes : goal.returns-in_default-clause-changes
returns-in_default-clause-changes g c = λ file.
    changes_then file _ _ _ (c.is_second.ensures.changes file) (c.take_from.ensures file)
