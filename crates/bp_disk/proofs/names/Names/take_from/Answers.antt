use Rattle.std.proofs.Common.{rules}
use Rattle.bp_disk.proofs.CopyLaws.{changes_then}
use Rattle.bp_disk.proofs.names.Names.take_from.Goals as goal

pub returns-in-Ok-true : goal.returns-in-Ok-true
returns-in-Ok-true g c = λ file. changes_then file _ (g.S.System.calls c.has_second.new.self) _ (search rules) (c.remove_second.ensures file)
