use Rattle.std.proofs.Common.{rules}
use Rattle.bp_disk.proofs.CopyLaws.{changes_then}
use Rattle.bp_disk.proofs.temp_file.fill_in_place.Goals as goal

pub returns : goal.returns
returns g c = changes_then _ _ (g.S.System.calls c.write.new.self) _ (search rules) c.write_zeros.ensures
