use Rattle.bp_disk.proofs.CrashLaws.{leaves_saved}
use Rattle.bp_disk.proofs.laws.kill_law.Goals as goal

pub returns : goal.returns
returns c = leaves_saved
