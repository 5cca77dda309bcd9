use Rattle.bp_disk.proofs.CrashLaws.{holds_saved}
use Rattle.bp_disk.proofs.laws.crash_law.Goals as goal

pub returns : goal.returns
returns c = holds_saved
