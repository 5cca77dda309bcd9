use Rattle.std.proofs.Common.{sym}
use Rattle.pm_raw.proofs.LogLaws.{length-seen}
use Rattle.pm_raw.proofs.log.Log.len.Goals as goal

pub returns : goal.returns
returns c = sym (length-seen c.self.inside c.self.invariant _ c.self.view_is)
