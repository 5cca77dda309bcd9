use Rattle.std.proofs.Common.{sym}
use Rattle.pm_raw.proofs.RunLaws.{length-seen}
use Rattle.pm_raw.proofs.runs.Runs.len.Goals as goal

pub returns : goal.returns
returns c = sym (length-seen c.self.inside _ c.self.invariant c.self.view_is)
