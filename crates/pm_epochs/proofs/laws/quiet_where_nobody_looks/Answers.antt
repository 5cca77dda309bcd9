use Rattle.std.proofs.Common.{IsTrue}
use Rattle.pm_epochs.proofs.MayLaws.{quiet_may}
use Rattle.pm_epochs.proofs.laws.quiet_where_nobody_looks.Goals as goal

pub returns : goal.returns
returns g c = λ base events may. quiet_may g.L.Likeness.same (record { symmetric = g.L.Likeness.symmetric; transitive = g.L.Likeness.transitive }) (λ word value. IsTrue (may word value)) base events
