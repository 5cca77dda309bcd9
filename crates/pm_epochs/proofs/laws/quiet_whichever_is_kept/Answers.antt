use Rattle.pm_epochs.proofs.MayLaws.{quiet_links}
use Rattle.pm_epochs.proofs.laws.quiet_whichever_is_kept.Goals as goal

pub returns : goal.returns
returns g c = quiet_links g.L.Likeness.same (record { symmetric = g.L.Likeness.symmetric; transitive = g.L.Likeness.transitive })
