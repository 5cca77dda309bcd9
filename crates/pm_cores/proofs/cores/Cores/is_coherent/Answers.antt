use Rattle.std.proofs.Common.{subst}
use Rattle.pm_cores.specs.Caches.{Caches}
use Rattle.pm_cores.specs.Order.{IsCoherent}
use Rattle.pm_cores.proofs.Coherent.{coherent}
use Rattle.pm_cores.proofs.cores.Cores.is_coherent.Goals as goal

pub returns : goal.returns
returns c =
    let inside = c.self.inside in
    subst (λ (s : Caches). IsCoherent s) c.self.view_is (coherent inside.counts.len _ _ _ _ inside.room c.self.invariant.sound)
