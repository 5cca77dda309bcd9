use Rattle.std.proofs.Common.{subst}
use Rattle.pm_cores.specs.Caches.{Caches, settled}
use Rattle.pm_cores.specs.Order.{words_up_to, BacksTo}
use Rattle.pm_cores.proofs.Backing.{settled_by_backs}
use Rattle.pm_cores.proofs.cores.Cores.settles_by_backs.Goals as goal

pub returns : goal.returns
returns c = λ owner.
    subst (λ (s : Caches). BacksTo s (words_up_to owner.core owner.epoch s.owners) (settled s owner)) c.self.view_is
    (settled_by_backs c.self.inside.counts.len _ _ _ _ c.self.inside.room c.self.invariant.sound owner)
