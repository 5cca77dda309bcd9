use Rattle.std.proofs.Common.{◌<◌, ◌∙◌, sym, subst}
use Rattle.pm_cores.specs.declared.entry.Entry.TheVariants.{Store}
use Rattle.pm_cores.specs.Caches.{Caches}
use Rattle.pm_cores.proofs.Vectors.{since_read}
use Rattle.pm_cores.proofs.Views.{line_owner_epoch}
use Rattle.pm_cores.proofs.cores.Cores.owner_of_word.Goals as goal

pub returns-clause-core : goal.returns-clause-core
returns-clause-core c =
    let old = c.self.invariant in
    let word = c.args.i in
    let number = since_read c.self.inside old word _ (rw (← c.self.view_is) at c.requires).word c.index.ensures in
    let by = rw (c.deref.ensures.value, c.deref-2.ensures.value, number) at (sym c.owner_at.ensures ∙ c.in-Some.is) in
    let store = line_owner_epoch _ _ _ _ old.sound word c.in-Some.owner by in
    subst (λ (s : Caches). c.in-Some.owner.core < s.cores) c.self.view_is (old.known_cores store.0 (Store c.in-Some.owner.core word store.1.value) store.1.is)
