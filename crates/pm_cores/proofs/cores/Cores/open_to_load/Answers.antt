use Rattle.std.proofs.Common.{subst}
use Rattle.pm_cores.specs.Caches.{Caches, IsDirtyUnder}
use Rattle.pm_cores.proofs.Calls.{gone_by}
use Rattle.pm_cores.proofs.cores.Cores.open_to_load.Goals as goal

pub returns-then-owner-core-clause-ready : goal.returns-then-owner-core-clause-ready
returns-then-owner-core-clause-ready c = λ other owner under line.
    absurd (gone_by c.args.self.now c.args.core c.args.i c.in-Some.owner owner other c.in-Some.ensures.each (subst (λ (s : Caches). IsDirtyUnder s other owner) c.settle.ensures under) line)
