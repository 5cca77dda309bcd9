use Rattle.std.proofs.Common.{get_or, sym}
use Rattle.pm_cores.proofs.Report.{last_within}
use Rattle.pm_cores.proofs.Vectors.{last_read}
use Rattle.pm_cores.proofs.cores.Cores.last_store.Goals as goal

pub returns : goal.returns
returns c =
    let recorded = c.self.invariant.recorded in
    let is = last_read c.self.inside c.self.invariant c.args.i _ (rw (← c.self.view_is) at c.requires) c.index.ensures in
    rw (← c.self.view_is, is) (record { within = last_within _ _ _ _ recorded c.args.i; recorded = λ base. sym (recorded.last c.args.i (get_or base c.args.i 0)) })
