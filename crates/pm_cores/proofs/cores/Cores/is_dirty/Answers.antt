use Rattle.std.proofs.Common.{◌∙◌, ap, eqb, not, sym}
use Rattle.pm_cores.proofs.Vectors.{since_read}
use Rattle.pm_cores.proofs.Views.{dirty_seen}
use Rattle.pm_cores.proofs.cores.Cores.is_dirty.Goals as goal

pub returns : goal.returns
returns c =
    let number = since_read c.self.inside c.self.invariant c.args.i _ (rw (← c.self.view_is) at c.requires) c.index.ensures in
    rw (← c.self.view_is)
    (ap (λ n. not (eqb n 0)) number ∙ sym (dirty_seen _ _ _ _ c.self.invariant.sound c.args.i))
