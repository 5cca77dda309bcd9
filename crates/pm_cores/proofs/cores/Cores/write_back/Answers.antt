use Rattle.std.specs.Vec.{with_item}
use Rattle.pm_cores.proofs.Backs.{cleared, written_seen}
use Rattle.pm_cores.proofs.Whole.{with_since}
use Rattle.pm_cores.proofs.cores.Cores.write_back.Goals as goal

pub invariant_of-self : goal.invariant_of-self
invariant_of-self c =
    let inside = c.self.inside in
    let asked = rw (← c.self.view_is) at c.requires in
    with_since inside c.self.invariant (with_item inside.since c.args.i 0) _
    (cleared inside.counts.len _ _ _ _ inside.room c.self.invariant.sound c.args.i asked.word asked.may)

pub returns : goal.returns
returns c =
    let inside = c.self.inside in
    let asked = rw (← c.self.view_is) at c.requires in
    rw (← c.self.view_is)
    (written_seen inside.counts.len _ _ _ _ inside.room c.self.invariant.sound c.args.i asked.word asked.may)
