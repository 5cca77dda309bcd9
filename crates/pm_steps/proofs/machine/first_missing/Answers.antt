use Rattle.pm_epochs.specs.Kind.{value_at}
use Rattle.pm_steps.proofs.Waiting.{missing_of}
use Rattle.pm_steps.proofs.machine.first_missing.Goals as goal

pub returns : goal.returns
returns g c =
    let events = (g.R.Region.memory c.args.region.now).events in
    missing_of events c.args.backs.now.back c.args.which c.args.low c.in-Store.word (value_at events c.args.which) c.in-Store.ensures.get c.requires.below
    (c.has_barrier.ensures.none c.if-has_barrier.false) c.first_waiting_to.result c.first_waiting_to.ensures
