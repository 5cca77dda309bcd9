use Rattle.pm_region.proofs.PutBack.{rest_is_nothing}
use Rattle.pm_region.proofs.words.put_back.Goals as goal

pub returns : goal.returns
returns c = rest_is_nothing c.args.events.now c.loop-event.event-index c.args.from.now c.loop-event.words c.loop-event-test.false c.loop-event.invariant
