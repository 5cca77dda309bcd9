use Rattle.std.proofs.Common.{length, sym}
use Rattle.std.proofs.lemmas.Option.{get_or_from_slice_get}
use Rattle.pm_epochs.specs.declared.event.Event.TheVariants.{Store}
use Rattle.pm_epochs.specs.Kind.{value_at}
use Rattle.pm_region.proofs.KindLaws.{within_at, stored_event}
use Rattle.pm_region.proofs.region.Region.event.Goals as goal

pub word_at-requires-clause-in_range : goal.word_at-requires-clause-in_range
word_at-requires-clause-in_range g c =
    let memory = g.Self.Region.memory c.args.self.now in
    within_at (length memory.base) memory.events c.args.i c.in-Store.word (value_at memory.events c.args.i) c.event_count-count.ensures.within c.in-Store.ensures.get

pub returns-in-Store-clause-get : goal.returns-in-Store-clause-get
returns-in-Store-clause-get g c =
    let memory = g.Self.Region.memory c.args.self.now in
    stored_event memory.base memory.events c.args.i c.in-Store.word c.word_at.result c.event_count-count.ensures.within c.in-Store.ensures.get c.word_at.ensures

pub returns-in-Store-clause-value : goal.returns-in-Store-clause-value
returns-in-Store-clause-value g c =
    let memory = g.Self.Region.memory c.args.self.now in
    let event = Store c.in-Store.word c.word_at.result in
    sym (get_or_from_slice_get memory.events c.args.i event event
    (stored_event memory.base memory.events c.args.i c.in-Store.word c.word_at.result c.event_count-count.ensures.within c.in-Store.ensures.get c.word_at.ensures))
