use Rattle.std.proofs.Common.{◌+◌, arith, sym, subst, List, [], ◌∷◌, take, get_or}
use Rattle.std.proofs.lemmas.List.{length-take}
use Rattle.pm_epochs.specs.declared.event.Event.{Event}
use Rattle.pm_epochs.specs.declared.event.Event.TheVariants.{Store}
use Rattle.pm_region.specs.Memory.{Adds, stores_from}
use Rattle.pm_region.proofs.MemoryLaws.{adds_both, room_in-adds, length-stores_from, stores_from-more}
use Rattle.pm_region.proofs.region.Region.store_words.Goals as goal

pub store-requires-clause-room : goal.store-requires-clause-room
store-requires-clause-room g c =
    let values = take c.loop-i.i c.args.values.now in
    omega (
      arith,
      room_in-adds (g.Self.Region.memory c.args.self.now) (g.Self.Region.memory c.loop-i.self) (stores_from c.args.first values) c.loop-i.invariant,
      length-stores_from c.args.first values,
      length-take c.loop-i.i c.args.values.now,
      c.requires.room,
    )

pub loop-i-preserved : goal.loop-i-preserved
loop-i-preserved g c =
    let old = g.Self.Region.memory c.args.self.now in
    let new = g.Self.Region.memory c.store.new.self in
    let i = c.loop-i.i in
    let values = c.args.values.now in
    subst (λ (events : List Event). Adds old new events) (sym (stores_from-more c.args.first values i (omega arith)))
    (adds_both old (g.Self.Region.memory c.loop-i.self) new (stores_from c.args.first (take i values)) (Store (c.args.first + i) (get_or values i 0) ∷ []) c.loop-i.invariant c.store.ensures)
