use Rattle.std.proofs.Common.{ap, arith, length, sym}
use Rattle.std.proofs.lemmas.List.{length-append}
use Rattle.pm_region.specs.Memory.{Memory, stores_from}
use Rattle.pm_region.proofs.MemoryLaws.{length-stores_from}
use Rattle.pm_runs.proofs.RedoLaws.{values-more, values_of-stores}
use Rattle.pm_runs.proofs.redo.RedoRegionRegion.store_words.Goals as goal

pub invariant_of-self : goal.invariant_of-self
invariant_of-self c =
    let redo = c.self.inside in
    let step = c.self.invariant in
    let more = stores_from c.args.first c.args.values.now in
    let added = ap (λ (m : Memory). m.events) c.store_words.ensures in
    let capacity = ap (λ (m : Memory). m.capacity) c.store_words.ensures in
    let view = ap (λ (m : Memory). length m.events) c.self.view_is in
    let view_capacity = ap (λ (m : Memory). m.capacity) c.self.view_is in
    record {
      values = values-more redo.region.events _ more redo.values.items _ c.args.values.now step.values added c.add.ensures.items (sym (values_of-stores c.args.first c.args.values.now));
      fits = omega (arith, ap length added, capacity, length-append redo.region.events more, length-stores_from c.args.first c.args.values.now, c.requires.room, view, view_capacity, step.fits);
      reserved = omega (arith, capacity, step.reserved, c.add.ensures.room);
    }
