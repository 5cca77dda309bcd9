use Rattle.std.proofs.Common.{◌≤◌, ◌∙◌, ap, arith, sym}
use Rattle.pm_epochs.specs.Log.{barriers}
use Rattle.pm_region.specs.Epochs.{epoch_start}
use Rattle.pm_region.specs.Memory.{Memory}
use Rattle.pm_raw.specs.Places.{Placed}
use Rattle.pm_raw.specs.RawRegion.{undos_of}
use Rattle.pm_raw.specs.Unwound.{events_from}
use Rattle.pm_raw.proofs.KindLaws.{barriers-kinds, erased-events, start-kinds}
use Rattle.pm_raw.proofs.PlaceLaws.{epochs-places, start-places, start-small}
use Rattle.pm_raw.proofs.RegionLaws.{sizes}
use Rattle.pm_raw.proofs.region.RawRegionRegion.start_of_epoch.Goals as goal

pub start_of_epoch-requires-clause-begun : goal.start_of_epoch-requires-clause-begun
start_of_epoch-requires-clause-begun c =
    let region = c.self.inside in
    let undos = undos_of region in
    let same = barriers-kinds (events_from region.current undos) undos (erased-events region.current undos) in
    let begun : c.args.epoch ≤ barriers undos = omega (arith, c.requires, same, ap (λ (m : Memory). barriers m.events) c.self.view_is) in
    epochs-places c.args.epoch undos region.barriers.items (ap (λ (p : Placed). p.items) c.self.invariant.barriers) begun

pub start_of_epoch-requires-clause-small : goal.start_of_epoch-requires-clause-small
start_of_epoch-requires-clause-small c =
    let region = c.self.inside in
    let undos = undos_of region in
    let reported = sizes region _ c.self.invariant c.self.view_is in
    let same = barriers-kinds (events_from region.current undos) undos (erased-events region.current undos) in
    let begun : c.args.epoch ≤ barriers undos = omega (arith, c.requires, same, ap (λ (m : Memory). barriers m.events) c.self.view_is) in
    let early = start-small c.args.epoch undos region.barriers.items (ap (λ (p : Placed). p.items) c.self.invariant.barriers) begun in
    omega (arith, early, reported.undos, c.self.invariant.fits, c.self.invariant.small)

pub returns : goal.returns
returns c =
    let region = c.self.inside in
    let undos = undos_of region in
    let same = barriers-kinds (events_from region.current undos) undos (erased-events region.current undos) in
    let begun : c.args.epoch ≤ barriers undos = omega (arith, c.requires, same, ap (λ (m : Memory). barriers m.events) c.self.view_is) in
    c.start_of_epoch.ensures
    ∙ start-places c.args.epoch undos region.barriers.items (ap (λ (p : Placed). p.items) c.self.invariant.barriers) begun
    ∙ sym (start-kinds (events_from region.current undos) undos (erased-events region.current undos) c.args.epoch)
    ∙ ap (λ (m : Memory). epoch_start c.args.epoch m.events) c.self.view_is
