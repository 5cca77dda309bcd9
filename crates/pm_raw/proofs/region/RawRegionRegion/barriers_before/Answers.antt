use Rattle.std.proofs.Common.{◌∙◌, ap, sym, take}
use Rattle.pm_epochs.specs.Log.{barriers}
use Rattle.pm_region.specs.Memory.{Memory}
use Rattle.pm_raw.specs.RawRegion.{undos_of}
use Rattle.pm_raw.specs.Places.{Placed}
use Rattle.pm_raw.specs.Unwound.{events_from}
use Rattle.pm_raw.proofs.KindLaws.{barriers-prefix-kinds, erased-events}
use Rattle.pm_raw.proofs.PlaceLaws.{barriers-below}
use Rattle.pm_raw.proofs.region.RawRegionRegion.barriers_before.Goals as goal

pub returns : goal.returns
returns c =
    let region = c.self.inside in
    let undos = undos_of region in
    let kept = ap (λ (p : Placed). p.items) c.self.invariant.barriers in
    let moment = c.args.moment in
    c.before-2.ensures
    ∙ barriers-below undos region.barriers.items moment kept
    ∙ sym (barriers-prefix-kinds moment (events_from region.current undos) undos (erased-events region.current undos))
    ∙ ap (λ (m : Memory). barriers (take moment m.events)) c.self.view_is
