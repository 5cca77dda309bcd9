use Rattle.std.proofs.Common.{◌∙◌, ap, arith, sym}
use Rattle.std.specs.Prelude.{option_map, slice_get}
use Rattle.pm_epochs.specs.Kind.{event_kind}
use Rattle.pm_region.specs.Memory.{Memory}
use Rattle.pm_region.proofs.KindLaws.{kind_value}
use Rattle.pm_raw.specs.RawRegion.{undos_of}
use Rattle.pm_raw.specs.Unwound.{events_from}
use Rattle.pm_raw.proofs.KindLaws.{erased-events, kind-kinds, kind-reported}
use Rattle.pm_raw.proofs.RegionLaws.{sizes}
use Rattle.pm_raw.proofs.region.RawRegionRegion.kind.Goals as goal

pub kind-requires-clause-inside : goal.kind-requires-clause-inside
kind-requires-clause-inside c =
    let reported = sizes c.self.inside _ c.self.invariant c.self.view_is in
    omega (arith, c.requires, reported.events)

pub returns-clause-get : goal.returns-clause-get
returns-clause-get c =
    let region = c.self.inside in
    let undos = undos_of region in
    let same = kind-kinds (events_from region.current undos) undos (erased-events region.current undos) c.args.i in
    kind-reported c.args.self.now.events c.args.i c.kind.result
    (sym (ap (λ (m : Memory). option_map event_kind (slice_get m.events c.args.i)) c.self.view_is) ∙ same ∙ c.kind.ensures)

pub returns-clause-value : goal.returns-clause-value
returns-clause-value c = kind_value c.args.self.now.events c.args.i c.kind.result (returns-clause-get c)
