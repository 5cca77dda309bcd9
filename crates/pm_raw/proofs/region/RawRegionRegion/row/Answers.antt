use Rattle.std.proofs.Common.{◌∙◌, ap, arith, subst, sym}
use Rattle.std.specs.Prelude.{option_map, slice_get}
use Rattle.pm_epochs.specs.Kind.{event_kind}
use Rattle.pm_region.specs.Memory.{AreInRow, Memory}
use Rattle.pm_raw.specs.RawRegion.{undos_of}
use Rattle.pm_raw.specs.Unwound.{events_from}
use Rattle.pm_raw.proofs.KindLaws.{erased-events, kind-kinds, kind-reported, row-kinds}
use Rattle.pm_raw.proofs.RegionLaws.{sizes}
use Rattle.pm_raw.proofs.region.RawRegionRegion.row.Goals as goal

pub row-requires-clause-inside : goal.row-requires-clause-inside
row-requires-clause-inside c =
    let reported = sizes c.self.inside _ c.self.invariant c.self.view_is in
    omega (arith, c.requires, reported.events)

pub returns-clause-get : goal.returns-clause-get
returns-clause-get c =
    let region = c.self.inside in
    let undos = undos_of region in
    let same = kind-kinds (events_from region.current undos) undos (erased-events region.current undos) c.args.first in
    kind-reported c.args.self.now.events c.args.first c.row.result.kind
    (sym (ap (λ (m : Memory). option_map event_kind (slice_get m.events c.args.first)) c.self.view_is) ∙ same ∙ c.row.ensures.get)

pub returns-clause-inside : goal.returns-clause-inside
returns-clause-inside c =
    let reported = sizes c.self.inside _ c.self.invariant c.self.view_is in
    omega (arith, c.row.ensures.fits, reported.events)

pub returns-clause-row : goal.returns-clause-row
returns-clause-row c =
    let region = c.self.inside in
    let undos = undos_of region in
    subst (λ (m : Memory). AreInRow m.events c.args.first c.row.result.len) c.self.view_is
    (row-kinds undos (events_from region.current undos) c.args.first c.row.result.len (sym (erased-events region.current undos)) c.row.ensures.row)
