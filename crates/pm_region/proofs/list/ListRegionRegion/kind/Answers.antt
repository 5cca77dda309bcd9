use Rattle.std.proofs.Common.{◌≡◌, ◌∙◌, Some, ap, arith, get_or, sym}
use Rattle.std.specs.List.{slice_get}
use Rattle.std.proofs.lemmas.Grind.{common_steps}
use Rattle.std.proofs.lemmas.Option.{slice_get-get_or}
use Rattle.pm_region.specs.Memory.{Memory}
use Rattle.pm_region.proofs.KindLaws.{kind_get, kind_value}
use Rattle.pm_region.proofs.list.ListRegionRegion.kind.Goals as goal

pub returns-clause-get : goal.returns-clause-get
returns-clause-get c =
    let event = c.index.result.now in
    let items = c.self.inside.events.items in
    let log = ap (λ (m : Memory). m.events) c.self.view_is in
    let here : event ≡ get_or items c.args.i event = grind (arith, common_steps) in
    let there : slice_get items c.args.i ≡ Some event = slice_get-get_or items c.args.i event (grind (arith, common_steps)) ∙ ap Some (sym here) in
    kind_get c.args.self.now.events c.args.i event c.kind.result (ap (λ es. slice_get es c.args.i) (sym log) ∙ there) c.kind.ensures.whole

pub returns-clause-value : goal.returns-clause-value
returns-clause-value c = kind_value c.args.self.now.events c.args.i c.kind.result (returns-clause-get c)
