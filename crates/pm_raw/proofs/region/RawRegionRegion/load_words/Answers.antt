use Rattle.std.proofs.Common.{◌+◌, ◌-◌, ◌∙◌, ap, arith, drop, length, sym, take}
use Rattle.pm_epochs.specs.Log.{words_after}
use Rattle.pm_region.specs.Memory.{Memory}
use Rattle.pm_raw.specs.RawRegion.{undos_of}
use Rattle.pm_raw.proofs.RegionLaws.{sizes}
use Rattle.pm_raw.proofs.UnwoundLaws.{words-now}
use Rattle.pm_raw.proofs.region.RawRegionRegion.load_words.Goals as goal

pub slice_bounds-result-end : goal.slice_bounds-result-end
slice_bounds-result-end c =
    let reported = sizes c.self.inside _ c.self.invariant c.self.view_is in
    omega (arith, c.requires, reported.base, ap length c.as_slice.ensures)

pub returns : goal.returns
returns c =
    let first = c.args.first in
    let many = (first + c.args.count) - first in
    ap (λ ws. take many (drop first ws)) c.as_slice.ensures
    ∙ sym (ap (λ ws. take many (drop first ws)) (words-now c.self.inside.current (undos_of c.self.inside)))
    ∙ ap (λ (m : Memory). take many (drop first (words_after m.base m.events))) c.self.view_is
