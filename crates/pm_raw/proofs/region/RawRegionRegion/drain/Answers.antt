use Rattle.std.proofs.Common.{◌+◌, ◌-◌, ◌^◌, ◌∙◌, ap, min, refl, sym, []}
use Rattle.pm_region.specs.Memory.{drained}
use Rattle.pm_raw.specs.RawRegion.{undos_of}
use Rattle.pm_raw.proofs.RegionLaws.{consistent-emptied, memory-emptied, memory_of}
use Rattle.pm_raw.proofs.UnwoundLaws.{words-now}
use Rattle.pm_raw.proofs.region.RawRegionRegion.drain.Goals as goal

pub invariant_of-self : goal.invariant_of-self
invariant_of-self c = consistent-emptied c.self.inside _ _ c.self.invariant refl c.clear.ensures refl c.clear-2.ensures c.clear-3.ensures

pub returns : goal.returns
returns c =
    let region = c.self.inside in
    memory-emptied region.current _ region.entries.room region.entries.room _ c.clear.ensures refl
    ∙ ap (λ drains. memory_of region.current [] region.entries.room drains) c.saturating_add-self-inside.ensures
    ∙ ap (λ words. memory_of words [] region.entries.room (min (region.drains + 1) (2 ^ 64 - 1))) (sym (words-now region.current (undos_of region)))
    ∙ ap drained c.self.view_is
