use Rattle.std.proofs.Common.{◌∙◌, ap}
use Rattle.pm_region.specs.Memory.{Memory}
use Rattle.pm_region.proofs.WithinLaws.{within-none}
use Rattle.pm_raw.specs.RawRegion.{undos_of}
use Rattle.pm_raw.proofs.RegionLaws.{memory-adopted, no-undos}
use Rattle.pm_raw.proofs.region.RawRegion.adopt_all.Goals as goal

pub invariant_of-self : goal.invariant_of-self
invariant_of-self c =
    let region = c.self.inside in
    let undos = undos_of region in
    let step = c.self.invariant in
    let none = no-undos region.current undos (ap (λ (m : Memory). m.events) c.self.view_is ∙ c.requires.drained) in
    record {
      barriers = step.barriers;
      call_ends = step.call_ends;
      within = within-none _ undos none;
      few = c.requires.few;
      counted = step.counted;
      fits = step.fits;
      small = step.small;
    }

pub returns : goal.returns
returns c =
    let region = c.self.inside in
    let undos = undos_of region in
    let none = no-undos region.current undos (ap (λ (m : Memory). m.events) c.self.view_is ∙ c.requires.drained) in
    memory-adopted _ region.current c.args.words undos region.entries.room region.drains c.self.view_is none
