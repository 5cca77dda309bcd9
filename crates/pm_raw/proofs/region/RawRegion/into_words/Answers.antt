use Rattle.std.proofs.Common.{◌∙◌, ap, sym}
use Rattle.pm_region.specs.Memory.{Memory, current_words}
use Rattle.pm_raw.specs.RawRegion.{undos_of}
use Rattle.pm_raw.proofs.UnwoundLaws.{words-now}
use Rattle.pm_raw.proofs.region.RawRegion.into_words.Goals as goal

pub returns : goal.returns
returns c =
    sym (words-now c.self.inside.current (undos_of c.self.inside)) ∙ ap (λ (m : Memory). current_words m) c.self.view_is
