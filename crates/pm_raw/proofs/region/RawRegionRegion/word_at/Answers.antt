use Rattle.std.proofs.Common.{◌∙◌, ap, arith, drop, get_or, length, sym, take}
use Rattle.pm_epochs.specs.Log.{words_after}
use Rattle.pm_region.specs.Memory.{Memory}
use Rattle.pm_raw.specs.RawRegion.{undos_of}
use Rattle.pm_raw.specs.Unwound.{base_from}
use Rattle.pm_raw.proofs.RegionLaws.{sizes}
use Rattle.pm_raw.proofs.UnwoundLaws.{words-prefix}
use Rattle.pm_raw.proofs.region.RawRegionRegion.word_at.Goals as goal

pub suffix-requires : goal.suffix-requires
suffix-requires c =
    let reported = sizes c.self.inside _ c.self.invariant c.self.view_is in
    omega (arith, c.requires.moment, reported.events, reported.undos, ap length c.log.ensures)

pub word_before-requires : goal.word_before-requires
word_before-requires c =
    let reported = sizes c.self.inside _ c.self.invariant c.self.view_is in
    omega (arith, c.requires.in_range, reported.base, ap length c.as_slice.ensures)

pub returns : goal.returns
returns c =
    let region = c.self.inside in
    let undos = undos_of region in
    let moment = c.args.moment in
    let word = c.args.word in
    c.word_before.ensures
    ∙ ap (λ now. get_or (base_from now c.suffix.result) word 0) c.as_slice.ensures
    ∙ ap (λ es. get_or (base_from region.current es) word 0) (c.suffix.ensures ∙ ap (drop moment) c.log.ensures)
    ∙ sym (ap (λ ws. get_or ws word 0) (words-prefix moment region.current undos))
    ∙ ap (λ (m : Memory). get_or (words_after m.base (take moment m.events)) word 0) c.self.view_is
