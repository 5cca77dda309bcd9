use Rattle.std.proofs.Common.{◌≡◌, ◌∙◌, ap, arith, take}
use Rattle.bp_replay.specs.Wanted.{bits, trimmed}
use Rattle.bp_replay.proofs.Bits.{take_next, trimmed_from}
use Rattle.bp_replay.proofs.choices.push_mask.Goals as goal

pub loop-place-preserved : goal.loop-place-preserved
loop-place-preserved c =
    let step = take_next (bits c.args.mask.now) c.loop-place.place c.is_set.result c.is_set.ensures in
    grind (arith, step)

pub returns : goal.returns
returns c =
    let places = bits c.args.mask.now in
    let count = c.places_up_to_last-places.result in
    let ended : c.loop-place.place ≡ count = omega arith in
    let mask : c.loop-place.choice.cut.mask ≡ trimmed places =
    c.loop-place.invariant.mask ∙ ap (λ n. take n places) ended ∙ trimmed_from places count c.places_up_to_last-places.ensures.count in
    grind arith
