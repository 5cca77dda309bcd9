use Rattle.std.proofs.Common.{◌≡◌, ◌*◌, ◌∙◌, ap, arith, length, take}
use Rattle.bp_replay.specs.Wanted.{bits, trimmed}
use Rattle.bp_replay.proofs.Bits.{length-trimmed-next, places_of_bytes}
use Rattle.bp_replay.proofs.choices.places_up_to_last.Goals as goal
use Rattle.bp_replay.proofs.choices.places_up_to_last.Goals.{then-is_set, else-is_set}

pub loop-place-preserved : goal.loop-place-preserved
loop-place-preserved c =
    let step = length-trimmed-next (bits c.args.mask.now) c.loop-place.place c.is_set.result c.is_set.ensures in
    elim c.if-is_set.branch [
      | then-is_set w ↦ grind (arith, step)
      | else-is_set w ↦ grind (arith, step)
    ]

pub returns-clause-count : goal.returns-clause-count
returns-clause-count c =
    let places = bits c.args.mask.now in
    let ended : c.loop-place.place ≡ 8 * length c.args.mask.now = omega arith in
    c.loop-place.invariant.so_far
    ∙ ap (λ n. length (trimmed (take n places))) ended
    ∙ ap (λ ps. length (trimmed ps)) (places_of_bytes c.args.mask.now)
