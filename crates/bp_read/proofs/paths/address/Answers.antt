use Rattle.std.proofs.Common.{◌<◌, arith, get_or, subst, sym}
use Rattle.std.specs.List.{All}
use Rattle.pm_region.specs.Memory.{current_words}
use Rattle.bp_read.proofs.NextSlot.{leads_on}
use Rattle.bp_read.proofs.RegionWords.{length_now}
use Rattle.bp_read.proofs.paths.address.Goals as goal

pub load-requires : goal.load-requires
load-requires g c =
    let slot = leads_on (current_words (g.R.Region.memory c.args.region.now)) c.loop-slot.place c.loop-slot.slot-index c.as_slice-slot-items.result.now
    c.loop-slot-test.true c.loop-slot.invariant.exists c.loop-slot.invariant.in_range in
    omega (arith, length_now (g.R.Region.memory c.args.region.now), slot.present, slot.in_range, c.loop-slot.invariant.here)

pub overflow_mul-place : goal.overflow_mul-place
overflow_mul-place g c =
    let slot = leads_on (current_words (g.R.Region.memory c.args.region.now)) c.loop-slot.place c.loop-slot.slot-index c.as_slice-slot-items.result.now
    c.loop-slot-test.true c.loop-slot.invariant.exists c.loop-slot.invariant.in_range in
    omega (arith, length_now (g.R.Region.memory c.args.region.now), slot.in_range, c.load.ensures, c.block_of-block.ensures)

pub overflow_add-place : goal.overflow_add-place
overflow_add-place g c =
    let slot = leads_on (current_words (g.R.Region.memory c.args.region.now)) c.loop-slot.place c.loop-slot.slot-index c.as_slice-slot-items.result.now
    c.loop-slot-test.true c.loop-slot.invariant.exists c.loop-slot.invariant.in_range in
    let slots = subst (All (λ s. s < 512)) (sym c.as_slice-slot-items.ensures.value) c.requires.slots in
    let low : get_or c.as_slice-slot-items.result.now c.loop-slot.slot-index 0 < 512 = slots c.loop-slot.slot-index 0 c.loop-slot-test.true in
    omega (arith, length_now (g.R.Region.memory c.args.region.now), slot.in_range, low, c.load.ensures, c.block_of-block.ensures)
