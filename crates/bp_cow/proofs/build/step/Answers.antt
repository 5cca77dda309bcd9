use Rattle.std.proofs.Common.{◌+◌, ◌/◌, sym, ◌∙◌, ap, arith}
use Rattle.pm_region.proofs.MemoryLaws.{length-current_words}
use Rattle.bp_cow.specs.Plan.{planned}
use Rattle.bp_cow.specs.Touched.{job_of}
use Rattle.bp_cow.proofs.AddsLaws.{makes_none, makes_one, makes_as}
use Rattle.bp_cow.proofs.NeedLaws.{turns_one, turns_none}
use Rattle.bp_cow.proofs.StepLaws.{HasReachedIn, GoesOn, free_inside, next_low, some_block, loaded, loaded_low, made_before, made_copy, copy_reached, stored_taken}
use Rattle.bp_cow.proofs.build.step.Given.{Over}
use Rattle.bp_cow.proofs.build.step.Goals.{Start, After-slot}
use Rattle.bp_cow.proofs.build.step.Goals as goal

-- what is made so far, and the block that the way has reached
reached : (g : Over) (c : Start g) → HasReachedIn g.plan c.args.touched.now c.args.from c.args.way.now.index c.args.depth (g.R.Region.memory c.args.region.now) c.args.blocks.now c.args.block
reached g c = record { on = c.requires.1.1.1.0; made = c.requires.1.1.1.1.1.0; block_is = c.requires.1.1.1.1.1.1.0 }

next : (g : Over) (c : After-slot g) → GoesOn (planned g.plan c.args.touched.now) c.args.way.now.index c.args.depth c.slot.result
next g c = record { more = c.requires.1.1.1.1.0; slot_is = c.slot.ensures }

pub slot-requires-clause-depth : goal.slot-requires-clause-depth
slot-requires-clause-depth g c =
    c.requires.1.1.1.1.0

pub is_new-requires-clause-depth : goal.is_new-requires-clause-depth
is_new-requires-clause-depth g c =
    omega (arith, c.requires.1.1.1.1.0)

pub redirect-requires-clause-some : goal.redirect-requires-clause-some
redirect-requires-clause-some g c =
    let one = turns_one (job_of c.args.touched.now) c.args.from c.args.way.now.index (c.args.depth + 1) (c.is_new.ensures.first c.if-is_new.true c.args.from) in
    omega (arith, c.requires.1.1.1.1.1.1.1.0, one)

pub redirect-requires-clause-after_head : goal.redirect-requires-clause-after_head
redirect-requires-clause-after_head g c =
    let at = goal.at.redirect-requires-clause-after_head g c in
    omega (arith, some_block (reached g at.Start))

pub redirect-requires-clause-place : goal.redirect-requires-clause-place
redirect-requires-clause-place g c =
    let at = goal.at.redirect-requires-clause-place g c in
    next_low (reached g at.Start) (next g at.After-slot)

pub redirect-requires-clause-from : goal.redirect-requires-clause-from
redirect-requires-clause-from g c =
    let at = goal.at.redirect-requires-clause-from g c in
    omega (arith, loaded_low (reached g at.Start) (next g at.After-slot))

pub redirect-requires-clause-free_low : goal.redirect-requires-clause-free_low
redirect-requires-clause-free_low g c b is = (free_inside (reached g (goal.at.redirect-requires-clause-free_low g c).Start) b is).0

pub redirect-requires-clause-free_high : goal.redirect-requires-clause-free_high
redirect-requires-clause-free_high g c b is =
    let inside = (free_inside (reached g (goal.at.redirect-requires-clause-free_high g c).Start) b is).1 in omega (arith, inside)

pub redirect-requires-clause-room : goal.redirect-requires-clause-room
redirect-requires-clause-room g c =
    let one = turns_one (job_of c.args.touched.now) c.args.from c.args.way.now.index (c.args.depth + 1) (c.is_new.ensures.first c.if-is_new.true c.args.from) in
    omega (arith, c.requires.1.1.1.1.1.1.1.1, one)

pub load_past_head-requires-clause-after_head : goal.load_past_head-requires-clause-after_head
load_past_head-requires-clause-after_head g c =
    let at = goal.at.load_past_head-requires-clause-after_head g c in
    omega (arith, some_block (reached g at.Start))

pub load_past_head-requires-clause-in_range : goal.load_past_head-requires-clause-in_range
load_past_head-requires-clause-in_range g c =
    let at = goal.at.load_past_head-requires-clause-in_range g c in
    let inside = next_low (reached g at.Start) (next g at.After-slot) in
    omega (arith, inside, length-current_words (g.R.Region.memory c.args.region.now))

pub overflow_cast-result : goal.overflow_cast-result
overflow_cast-result g c =
    let at = goal.at.overflow_cast-result g c in
    let inside = loaded_low (reached g at.Start) (next g at.After-slot) in
    omega (arith, c.load_past_head.ensures, inside, length-current_words (g.R.Region.memory c.args.region.now), c.words-words.ensures, c.words-words.type_inv)

pub returns-then-is_new-clause-made : goal.returns-then-is_new-clause-made
returns-then-is_new-clause-made g c =
    let at = goal.at.returns-then-is_new-clause-made g c in
    made_copy (reached g at.Start) (next g at.After-slot) (c.is_new.ensures.first c.if-is_new.true c.args.from) c.redirect.ensures.words c.redirect.ensures.taken

pub returns-then-is_new-clause-block : goal.returns-then-is_new-clause-block
returns-then-is_new-clause-block g c =
    let at = goal.at.returns-then-is_new-clause-block g c in
    copy_reached (reached g at.Start) (next g at.After-slot) (c.is_new.ensures.first c.if-is_new.true c.args.from) c.redirect.ensures.words c.redirect.ensures.taken

pub returns-then-is_new-clause-makes : goal.returns-then-is_new-clause-makes
returns-then-is_new-clause-makes g c =
    let at = goal.at.returns-then-is_new-clause-makes g c in
    let first = c.is_new.ensures.first c.if-is_new.true c.args.from in
    let one = turns_one (job_of c.args.touched.now) c.args.from c.args.way.now.index (c.args.depth + 1) first in
    let taken = stored_taken (reached g at.Start) (next g at.After-slot) first c.redirect.ensures.words c.redirect.ensures.taken in
    makes_as (sym one) (omega (arith, one))
    (makes_one taken c.redirect.ensures.taken c.redirect.ensures.count c.redirect.ensures.size c.redirect.ensures.stores c.redirect.ensures.base)

pub returns-else-is_new-clause-made : goal.returns-else-is_new-clause-made
returns-else-is_new-clause-made g c =
    made_before c.requires.1.1.1.0 c.requires.1.1.1.1.1.0 (c.is_new.ensures.begun c.if-is_new.false c.args.from (omega (arith, c.requires.1.1.1.0.low)))

pub returns-else-is_new-clause-block : goal.returns-else-is_new-clause-block
returns-else-is_new-clause-block g c =
    let at = goal.at.returns-else-is_new-clause-block g c in
    c.block_of.ensures ∙ ap (λ w. w / 4096) c.load_past_head.ensures ∙ loaded (reached g at.Start) (next g at.After-slot)

pub returns-else-is_new-clause-makes : goal.returns-else-is_new-clause-makes
returns-else-is_new-clause-makes g c =
    let none = turns_none (job_of c.args.touched.now) c.args.from c.args.way.now.index (c.args.depth + 1) (c.is_new.ensures.begun c.if-is_new.false c.args.from (omega (arith, c.requires.1.1.1.0.low))) in
    makes_as (sym none) (omega (arith, none)) (makes_none c.args.blocks.now (g.R.Region.memory c.args.region.now))
