use Rattle.std.proofs.Common.{◌≡◌, ◌*◌, ◌/◌, ◌∙◌, ap, sym, subst, arith, length, inl, inr}
use Rattle.bp_free.specs.Set.{TakesNumber, has}
use Rattle.pm_region.specs.Memory.{current_words}
use Rattle.pm_region.proofs.MemoryLaws.{length-current_words}
use Rattle.bp_layout.specs.Words.{block_count}
use Rattle.bp_cow.specs.Plan.{planned}
use Rattle.bp_cow.proofs.ReturnLaws.{IsAtOld, next_old, old_slot, old_low, old_next, old_next_low, back_none, back_full, back_one}
use Rattle.bp_cow.proofs.release.give_step.Given.{Over}
use Rattle.bp_cow.proofs.release.give_step.Goals.{Start, After-block_of-next}
use Rattle.bp_cow.proofs.release.give_step.Goals as goal
use Rattle.bp_cow.proofs.release.give_step.Goals.{else-next-ne0-via-then-next-ne0+else-is_new, else-next-ne0-via-else-next-ne0}

old : (g : Over) (c : Start g) → IsAtOld (planned g.plan c.args.touched.now) c.args.from c.args.way.now.index c.args.at.depth g.plan.free_after (current_words (g.R.Region.memory c.args.region.now)) c.args.at.block
old g c =
    let can = c.requires.1.1.1.0 in
    record { left = can.left; here = can.way.here; low = can.way.low; more = c.requires.1.1.1.1.0; block_is = c.requires.1.1.1.1.1.0 }

-- the block that is loaded is the next one on the way
next : (g : Over) (c : After-block_of-next g) →
    IsAtOld (planned g.plan c.args.touched.now) c.args.from c.args.way.now.index c.args.at.depth g.plan.free_after (current_words (g.R.Region.memory c.args.region.now)) c.args.at.block →
    c.block_of-next.result ≡ next_old (planned g.plan c.args.touched.now) c.args.way.now.index c.args.at.depth
next g c at = c.block_of-next.ensures ∙ ap (λ w. w / 4096) c.load_slot-pointer.ensures ∙ old_next at c.slot.ensures

pub slot-requires-clause-depth : goal.slot-requires-clause-depth
slot-requires-clause-depth g c =
    c.requires.1.1.1.1.0

pub load_slot-pointer-requires-clause-block : goal.load_slot-pointer-requires-clause-block
load_slot-pointer-requires-clause-block g c = omega (arith, old_low (old g (goal.at.load_slot-pointer-requires-clause-block g c).Start))

pub load_slot-pointer-requires-clause-slot : goal.load_slot-pointer-requires-clause-slot
load_slot-pointer-requires-clause-slot g c = old_slot (old g (goal.at.load_slot-pointer-requires-clause-slot g c).Start) c.slot.ensures

pub overflow_cast-next : goal.overflow_cast-next
overflow_cast-next g c =
    let places = goal.at.overflow_cast-next g c in
    let at = old g places.Start in
    let left = c.requires.1.1.1.0.left in
    let whole : length g.plan.old ≡ 512 * block_count g.plan.old = left.can.whole in
    omega (arith, next g places.After-block_of-next at, old_next_low at, whole, left.whole, length-current_words (g.R.Region.memory c.args.region.now), c.words-words.ensures, c.words-words.type_inv)

pub is_new-requires-clause-depth : goal.is_new-requires-clause-depth
is_new-requires-clause-depth g c =
    omega (arith, c.requires.1.1.1.1.0)

pub give_loose-requires-clause-in_range : goal.give_loose-requires-clause-in_range
give_loose-requires-clause-in_range g c =
    let places = goal.at.give_loose-requires-clause-in_range g c in
    let at = old g places.Start in
    omega (arith, next g places.After-block_of-next at, old_next_low at, c.requires.1.1.1.0.fits)

pub give_loose-requires-clause-known : goal.give_loose-requires-clause-known
give_loose-requires-clause-known g c =
    let places = goal.at.give_loose-requires-clause-known g c in
    let at = old g places.Start in
    omega (arith, next g places.After-block_of-next at, old_next_low at, c.requires.1.1.1.1.1.1.room)

pub give_loose-requires-clause-used : goal.give_loose-requires-clause-used
give_loose-requires-clause-used g c =
    let places = goal.at.give_loose-requires-clause-used g c in
    let at = old g places.Start in
    let is = next g places.After-block_of-next at in
    ap (has c.args.blocks.now) is ∙ back_full at c.requires.1.1.1.0.back (c.is_new.ensures.first c.if-is_new.true c.args.from) (λ null. c.if-next-ne0.true (is ∙ null))

pub returns-then-is_new-clause-back : goal.returns-then-is_new-clause-back
returns-then-is_new-clause-back g c =
    let places = goal.at.returns-then-is_new-clause-back g c in
    let at = old g places.Start in
    let is = next g places.After-block_of-next at in
    -- the set that reports what is in the snapshot has the block just if it is in the snapshot
    let reported = c.requires.1.1.1.1.1.1.same c.block_of-next.result ∙ ap g.plan.in_snapshot is in
    back_one at c.requires.1.1.1.0.back (c.is_new.ensures.first c.if-is_new.true c.args.from) (λ null. c.if-next-ne0.true (is ∙ null))
    (λ loose. subst (TakesNumber (has c.give_loose.new.blocks) (has c.args.blocks.now)) is (c.give_loose.ensures.given (reported ∙ loose)))
    (λ kept. ap has (c.give_loose.ensures.stays (reported ∙ kept)))

pub returns-then-is_new-clause-block : goal.returns-then-is_new-clause-block
returns-then-is_new-clause-block g c = let places = goal.at.returns-then-is_new-clause-block g c in next g places.After-block_of-next (old g places.Start)

pub returns-else-next-ne0-clause-back : goal.returns-else-next-ne0-clause-back
returns-else-next-ne0-clause-back g c =
    let places = goal.at.returns-else-next-ne0-clause-back g c in
    let at = old g places.Start in
    let is = next g places.After-block_of-next at in
    elim c.else-next-ne0.branch [
      | else-next-ne0-via-then-next-ne0+else-is_new w ↦ back_none at c.requires.1.1.1.0.back (inr (w.is_new.ensures.begun w.if-is_new.false c.args.from (omega (arith, c.requires.1.1.1.0.way.low))))
      | else-next-ne0-via-else-next-ne0 w ↦ back_none at c.requires.1.1.1.0.back (inl (sym is ∙ w.if-next-ne0.false))
    ]

pub returns-else-next-ne0-clause-block : goal.returns-else-next-ne0-clause-block
returns-else-next-ne0-clause-block g c = let places = goal.at.returns-else-next-ne0-clause-block g c in next g places.After-block_of-next (old g places.Start)
