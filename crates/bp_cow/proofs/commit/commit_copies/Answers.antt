use Rattle.std.proofs.Common.{◌/◌, ◌∙◌, ap, refl, arith}
use Rattle.bp_free.specs.Set.{has}
use Rattle.pm_region.specs.Memory.{current_words}
use Rattle.pm_region.proofs.MemoryLaws.{length-current_words}
use Rattle.bp_cow.specs.Plan.{Plan, planned}
use Rattle.bp_cow.proofs.StartLaws.{Starts, start_low, start_from, start_block}
use Rattle.bp_cow.proofs.EndLaws.{left_of, exact_of}
use Rattle.bp_cow.proofs.commit.commit_copies.Given.{Over}
use Rattle.bp_cow.proofs.commit.commit_copies.Goals.{Start}
use Rattle.bp_cow.proofs.commit.commit_copies.Goals as goal

starts : (g : Over) (c : Start g) → Starts (planned g.plan c.args.touched.now) c.args.from (current_words (g.R.Region.memory c.args.parts.now.region)) (has c.args.parts.now.free_blocks) c.args.place
starts g c = let can = c.requires.1.1.0 in record { can = can.can; same = can.old; free_is = can.free; at = can.at }

pub load-pointer-requires : goal.load-pointer-requires
load-pointer-requires g c =
    omega (arith, start_low (starts g (goal.at.load-pointer-requires g c).Start), length-current_words (g.R.Region.memory c.args.parts.now.region))

pub turn_over-requires : goal.turn_over-requires
turn_over-requires g c κs within = (within, (c.requires.1.0, (c.requires.1.1.0, c.requires.1.1.1.1.1)))

pub overflow_cast-top : goal.overflow_cast-top
overflow_cast-top g c =
    let inside = start_from (starts g (goal.at.overflow_cast-top g c).Start) in
    omega (arith, c.load-pointer.ensures, inside, length-current_words (g.R.Region.memory c.args.parts.now.region), c.words-words.ensures, c.words-words.type_inv)

pub free_replaced-requires : goal.free_replaced-requires
free_replaced-requires g c κs within =
    let start = starts g (goal.at.free_replaced-requires g c).Start in
    let done = c.turn_over.ensures.done in
    let plan : Plan = record (planned g.plan c.args.touched.now) { free_after = has c.turn_over.new.blocks } in
    let left = left_of plan c.args.from _ _ start.can done.stage (λ w other used. c.turn_over.ensures.others w (λ e. other (e ∙ start.at)) used) in
    let top = c.block_of-top.ensures ∙ ap (λ w. w / 4096) c.load-pointer.ensures ∙ start_block start in
    (within, (c.requires.1.0, (left, (refl, (top, (omega (arith, c.requires.1.1.1.0, done.size), (c.requires.1.1.1.1.0, c.requires.1.1.1.1.1)))))))

pub returns-clause-done : goal.returns-clause-done
returns-clause-done g c = (c.turn_over.new.blocks, c.turn_over.ensures.done)

pub returns-clause-exact : goal.returns-clause-exact
returns-clause-exact g c =
    let plan : Plan = record (planned g.plan c.args.touched.now) { free_after = has c.turn_over.new.blocks } in
    exact_of plan c.args.from _ _ c.requires.1.1.0.can c.turn_over.ensures.done.stage (has c.free_replaced.new.blocks) c.free_replaced.ensures.back
