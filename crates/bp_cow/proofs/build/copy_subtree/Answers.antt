use Rattle.std.proofs.Common.{refl, arith}
use Rattle.bp_free.specs.Set.{has}
use Rattle.pm_region.specs.Memory.{current_words}
use Rattle.pm_region.proofs.MemoryLaws.{length-current_words}
use Rattle.bp_cow.specs.Plan.{planned}
use Rattle.bp_cow.proofs.AddsLaws.{makes_one, makes_twice, makes_as, room_into}
use Rattle.bp_cow.proofs.StartLaws.{Starts, start_low, start_from, start_to, start_taken, start_made}
use Rattle.bp_cow.proofs.build.copy_subtree.Given.{Over}
use Rattle.bp_cow.proofs.build.copy_subtree.Goals.{Start}
use Rattle.bp_cow.proofs.build.copy_subtree.Goals as goal

starts : (g : Over) (c : Start g) → Starts (planned g.plan c.args.touched.now) c.args.from (current_words (g.R.Region.memory c.args.region.now)) (has c.args.blocks.now) c.args.place
starts g c = record { can = c.requires.1.1.0; same = c.requires.1.1.1.0; free_is = c.requires.1.1.1.1.0; at = c.requires.1.1.1.1.1.0 }

pub load-pointer-requires : goal.load-pointer-requires
load-pointer-requires g c =
    omega (arith, start_low (starts g (goal.at.load-pointer-requires g c).Start), length-current_words (g.R.Region.memory c.args.region.now))

pub take_in_place_of-top-requires : goal.take_in_place_of-top-requires
take_in_place_of-top-requires g c =
    omega (arith, c.requires.1.1.1.1.1.1.0)

pub way-way-requires-clause-i : goal.way-way-requires-clause-i
way-way-requires-clause-i g c =
    c.requires.1.1.0.some

pub way-way-requires-clause-shared : goal.way-way-requires-clause-shared
way-way-requires-clause-shared g c = c.requires.1.1.1.1.1.1.1.1

pub copy_block-requires-clause-from : goal.copy_block-requires-clause-from
copy_block-requires-clause-from g c =
    let inside = start_from (starts g (goal.at.copy_block-requires-clause-from g c).Start) in
    omega (arith, c.block_of-block.ensures, c.load-pointer.ensures, inside)

pub copy_block-requires-clause-to : goal.copy_block-requires-clause-to
copy_block-requires-clause-to g c =
    let to = start_to (starts g (goal.at.copy_block-requires-clause-to g c).Start) c.take_in_place_of-top.ensures.taken in
    record { inside = omega (arith, to.1); not_null = to.0; room = omega (arith, c.requires.1.1.1.1.1.1.1.0) }

pub put_all-requires : goal.put_all-requires
put_all-requires g c κs within =
    let copied = rw (c.way-way.ensures.index, c.block_of-block.ensures, c.load-pointer.ensures) at c.copy_block.ensures.copied in
    let made = start_made (starts g (goal.at.put_all-requires g c).Start) c.take_in_place_of-top.ensures.taken c.copy_block.ensures.fills.equal copied in
    let room_left = room_into _ _ _ _ _ c.copy_block.ensures.fills.stores in (
      within,
      (
        c.requires.1.0,
        (
          c.requires.1.1.0,
          (
            refl,
            (
              made,
              (
                omega (arith, c.requires.1.1.1.1.1.1.0, c.take_in_place_of-top.ensures.count),
                (omega (arith, c.requires.1.1.1.1.1.1.1.0, room_left), c.requires.1.1.1.1.1.1.1.1),
              ),
            ),
          ),
        ),
      ),
    )

pub returns-clause-makes : goal.returns-clause-makes
returns-clause-makes g c =
    let fills = c.copy_block.ensures.fills in
    let taken = start_taken (starts g (goal.at.returns-clause-makes g c).Start) c.take_in_place_of-top.ensures.taken in
    let first = makes_one taken c.take_in_place_of-top.ensures.taken c.take_in_place_of-top.ensures.count c.take_in_place_of-top.ensures.size fills.stores fills.base in
    makes_as (omega arith) refl (makes_twice first c.put_all.ensures.makes)
