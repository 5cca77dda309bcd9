use Rattle.std.proofs.Common.{refl, sym, ◌∙◌, subst, arith}
use Rattle.std.proofs.lemmas.List.{length-set}
use Rattle.bp_layout.specs.Need.Change.{enters}
use Rattle.bp_changes.specs.Performs.{PerformsWithin}
use Rattle.bp_changes.specs.Sets.{in_snapshot_of}
use Rattle.pm_region.specs.Memory.{current_words}
use Rattle.bp_calls.specs.Created.{EntersName}
use Rattle.bp_changes.specs.Entrant.{entrant_of}
use Rattle.bp_calls.specs.Growth.{stores_after_growth}
use Rattle.bp_calls.specs.Steps.{name_need}
use Rattle.bp_calls.proofs.CountLaws.{exact_with}
use Rattle.bp_calls.proofs.NewNames.{can_enter_past_end, can_name}
use Rattle.bp_calls.proofs.Refusals.{is_least}
use Rattle.bp_calls.proofs.creation.enter.Goals as goal

pub set-requires : goal.set-requires
set-requires g c = omega (arith, c.alloc_lowest-ino.ensures.least.low, c.requires.exact.sets.inode_room, c.requires.exact.count_room)

pub enter_slot-requires-clause-can : goal.enter_slot-requires-clause-can
enter_slot-requires-clause-can g c =
    can_name (g.R.Region.memory c.args.parts.now.region) c.args.parts.now.free_blocks c.args.parts.now.free_inodes c.args.dir c.alloc_lowest-ino.result c.args.name.now c.requires.can c.alloc_lowest-ino.ensures.least

pub enter_slot-requires-clause-found : goal.enter_slot-requires-clause-found
enter_slot-requires-clause-found g c = sym c.requires.slot ∙ c.in-Some.is

pub enter_past_end-requires : goal.enter_past_end-requires
enter_past_end-requires g c =
    record {
      can = can_enter_past_end (g.R.Region.memory c.args.parts.now.region) c.args.parts.now.free_blocks c.args.parts.now.free_inodes c.args.dir c.alloc_lowest-ino.result c.args.name.now c.requires.can c.alloc_lowest-ino.ensures.least
          (sym c.requires.slot ∙ c.in-None.is);
    }

pub returns-in-Some : goal.returns-in-Some
returns-in-Some g c =
    let old = g.R.Region.memory c.args.parts.now.region in
    let new = g.R.Region.memory c.enter_slot.new.region in
    let needed = name_need (current_words old) c.args.dir in
    let in_snapshot = in_snapshot_of c.args.parts.now in
    let done = c.enter_slot.ensures.performs in_snapshot (c.requires.can.loose.slot c.in-Some.slot (sym c.requires.slot ∙ c.in-Some.is)) (c.requires.can.loose_inode c.alloc_lowest-ino.result c.alloc_lowest-ino.ensures.least) in
    record {
      performs = λ free least.
          subst (λ o. PerformsWithin in_snapshot needed 5 (stores_after_growth needed) old new (enters c.args.dir (entrant_of o)) (EntersName c.args.dir c.args.name.now c.args.kind))
          (sym (is_least (current_words old) c.args.parts.now.free_blocks c.args.parts.now.free_inodes c.requires.can.exact c.alloc_lowest-ino.result c.alloc_lowest-ino.ensures.least free least)) done;
      exact = exact_with (current_words old) (current_words new) c.args.parts.now _ c.requires.exact
          (rw c.alloc_lowest-ino.ensures.rest (c.enter_slot.ensures.exact in_snapshot c.args.parts.now.free_blocks c.args.parts.now.free_inodes c.requires.can.exact)) refl
          done.effect.adds.trees.whole (rw c.set.ensures (length-set c.args.parts.now.link_counts c.alloc_lowest-ino.result 1))
          (rw c.set.ensures (c.enter_slot.ensures.counts c.args.parts.now.link_counts c.requires.exact.counts));
      snapshot_blocks = refl;
    }

pub returns-in-None : goal.returns-in-None
returns-in-None g c =
    let old = g.R.Region.memory c.args.parts.now.region in
    let new = g.R.Region.memory c.enter_past_end.new.parts.region in
    let needed = name_need (current_words old) c.args.dir in
    let in_snapshot = in_snapshot_of c.args.parts.now in
    record {
      performs = λ free least.
          subst (λ o. PerformsWithin in_snapshot needed 5 (stores_after_growth needed) old new (enters c.args.dir (entrant_of o)) (EntersName c.args.dir c.args.name.now c.args.kind))
          (sym (is_least (current_words old) c.args.parts.now.free_blocks c.args.parts.now.free_inodes c.requires.can.exact c.alloc_lowest-ino.result c.alloc_lowest-ino.ensures.least free least)) c.enter_past_end.ensures.performs;
      exact = exact_with (current_words old) (current_words new) c.args.parts.now _ c.requires.exact
          (rw (c.enter_past_end.ensures.keeps.free_inodes, c.alloc_lowest-ino.ensures.rest) (c.enter_past_end.ensures.exact c.args.parts.now.free_inodes c.requires.can.exact)) c.enter_past_end.ensures.keeps.snapshot_blocks
          c.enter_past_end.ensures.performs.effect.adds.trees.whole (rw (c.enter_past_end.ensures.keeps.link_counts, c.set.ensures) (length-set c.args.parts.now.link_counts c.alloc_lowest-ino.result 1))
          (rw (c.enter_past_end.ensures.keeps.link_counts, c.set.ensures) (c.enter_past_end.ensures.counts c.args.parts.now.link_counts c.requires.exact.counts));
      snapshot_blocks = c.enter_past_end.ensures.keeps.snapshot_blocks;
    }
