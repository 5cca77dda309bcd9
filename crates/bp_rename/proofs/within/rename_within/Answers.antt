use Rattle.std.proofs.Common.{◌≡◌, ◌+◌, ◌≤◌, [], length, refl, ◌∙◌, subst, arith}
use Rattle.bp_free.specs.Set.{members}
use Rattle.bp_layout.specs.Need.{need}
use Rattle.bp_layout.specs.Thaw.{thawed}
use Rattle.bp_changes.specs.Performs.{room_for}
use Rattle.bp_changes.specs.Sets.{in_snapshot_of}
use Rattle.pm_region.specs.Memory.{Memory, current_words, room_in}
use Rattle.bp_calls.proofs.CommitLaws.{lacking_space}
use Rattle.bp_rename.specs.CanRename.{moved_inode}
use Rattle.bp_rename.specs.Planned.{TouchesWithin}
use Rattle.bp_rename.specs.RenamesEntry.{RenamesEntry}
use Rattle.bp_rename.specs.RenamesEntry.RenamesEntry.{within}
use Rattle.bp_rename.proofs.KeptCounts.{exact_kept}
use Rattle.bp_rename.proofs.Plans.{within_needs, within_over, within_planned}
use Rattle.bp_rename.proofs.Renames.{within_change, within_renames}
use Rattle.bp_rename.proofs.WithinDone.{within_counts_at, within_exact_at, within_performs_at, within_ready_at, within_room_at, within_whole_at}
use Rattle.bp_rename.proofs.WithinLaws.{respells_can, within_loose_at, within_need_at}
use Rattle.bp_rename.proofs.within.rename_within.Given.{Over}
use Rattle.bp_rename.proofs.within.rename_within.Goals.{After-touched_by-touched}
use Rattle.bp_rename.proofs.within.rename_within.Goals as goal

-- the words of the new name are touched
named : (g : Over) (c : After-touched_by-touched g)
    → TouchesWithin (current_words (g.R.Region.memory c.args.parts.now.region)) c.args.to_move.now c.touched_by-touched.result
named g c =
    let made = c.touched_by-touched.ensures in
    record { run = c.name_run.result; one = made.runs; no_words = made.words; no_trees = made.trees; is = c.name_run.ensures }

pub ready_ways-requires-clause-empty : goal.ready_ways-requires-clause-empty
ready_ways-requires-clause-empty g c = λ none other. absurd (other c.requires.here)

pub ready_ways-requires-clause-planned : goal.ready_ways-requires-clause-planned
ready_ways-requires-clause-planned g c =
    within_planned (current_words (g.R.Region.memory c.args.parts.now.region)) c.args.to_move.now c.requires.can c.requires.new c.requires.here c.touched_by-touched.result
    (named g (goal.at.ready_ways-requires-clause-planned g c).After-touched_by-touched)

pub ready_ways-requires-clause-needs : goal.ready_ways-requires-clause-needs
ready_ways-requires-clause-needs g c =
    within_needs (current_words (g.R.Region.memory c.args.parts.now.region)) c.args.to_move.now c.requires.can c.requires.new c.requires.here c.touched_by-touched.result
    (named g (goal.at.ready_ways-requires-clause-needs g c).After-touched_by-touched)

pub commit_at-requires : goal.commit_at-requires
commit_at-requires g c κs inside =
    let old : Memory = g.R.Region.memory c.args.parts.now.region in
    let middle : Memory = g.R.Region.memory c.ready_ways.new.parts.region in
    let move = c.args.to_move.now in
    let ready = c.in-Ok.ensures.ready in
    let j = moved_inode (current_words middle) move in
    let can = respells_can (current_words middle) move ready.can c.requires.new c.requires.here in
    let touches = within_over (current_words old) move c.requires.can (current_words middle) ready.shape c.touched_by-touched.result
    (named g (goal.at.commit_at-requires g c).After-touched_by-touched) in
    let change = within_change move c.requires.new c.requires.here in
    let room = subst (λ ch. room_for (need (current_words middle) ch) ≤ room_in middle + 2) change ready.thawed.room in
    let clear = subst (λ ch. thawed (current_words middle) (in_snapshot_of c.ready_ways.new.parts) ch ≡ []) change ready.thawed.clear in
    let enough = subst (λ ch. need (current_words middle) ch ≤ length (members c.ready_ways.new.parts.free_blocks)) change ready.thawed.enough in
    let count = within_need_at (current_words middle) move.from_slot j move.name.now c.touched_by-touched.result move.from_dir can touches in (
      inside,
      (
        record {
          well_formed = ready.can.well_formed;
          can = within_ready_at middle move.from_slot j move.name.now c.touched_by-touched.result c.ready_ways.new.parts.free_blocks c.ready_ways.new.parts.free_inodes ready.exact.sets move.from_dir room can touches;
          loose = within_loose_at (current_words middle) move.from_slot j move.name.now c.touched_by-touched.result move.from_dir can touches (in_snapshot_of c.ready_ways.new.parts) clear;
          fits = omega (arith, ready.exact.sets.block_room);
          some = omega (arith, count, enough);
          room = within_room_at middle move.from_slot j move.name.now c.touched_by-touched.result c.ready_ways.new.parts.free_blocks c.ready_ways.new.parts.free_inodes ready.exact.sets move.from_dir room can touches;
        },
        (ready.ways, record { room = omega (arith, ready.exact.snapshot_room); same = λ b. refl }),
      ),
    )

pub returns-in-Ok : goal.returns-in-Ok
returns-in-Ok g c =
    let old : Memory = g.R.Region.memory c.args.parts.now.region in
    let middle : Memory = g.R.Region.memory c.ready_ways.new.parts.region in
    let move = c.args.to_move.now in
    let ready = c.in-Ok.ensures.ready in
    let j = moved_inode (current_words middle) move in
    let can = respells_can (current_words middle) move ready.can c.requires.new c.requires.here in
    let touches = within_over (current_words old) move c.requires.can (current_words middle) ready.shape c.touched_by-touched.result
    (named g (goal.at.returns-in-Ok g c).After-touched_by-touched) in
    let change = within_change move c.requires.new c.requires.here in
    let room = subst (λ ch. room_for (need (current_words middle) ch) ≤ room_in middle + 2) change ready.thawed.room in
    let new : Memory = g.R.Region.memory c.commit_at.new.parts.region in
    record {
      performs = ready.performs c.commit_at.new.parts
          (within_renames (in_snapshot_of c.ready_ways.new.parts) middle new move c.requires.new c.requires.here
          (within_performs_at middle move.from_slot j move.name.now c.touched_by-touched.result c.ready_ways.new.parts.free_blocks c.ready_ways.new.parts.free_inodes ready.exact.sets
          new c.commit_at.new.parts.free_blocks c.commit_at.ensures.commits c.commit_at.ensures.keeps.block_room move.from_dir room can touches (RenamesEntry move) (λ spells spelled. within c.requires.new c.requires.here spells spelled)));
      snapshot_blocks = c.commit_at.ensures.keeps.snapshot_blocks ∙ c.in-Ok.ensures.ready.snapshot_blocks;
      exact = exact_kept _ _ c.ready_ways.new.parts _ ready.exact
          (rw c.commit_at.ensures.keeps.free_inodes
          (within_exact_at middle move.from_slot j move.name.now c.touched_by-touched.result c.ready_ways.new.parts.free_blocks c.ready_ways.new.parts.free_inodes ready.exact.sets new c.commit_at.new.parts.free_blocks c.commit_at.ensures.commits c.commit_at.ensures.keeps.block_room move.from_dir room can touches))
          c.commit_at.ensures.keeps.snapshot_blocks c.commit_at.ensures.keeps.link_counts
          (within_whole_at middle move.from_slot j move.name.now c.touched_by-touched.result c.ready_ways.new.parts.free_blocks c.ready_ways.new.parts.free_inodes ready.exact.sets new c.commit_at.new.parts.free_blocks c.commit_at.ensures.commits c.commit_at.ensures.keeps.block_room move.from_dir room can touches)
          (within_counts_at middle move.from_slot j move.name.now c.touched_by-touched.result c.ready_ways.new.parts.free_blocks c.ready_ways.new.parts.free_inodes ready.exact.sets new c.commit_at.new.parts.free_blocks c.commit_at.ensures.commits c.commit_at.ensures.keeps.block_room move.from_dir room can touches
          c.ready_ways.new.parts.link_counts ready.exact.counts);
      refused = tt;
      same = tt;
    }

pub returns-in-Err : goal.returns-in-Err
returns-in-Err g c = lacking_space g.R.Region.memory c.args.parts.now c.ready_ways.new.parts c.requires.exact c.in-Err.ensures.refused c.in-Err.ensures.same
