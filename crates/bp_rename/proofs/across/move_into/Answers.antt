use Rattle.std.proofs.Common.{◌+◌, ◌*◌, refl, arith}
use Rattle.pm_epochs.specs.May.{AnyAt}
use Rattle.bp_changes.specs.Sets.{in_snapshot_of}
use Rattle.pm_region.specs.Memory.{Memory, current_words}
use Rattle.bp_layout.specs.Inode.{ContentStandsAt}
use Rattle.bp_read.specs.Within.{IsWithin}
use Rattle.bp_calls.proofs.InSlot.{entry_stands}
use Rattle.bp_calls.proofs.Refusals.{found_empty}
use Rattle.bp_calls.proofs.Rooms.{room_after, row_in_range}
use Rattle.bp_calls.proofs.TargetPaths.{directory_some}
use Rattle.bp_rename.proofs.IntoLaws.{mid_formed, mid_whole}
use Rattle.bp_rename.proofs.IntoMoved.{into_copies, into_counts, into_exact, into_fits, into_mid_loose, into_performs, into_ready, into_room, into_ways, into_whole_image}
use Rattle.bp_rename.proofs.KeptCounts.{exact_kept}
use Rattle.bp_rename.proofs.RenameTargets.{slot_loose}
use Rattle.bp_rename.proofs.across.move_into.Given.{Over}
use Rattle.bp_rename.proofs.across.move_into.Goals.{After-entry_place-entry}
use Rattle.bp_rename.proofs.across.move_into.Goals as goal

-- the entry stands at the place that was found
stands_at : (g : Over) (c : After-entry_place-entry g)
    → ContentStandsAt (current_words (g.R.Region.memory c.args.parts.now.region)) c.args.to_move.now.to_dir (32 * c.args.slot + 0) c.entry_place-entry.result
stands_at g c =
    let found = c.entry_place-entry.ensures in
    let target = c.tree_of-target in
    entry_stands (current_words (g.R.Region.memory c.args.parts.now.region)) c.args.to_move.now.to_dir c.args.slot c.entry_place-entry.result
    target.result.root target.ensures.root found.place found.present

pub entry_place-entry-requires-clause-live : goal.entry_place-entry-requires-clause-live
entry_place-entry-requires-clause-live g c =
    let old : Memory = g.R.Region.memory c.args.parts.now.region in
    let move = c.args.to_move.now in
    rw c.tree_of-target.ensures.size (found_empty (current_words old) move.to_dir c.args.slot c.requires.empty).0

pub tree_of-target-requires-clause-some : goal.tree_of-target-requires-clause-some
tree_of-target-requires-clause-some g c =
    let old : Memory = g.R.Region.memory c.args.parts.now.region in
    let move = c.args.to_move.now in
    directory_some (current_words old) move.to_dir c.requires.can.directory

pub entry_place-entry-requires-clause-sound : goal.entry_place-entry-requires-clause-sound
entry_place-entry-requires-clause-sound g c =
    let old : Memory = g.R.Region.memory c.args.parts.now.region in
    let move = c.args.to_move.now in
    rw (c.tree_of-target.ensures.root, c.tree_of-target.ensures.size) (c.requires.can.well_formed.sound move.to_dir c.requires.can.target)

pub entry_place-entry-requires-clause-full : goal.entry_place-entry-requires-clause-full
entry_place-entry-requires-clause-full g c =
    let old : Memory = g.R.Region.memory c.args.parts.now.region in
    let move = c.args.to_move.now in
    rw (c.tree_of-target.ensures.root, c.tree_of-target.ensures.size) (c.requires.can.well_formed.full_directories move.to_dir c.requires.can.target c.requires.can.directory)

pub put_name-requires-clause-in_range : goal.put_name-requires-clause-in_range
put_name-requires-clause-in_range g c =
    let old : Memory = g.R.Region.memory c.args.parts.now.region in
    let move = c.args.to_move.now in
    let stands = stands_at g (goal.at.put_name-requires-clause-in_range g c).After-entry_place-entry in
    let low = (found_empty (current_words old) move.to_dir c.args.slot c.requires.empty).0 in
    let first = row_in_range old c.requires.can.well_formed move.to_dir (32 * c.args.slot + 0) c.entry_place-entry.result 32 c.requires.can.target (omega (arith, low)) (omega arith) stands in
    omega (arith, first)

pub barrier-requires : goal.barrier-requires
barrier-requires g c =
    let old : Memory = g.R.Region.memory c.args.parts.now.region in
    let third : Memory = g.R.Region.memory c.put_name.new.region in
    let left = room_after (AnyAt (IsWithin (c.entry_place-entry.result + 1) 31)) 31 old third c.put_name.ensures.stores in
    omega (arith, c.requires.thawed.room, left)

pub commit_at-requires : goal.commit_at-requires
commit_at-requires g c κs inside =
    let touches = c.requires.touches in
    let old : Memory = g.R.Region.memory c.args.parts.now.region in
    let third : Memory = g.R.Region.memory c.put_name.new.region in
    let mid : Memory = g.R.Region.memory c.barrier.new.self in
    let move = c.args.to_move.now in
    let stands = stands_at g (goal.at.commit_at-requires g c).After-entry_place-entry in
    let loose = slot_loose (current_words old) move c.requires.can c.args.slot c.requires.empty (in_snapshot_of c.args.parts.now) c.requires.thawed.clear c.entry_place-entry.result stands in
    let ready = into_ready old third mid move c.args.slot c.entry_place-entry.result c.requires.can c.requires.new c.requires.other c.requires.empty stands c.put_name.ensures.stores c.put_name.ensures.name c.barrier.ensures
    c.args.touched.now touches c.args.parts.now.free_blocks c.args.parts.now.free_inodes c.requires.exact.sets c.requires.thawed.room loose in
    let room = into_room old third mid move c.args.slot c.entry_place-entry.result c.requires.can c.requires.new c.requires.other c.requires.empty stands c.put_name.ensures.stores c.put_name.ensures.name c.barrier.ensures
    c.args.touched.now touches c.args.parts.now.free_blocks c.args.parts.now.free_inodes c.requires.exact.sets c.requires.thawed.room loose in
    let outside_snapshot = into_mid_loose old third mid move c.args.slot c.entry_place-entry.result c.requires.can c.requires.new c.requires.other c.requires.empty stands c.put_name.ensures.stores c.put_name.ensures.name c.barrier.ensures
    c.args.touched.now touches c.args.parts.now.free_blocks c.args.parts.now.free_inodes c.requires.exact.sets c.requires.thawed.room loose c.requires.thawed.clear in
    let count = into_copies old third mid move c.args.slot c.entry_place-entry.result c.requires.can c.requires.new c.requires.other c.requires.empty stands c.put_name.ensures.stores c.put_name.ensures.name c.barrier.ensures
    c.args.touched.now touches c.args.parts.now.free_blocks c.args.parts.now.free_inodes c.requires.exact.sets c.requires.thawed.room loose in
    let formed = mid_formed old third mid move c.args.slot c.entry_place-entry.result c.requires.can c.requires.new c.requires.other c.requires.empty stands c.put_name.ensures.stores c.put_name.ensures.name c.barrier.ensures in
    let fits = into_fits old third mid move c.args.slot c.entry_place-entry.result c.requires.can c.requires.new c.requires.other c.requires.empty stands c.put_name.ensures.stores c.put_name.ensures.name c.barrier.ensures
    c.args.touched.now touches c.args.parts.now.free_blocks c.args.parts.now.free_inodes c.requires.exact.sets c.requires.thawed.room loose in
    let whole = mid_whole old third mid move c.args.slot c.entry_place-entry.result c.requires.can c.requires.new c.requires.other c.requires.empty stands c.put_name.ensures.stores c.put_name.ensures.name c.barrier.ensures in
    let ways = into_ways old third mid move c.args.slot c.entry_place-entry.result c.requires.can c.requires.new c.requires.other c.requires.empty stands c.put_name.ensures.stores c.put_name.ensures.name c.barrier.ensures
    c.args.touched.now touches c.args.parts.now.free_blocks c.args.parts.now.free_inodes c.requires.exact.sets c.requires.thawed.room loose c.args.found.now c.requires.found in
    (inside, (record { well_formed = formed; can = ready; loose = outside_snapshot; fits = fits; some = omega (arith, count, c.requires.thawed.enough); room = room }, (ways, record { room = omega (arith, c.requires.exact.snapshot_room, whole); same = λ b. refl })))

pub returns : goal.returns
returns g c =
    let touches = c.requires.touches in
    let old : Memory = g.R.Region.memory c.args.parts.now.region in
    let third : Memory = g.R.Region.memory c.put_name.new.region in
    let mid : Memory = g.R.Region.memory c.barrier.new.self in
    let new : Memory = g.R.Region.memory c.commit_at.new.parts.region in
    let move = c.args.to_move.now in
    let stands = stands_at g (goal.at.returns g c).After-entry_place-entry in
    let loose = slot_loose (current_words old) move c.requires.can c.args.slot c.requires.empty (in_snapshot_of c.args.parts.now) c.requires.thawed.clear c.entry_place-entry.result stands in
    record {
      performs = into_performs old third mid move c.args.slot c.entry_place-entry.result c.requires.can c.requires.new c.requires.other c.requires.empty stands c.put_name.ensures.stores c.put_name.ensures.name c.barrier.ensures
          c.args.touched.now touches c.args.parts.now.free_blocks c.args.parts.now.free_inodes c.requires.exact.sets c.requires.thawed.room loose
          new c.commit_at.new.parts.free_blocks c.commit_at.ensures.commits c.commit_at.ensures.keeps.block_room;
      snapshot_blocks = c.commit_at.ensures.keeps.snapshot_blocks;
      exact = exact_kept _ _ c.args.parts.now _ c.requires.exact
          (rw c.commit_at.ensures.keeps.free_inodes
          (into_exact old third mid move c.args.slot c.entry_place-entry.result c.requires.can c.requires.new c.requires.other c.requires.empty stands c.put_name.ensures.stores c.put_name.ensures.name c.barrier.ensures
          c.args.touched.now touches c.args.parts.now.free_blocks c.args.parts.now.free_inodes c.requires.exact.sets c.requires.thawed.room loose
          new c.commit_at.new.parts.free_blocks c.commit_at.ensures.commits c.commit_at.ensures.keeps.block_room))
          c.commit_at.ensures.keeps.snapshot_blocks c.commit_at.ensures.keeps.link_counts
          (into_whole_image old third mid move c.args.slot c.entry_place-entry.result c.requires.can c.requires.new c.requires.other c.requires.empty stands c.put_name.ensures.stores c.put_name.ensures.name c.barrier.ensures
          c.args.touched.now touches c.args.parts.now.free_blocks c.args.parts.now.free_inodes c.requires.exact.sets c.requires.thawed.room loose
          new c.commit_at.new.parts.free_blocks c.commit_at.ensures.commits c.commit_at.ensures.keeps.block_room)
          (into_counts old third mid move c.args.slot c.entry_place-entry.result c.requires.can c.requires.new c.requires.other c.requires.empty stands c.put_name.ensures.stores c.put_name.ensures.name c.barrier.ensures
          c.args.touched.now touches c.args.parts.now.free_blocks c.args.parts.now.free_inodes c.requires.exact.sets c.requires.thawed.room loose
          new c.commit_at.new.parts.free_blocks c.commit_at.ensures.commits c.commit_at.ensures.keeps.block_room c.args.parts.now.link_counts c.requires.exact.counts);
    }
