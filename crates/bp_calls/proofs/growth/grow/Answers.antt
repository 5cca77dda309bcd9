use Rattle.std.proofs.Common.{◌≤◌, arith}
use Rattle.pm_region.proofs.MemoryLaws.{adds_both, room_in-adds}
use Rattle.pm_region.specs.Memory.{current_words, room_in}
use Rattle.bp_calls.proofs.GrowthRoom.{inodes_end_fits, can_prepare_at, last_fits, base_prepared, room_prepared, grew, exact_after, left_after}
use Rattle.bp_calls.proofs.growth.grow.Given.{Over}
use Rattle.bp_calls.proofs.growth.grow.Goals.{After-stage_append}
use Rattle.bp_calls.proofs.growth.grow.Goals as goal
use Rattle.bp_calls.proofs.CountLaws.{exact_meaning}

pub overflow_add-end : goal.overflow_add-end
overflow_add-end g c =
    let words = current_words (g.R.Region.memory c.args.parts.now.region) in
    omega (arith, inodes_end_fits words c.requires.can.well_formed, c.inode_file-size.ensures.size)

pub stage_append-requires : goal.stage_append-requires
stage_append-requires g c =
    let old = g.R.Region.memory c.args.parts.now.region in
    record { can = (0, can_prepare_at old c.args.parts.now.free_blocks c.args.parts.now.free_inodes c.new.result.items c.inode_file-size.result.size c.requires.can c.new.ensures c.inode_file-size.ensures.size) }

pub store-requires-clause-in_range : goal.store-requires-clause-in_range
store-requires-clause-in_range g c = base_prepared (g.R.Region.memory c.args.parts.now.region) c.args.parts.now.free_blocks c.args.parts.now.free_inodes c.new.result.items c.inode_file-size.result.size c.requires.can c.new.ensures c.inode_file-size.ensures.size (g.R.Region.memory c.stage_append.new.parts.region) c.stage_append.new.parts.free_blocks (c.stage_append.ensures.prepares 0)

-- the log has room for the size and its barrier once the leaf is prepared
room : (g : Over) (c : After-stage_append g) → 2 ≤ room_in (g.R.Region.memory c.stage_append.new.parts.region)
room g c =
    room_prepared (g.R.Region.memory c.args.parts.now.region) c.args.parts.now.free_blocks c.args.parts.now.free_inodes c.new.result.items c.inode_file-size.result.size
    c.requires.can c.new.ensures c.inode_file-size.ensures.size (g.R.Region.memory c.stage_append.new.parts.region) c.stage_append.new.parts.free_blocks (c.stage_append.ensures.prepares 0)

pub store-requires-clause-room : goal.store-requires-clause-room
store-requires-clause-room g c = omega (arith, room g (goal.at.store-requires-clause-room g c).After-stage_append)

pub barrier-requires : goal.barrier-requires
barrier-requires g c =
    omega (arith, room g (goal.at.barrier-requires g c).After-stage_append, room_in-adds (g.R.Region.memory c.stage_append.new.parts.region) (g.R.Region.memory c.store.new.self) _ c.store.ensures)

pub fill-requires-clause-in_range : goal.fill-requires-clause-in_range
fill-requires-clause-in_range g c = rw c.stage_append.ensures.keeps.free_inodes (last_fits (g.R.Region.memory c.args.parts.now.region) c.args.parts.now.free_blocks c.args.parts.now.free_inodes c.new.result.items c.inode_file-size.result.size c.requires.can c.new.ensures c.inode_file-size.ensures.size)

pub returns : goal.returns
returns g c =
    let old = g.R.Region.memory c.args.parts.now.region in
    let middle = g.R.Region.memory c.stage_append.new.parts.region in
    let new = g.R.Region.memory c.barrier.new.self in
    let blocks = c.args.parts.now.free_blocks in
    let inodes = c.args.parts.now.free_inodes in
    let after = c.stage_append.new.parts.free_blocks in
    let size = c.inode_file-size.result.size in
    let is = c.inode_file-size.ensures.size in
    let prepares = c.stage_append.ensures.prepares 0 in
    let stored = adds_both middle (g.R.Region.memory c.store.new.self) new _ _ c.store.ensures c.barrier.ensures in
    let grows = grew old blocks inodes c.new.result.items size c.requires.can c.new.ensures is middle after prepares new stored in
    record {
      grows = grows;
      exact = exact_meaning (current_words old) (current_words new) c.args.parts.now _ c.requires.exact
          (exact_after old blocks inodes c.new.result.items size c.requires.can c.new.ensures is middle after prepares new stored c.fill.new.self c.stage_append.ensures.keeps.block_room (rw c.stage_append.ensures.keeps.free_inodes at c.fill.ensures))
          c.stage_append.ensures.keeps.snapshot_blocks c.stage_append.ensures.keeps.link_counts c.requires.can.well_formed grows.grown.meaning;
      snapshot_blocks = c.stage_append.ensures.keeps.snapshot_blocks;
      left = left_after old blocks inodes c.new.result.items size c.requires.can c.new.ensures is middle after prepares;
    }
