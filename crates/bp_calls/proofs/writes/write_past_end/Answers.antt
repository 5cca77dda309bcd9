use Rattle.std.proofs.Common.{◌+◌, length, arith}
use Rattle.pm_region.specs.Memory.{current_words}
use Rattle.pm_region.proofs.MemoryLaws.{length-current_words}
use Rattle.bp_free.specs.Set.{members}
use Rattle.bp_layout.specs.Reached.IsReached.{inode_file}
use Rattle.bp_layout.proofs.Reached.{reached-in_file}
use Rattle.bp_changes.specs.Sets.{in_snapshot_of}
use Rattle.bp_append.specs.Prepared.{CanPrepare}
use Rattle.bp_calls.proofs.WritePastEnd.{past_end_can, prepared_base, prepared_room, past_end_performs_at, past_end_exact_at}
use Rattle.bp_calls.proofs.writes.write_past_end.Given.{Over}
use Rattle.bp_calls.proofs.writes.write_past_end.Goals.{After-root_path-root}
use Rattle.bp_calls.proofs.writes.write_past_end.Goals as goal
use Rattle.bp_calls.proofs.CountLaws.{exact_file}

pub place-size_place-requires-clause-sound : goal.place-size_place-requires-clause-sound
place-size_place-requires-clause-sound g c = c.requires.can.into.well_formed.sound 0 inode_file

pub place-size_place-requires-clause-there : goal.place-size_place-requires-clause-there
place-size_place-requires-clause-there g c = reached-in_file (current_words (g.R.Region.memory c.args.parts.now.region)) c.requires.can.into.well_formed c.args.ino c.requires.can.into.can.reached

-- the file may be prepared for the bytes
prepares : (g : Over) (c : After-root_path-root g) →
    CanPrepare (in_snapshot_of c.args.parts.now) (g.R.Region.memory c.args.parts.now.region) (members c.args.parts.now.free_blocks) c.args.ino c.root_path-root.result.items c.args.offset (c.args.offset + length c.args.bytes.now)
prepares g c =
    past_end_can (g.R.Region.memory c.args.parts.now.region) c.args.parts.now.free_blocks c.args.parts.now.free_inodes c.args.offset c.args.bytes.now c.args.ino c.root_path-root.result.items
    c.requires.can c.requires.past_end c.requires.enough c.root_path-root.ensures

pub stage_append-requires : goal.stage_append-requires
stage_append-requires g c = record { can = (c.args.ino, prepares g (goal.at.stage_append-requires g c).After-root_path-root) }

pub commit_word-requires-clause-in_range : goal.commit_word-requires-clause-in_range
commit_word-requires-clause-in_range g c =
    let memory = g.R.Region.memory in
    let can = prepares g (goal.at.commit_word-requires-clause-in_range g c).After-root_path-root in
    let same = prepared_base (memory c.args.parts.now.region) c.args.parts.now.free_blocks c.args.parts.now.free_inodes c.args.offset c.args.bytes.now (memory c.stage_append.new.parts.region) c.stage_append.new.parts.free_blocks c.args.ino
    (c.stage_append.ensures.prepares c.args.ino can) in
    omega (arith, same, c.place-size_place.ensures.in_range, length-current_words (memory c.args.parts.now.region))

pub commit_word-requires-clause-room : goal.commit_word-requires-clause-room
commit_word-requires-clause-room g c =
    let memory = g.R.Region.memory in
    let can = prepares g (goal.at.commit_word-requires-clause-room g c).After-root_path-root in
    prepared_room (memory c.args.parts.now.region) c.args.parts.now.free_blocks c.args.parts.now.free_inodes c.args.offset c.args.bytes.now (memory c.stage_append.new.parts.region) c.stage_append.new.parts.free_blocks c.args.ino c.requires.can c.requires.past_end
    (c.stage_append.ensures.prepares c.args.ino can)

pub returns : goal.returns
returns g c =
    let memory = g.R.Region.memory in
    let can = prepares g (goal.at.returns g c).After-root_path-root in
    let done =
    past_end_performs_at (memory c.args.parts.now.region) c.args.parts.now.free_blocks c.args.parts.now.free_inodes c.args.offset c.args.bytes.now (memory c.stage_append.new.parts.region) c.stage_append.new.parts.free_blocks (memory c.commit_word.new.region)
    c.root_path-root.result.items c.place-size_place.result c.args.ino c.requires.can c.requires.past_end can c.place-size_place.ensures.place (c.stage_append.ensures.prepares c.args.ino can) c.commit_word.ensures in
    record {
      performs = done;
      snapshot_blocks = c.stage_append.ensures.keeps.snapshot_blocks;
      exact = exact_file _ _ c.args.parts.now _ c.requires.exact
          (rw c.stage_append.ensures.keeps.free_inodes
          (past_end_exact_at (memory c.args.parts.now.region) c.args.parts.now.free_blocks c.args.parts.now.free_inodes c.args.offset c.args.bytes.now (memory c.stage_append.new.parts.region) c.stage_append.new.parts.free_blocks (memory c.commit_word.new.region)
          c.root_path-root.result.items c.place-size_place.result c.args.ino c.requires.can c.requires.past_end can c.place-size_place.ensures.place (c.stage_append.ensures.prepares c.args.ino can) c.commit_word.ensures c.stage_append.ensures.keeps.block_room))
          c.stage_append.ensures.keeps.snapshot_blocks c.stage_append.ensures.keeps.link_counts c.args.ino c.requires.can.into.well_formed done.effect.changes;
    }
