use Rattle.std.proofs.Common.{arith}
use Rattle.bp_changes.specs.Sets.{in_snapshot_of}
use Rattle.bp_append.specs.Prepared.{CanPrepare}
use Rattle.bp_layout.specs.Reached.IsReached.{inode_file}
use Rattle.bp_layout.proofs.Reached.{reached-in_file}
use Rattle.bp_free.specs.Set.{members}
use Rattle.pm_region.specs.Memory.{current_words}
use Rattle.pm_region.proofs.MemoryLaws.{length-current_words}
use Rattle.bp_calls.proofs.Longer.{prepares, room_past_end, grew}
use Rattle.bp_calls.proofs.resize.lengthen.Goals as goal
use Rattle.bp_calls.proofs.CountLaws.{exact_file}

pub place-size_place-requires-clause-sound : goal.place-size_place-requires-clause-sound
place-size_place-requires-clause-sound g c = c.requires.can.well_formed.sound 0 inode_file

pub place-size_place-requires-clause-there : goal.place-size_place-requires-clause-there
place-size_place-requires-clause-there g c = reached-in_file (current_words (g.R.Region.memory c.args.parts.now.region)) c.requires.can.well_formed c.args.ino c.requires.can.reached

pub stage_append-requires : goal.stage_append-requires
stage_append-requires g c =
    let memory = g.R.Region.memory in
    record { can = (c.args.ino, prepares (memory c.args.parts.now.region) c.args.parts.now.free_blocks c.args.parts.now.free_inodes c.args.ino c.args.size c.requires.can c.root_path-at.result.items c.root_path-at.ensures c.requires.enough) }

pub commit_word-requires : goal.commit_word-requires
commit_word-requires g c =
    let memory = g.R.Region.memory in
    let ready = c.stage_append.ensures.prepares c.args.ino (prepares (memory c.args.parts.now.region) c.args.parts.now.free_blocks c.args.parts.now.free_inodes c.args.ino c.args.size c.requires.can c.root_path-at.result.items c.root_path-at.ensures c.requires.enough) in
    let past_end = room_past_end (memory c.args.parts.now.region) c.args.parts.now.free_blocks c.args.parts.now.free_inodes (memory c.stage_append.new.parts.region) (members c.stage_append.new.parts.free_blocks) _ c.args.ino c.args.size c.requires.can ready in
    record { in_range = omega (arith, past_end.1, c.place-size_place.ensures.in_range, length-current_words (memory c.args.parts.now.region)); room = past_end.0 }

pub returns : goal.returns
returns g c =
    let memory = g.R.Region.memory in
    let ready : CanPrepare (in_snapshot_of c.args.parts.now) (memory c.args.parts.now.region) (members c.args.parts.now.free_blocks) c.args.ino c.root_path-at.result.items c.args.size c.args.size =
    prepares (memory c.args.parts.now.region) c.args.parts.now.free_blocks c.args.parts.now.free_inodes c.args.ino c.args.size c.requires.can c.root_path-at.result.items c.root_path-at.ensures c.requires.enough in
    let done = grew (memory c.args.parts.now.region) c.args.parts.now.free_blocks c.args.parts.now.free_inodes (memory c.stage_append.new.parts.region) (memory c.commit_word.new.region) c.stage_append.new.parts.free_blocks c.root_path-at.result.items c.args.ino c.args.size c.place-size_place.result c.requires.can (record {
      can = ready;
      stands = c.place-size_place.ensures.place;
      prepared = c.stage_append.ensures.prepares c.args.ino ready;
      room = c.stage_append.ensures.keeps.block_room;
      stored = c.commit_word.ensures;
    }) in
    record {
      performs = done.0;
      snapshot_blocks = c.stage_append.ensures.keeps.snapshot_blocks;
      exact = exact_file _ _ c.args.parts.now _ c.requires.exact (rw c.stage_append.ensures.keeps.free_inodes done.1) c.stage_append.ensures.keeps.snapshot_blocks c.stage_append.ensures.keeps.link_counts c.args.ino
          c.requires.can.well_formed done.0.effect.changes;
    }
