use Rattle.std.proofs.Common.{refl, sym, ◌∙◌, arith}
use Rattle.bp_changes.specs.Sets.{in_snapshot_of}
use Rattle.bp_calls.proofs.TargetPaths.{shrinking_loose}
use Rattle.bp_layout.specs.Reached.IsReached.{inode_file}
use Rattle.bp_layout.proofs.Reached.{reached-in_file}
use Rattle.pm_region.specs.Memory.{current_words}
use Rattle.pm_region.proofs.MemoryLaws.{length-current_words}
use Rattle.bp_calls.proofs.Shorter.{Shrinks, can_give_back, shrunk}
use Rattle.bp_calls.proofs.resize.shorten.Goals as goal
use Rattle.bp_calls.proofs.CountLaws.{exact_file}

pub place-size_place-requires-clause-sound : goal.place-size_place-requires-clause-sound
place-size_place-requires-clause-sound g c = c.requires.mounted.well_formed.sound 0 inode_file

pub place-size_place-requires-clause-there : goal.place-size_place-requires-clause-there
place-size_place-requires-clause-there g c = reached-in_file (current_words (g.R.Region.memory c.args.parts.now.region)) c.requires.mounted.well_formed c.args.ino c.requires.reached

pub commit_word-requires-clause-in_range : goal.commit_word-requires-clause-in_range
commit_word-requires-clause-in_range g c = omega (arith, c.place-size_place.ensures.in_range, length-current_words (g.R.Region.memory c.args.parts.now.region))

pub free_tree-requires : goal.free_tree-requires
free_tree-requires g c =
    let memory = g.R.Region.memory in
    let shrinks : Shrinks (current_words (memory c.args.parts.now.region)) (in_snapshot_of c.args.parts.now) c.args.parts.now.free_blocks c.args.parts.now.free_inodes c.args.ino c.args.size c.place-size_place.result = record {
      well_formed = c.requires.mounted.well_formed;
      exact = c.requires.mounted.exact.sets;
      reached = c.requires.reached;
      is_file = c.requires.file;
      smaller = c.requires.smaller;
      stands = c.place-size_place.ensures.place;
    } in
    let can = can_give_back (memory c.args.parts.now.region) (memory c.commit_word.new.region) c.args.parts.now.free_blocks c.args.parts.now.free_inodes c.args.ino c.args.size c.place-size_place.result c.tree_of-tree.result.root c.tree_of-tree.result.size
    c.tree_of-tree.ensures.root c.tree_of-tree.ensures.size shrinks c.commit_word.ensures in
    record { sound = can.sound; room = can.room; known = c.requires.mounted.exact.snapshot_room ∙ sym (c.requires.mounted.exact.sets.block_room) ∙ can.room; taken = can.taken }

pub returns : goal.returns
returns g c =
    let memory = g.R.Region.memory in
    let shrinks : Shrinks (current_words (memory c.args.parts.now.region)) (in_snapshot_of c.args.parts.now) c.args.parts.now.free_blocks c.args.parts.now.free_inodes c.args.ino c.args.size c.place-size_place.result = record {
      well_formed = c.requires.mounted.well_formed;
      exact = c.requires.mounted.exact.sets;
      reached = c.requires.reached;
      is_file = c.requires.file;
      smaller = c.requires.smaller;
      stands = c.place-size_place.ensures.place;
    } in
    let done = shrunk (memory c.args.parts.now.region) (memory c.commit_word.new.region) c.args.parts.now.free_blocks c.free_tree.new.blocks c.args.parts.now.free_inodes c.args.ino c.args.size c.place-size_place.result c.tree_of-tree.result.root c.tree_of-tree.result.size
    c.tree_of-tree.ensures.root c.tree_of-tree.ensures.size shrinks c.commit_word.ensures
    (shrinking_loose (current_words (memory c.args.parts.now.region)) c.requires.mounted.well_formed c.args.ino c.args.size c.requires.reached (omega (arith, c.requires.smaller)) (in_snapshot_of c.args.parts.now) c.place-size_place.result c.place-size_place.ensures.place c.requires.clear)
    c.free_tree.ensures in
    record { performs = done.0; snapshot_blocks = refl; exact = exact_file _ _ c.args.parts.now _ c.requires.mounted.exact done.1 refl refl c.args.ino c.requires.mounted.well_formed done.0.effect.changes }
