use Rattle.std.proofs.Common.{◌≤◌, arith}
use Rattle.bp_limits.proofs.Versions.{fields_most}
use Rattle.bp_layout.specs.Formatted.{version_of}
use Rattle.pm_region.specs.Memory.{current_words, room_in}
use Rattle.pm_region.proofs.MemoryLaws.{length-current_words}
use Rattle.bp_layout.specs.Reached.IsReached.{inode_file}
use Rattle.bp_layout.proofs.Reached.{reached-in_file}
use Rattle.bp_calls.proofs.EnteredLaws.{directory_inode}
use Rattle.bp_calls.proofs.PastEndStores.{put_base, put_room, put_well_formed_past_end}
use Rattle.bp_calls.proofs.InNewEntry.{past_end_counts, past_end_performs, past_end_exact, put_free}
use Rattle.bp_calls.proofs.PutsLaws.{small_directory}
use Rattle.bp_calls.proofs.Rooms.{base_after, room_after}
use Rattle.bp_calls.proofs.new_entry.enter_past_end.Given.{Over}
use Rattle.bp_calls.proofs.new_entry.enter_past_end.Goals.{After-append_entry}
use Rattle.bp_calls.proofs.new_entry.enter_past_end.Goals as goal

pub tree_of-tree-requires-clause-some : goal.tree_of-tree-requires-clause-some
tree_of-tree-requires-clause-some g c =
    let some = directory_inode (current_words (g.R.Region.memory c.args.parts.now.region)) c.args.dir c.requires.can.can.lacks.directory in
    omega (arith, some)

pub place-size_place-requires-clause-sound : goal.place-size_place-requires-clause-sound
place-size_place-requires-clause-sound g c = c.requires.can.can.lacks.well_formed.sound 0 inode_file

pub place-size_place-requires-clause-there : goal.place-size_place-requires-clause-there
place-size_place-requires-clause-there g c =
    let can = c.requires.can in
    reached-in_file (current_words (g.R.Region.memory c.args.parts.now.region)) can.can.lacks.well_formed c.args.dir can.can.lacks.reached

pub fill-requires-clause-well_formed : goal.fill-requires-clause-well_formed
fill-requires-clause-well_formed g c =
    let memory = g.R.Region.memory in
    put_well_formed_past_end (memory c.args.parts.now.region) (memory c.append_entry.new.parts.region) c.args.parts.now.free_blocks c.append_entry.new.parts.free_blocks c.args.dir c.args.ino c.args.name.now c.requires.can.can c.append_entry.ensures.puts

pub fill-requires-clause-free : goal.fill-requires-clause-free
fill-requires-clause-free g c =
    let memory = g.R.Region.memory in
    put_free (memory c.args.parts.now.region) (memory c.append_entry.new.parts.region) c.args.parts.now.free_blocks c.append_entry.new.parts.free_blocks c.args.dir c.args.ino c.args.name.now c.requires.can c.append_entry.ensures.puts

-- the log has room for the inode and the size once the entry is written
room : (g : Over) (c : After-append_entry g) → 12 ≤ room_in (g.R.Region.memory c.append_entry.new.parts.region)
room g c =
    let memory = g.R.Region.memory in
    put_room (memory c.args.parts.now.region) (memory c.append_entry.new.parts.region) c.args.parts.now.free_blocks c.append_entry.new.parts.free_blocks c.args.dir c.args.ino
    c.args.name.now c.requires.can.can c.append_entry.ensures.puts

pub fill-requires-clause-room : goal.fill-requires-clause-room
fill-requires-clause-room g c =
    let left = room g (goal.at.fill-requires-clause-room g c).After-append_entry in
    omega (arith, left)

pub overflow_add-tree : goal.overflow_add-tree
overflow_add-tree g c =
    let can = c.requires.can in
    let small = small_directory (current_words (g.R.Region.memory c.args.parts.now.region)) can.can.lacks.well_formed c.args.dir can.can.lacks.reached can.can.lacks.directory in
    omega (arith, small, c.tree_of-tree.ensures.size)

pub commit_word-requires-clause-in_range : goal.commit_word-requires-clause-in_range
commit_word-requires-clause-in_range g c =
    let memory = g.R.Region.memory in
    let first = put_base (memory c.args.parts.now.region) (memory c.append_entry.new.parts.region) c.args.parts.now.free_blocks c.append_entry.new.parts.free_blocks c.args.dir c.args.ino c.args.name.now c.requires.can.can c.append_entry.ensures.puts in
    let same = base_after _ _ (memory c.append_entry.new.parts.region) (memory c.fill.new.region) c.fill.ensures.stores in
    omega (arith, c.place-size_place.ensures.in_range, length-current_words (memory c.args.parts.now.region), first, same)

pub commit_word-requires-clause-room : goal.commit_word-requires-clause-room
commit_word-requires-clause-room g c =
    let memory = g.R.Region.memory in
    let left = room g (goal.at.commit_word-requires-clause-room g c).After-append_entry in
    let less = room_after _ _ (memory c.append_entry.new.parts.region) (memory c.fill.new.region) c.fill.ensures.stores in
    let fields = fields_most (version_of (current_words (memory c.append_entry.new.parts.region))) in
    omega (arith, left, less, fields)

pub returns-clause-performs : goal.returns-clause-performs
returns-clause-performs g c =
    let memory = g.R.Region.memory in
    past_end_performs (memory c.args.parts.now.region) (memory c.append_entry.new.parts.region) (memory c.fill.new.region) (memory c.commit_word.new.region) c.args.parts.now.free_blocks c.append_entry.new.parts.free_blocks
    c.args.dir c.args.ino c.place-size_place.result c.args.name.now c.args.kind c.requires.can c.append_entry.ensures.puts c.fill.ensures c.place-size_place.ensures.place
    (rw c.tree_of-tree.ensures.size at c.commit_word.ensures)

pub returns-clause-exact : goal.returns-clause-exact
returns-clause-exact g c =
    let memory = g.R.Region.memory in
    past_end_exact (memory c.args.parts.now.region) (memory c.append_entry.new.parts.region) (memory c.fill.new.region) (memory c.commit_word.new.region) c.args.parts.now.free_blocks c.append_entry.new.parts.free_blocks
    c.args.dir c.args.ino c.place-size_place.result c.args.name.now c.args.kind c.requires.can c.append_entry.ensures.puts c.fill.ensures c.place-size_place.ensures.place
    (rw c.tree_of-tree.ensures.size at c.commit_word.ensures) c.append_entry.ensures.keeps.block_room

pub returns-clause-counts : goal.returns-clause-counts
returns-clause-counts g c =
    let memory = g.R.Region.memory in
    past_end_counts (memory c.args.parts.now.region) (memory c.append_entry.new.parts.region) (memory c.fill.new.region) (memory c.commit_word.new.region) c.args.parts.now.free_blocks c.append_entry.new.parts.free_blocks
    c.args.dir c.args.ino c.place-size_place.result c.args.name.now c.args.kind c.requires.can c.append_entry.ensures.puts c.fill.ensures c.place-size_place.ensures.place
    (rw c.tree_of-tree.ensures.size at c.commit_word.ensures)
