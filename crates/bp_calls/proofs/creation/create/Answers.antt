use Rattle.std.proofs.Common.{arith}
use Rattle.pm_region.specs.Memory.{current_words}
use Rattle.bp_calls.proofs.EnteredLaws.{directory_inode}
use Rattle.bp_calls.proofs.creation.create.Goals as goal

pub tree_of-requires-clause-some : goal.tree_of-requires-clause-some
tree_of-requires-clause-some g c =
    let some = directory_inode (current_words (g.R.Region.memory c.args.parts.now.region)) c.args.dir c.requires.directory in
    omega (arith, some)

pub create_in-requires-clause-slot : goal.create_in-requires-clause-slot
create_in-requires-clause-slot g c = rw (c.tree_of.ensures.root, c.tree_of.ensures.size) at c.free_slot-slot.ensures
