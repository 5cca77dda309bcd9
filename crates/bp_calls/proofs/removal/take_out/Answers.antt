use Rattle.std.proofs.Common.{◌≡◌, ◌-◌, ◌/◌, ◌<◌, ◌≤◌, length, slice_index, refl, sym, ◌∙◌, ap, subst, arith}
use Rattle.pm_region.specs.Memory.{current_words}
use Rattle.pm_region.proofs.MemoryLaws.{length-current_words}
use Rattle.bp_calls.proofs.CountLaws.{last_name, other_name, some_name}
use Rattle.bp_calls.proofs.Leaving.{CanLeave, can_give, found_leaving, inode_in_room, inode_taken, leaving_commits, leaving_exact, leaving_whole, named_exact}
use Rattle.bp_calls.proofs.Leaving.{named_few, named_reached}
use Rattle.bp_layout.specs.Names.{HasNames}
use Rattle.bp_calls.proofs.removal.take_out.Given.{Over}
use Rattle.bp_calls.proofs.removal.take_out.Goals.{After-entry_ino-ino}
use Rattle.bp_calls.proofs.removal.take_out.Goals as goal

-- the entry may go, and its inode number stands at the place that was found
can : (g : Over) (c : After-entry_ino-ino g)
    → CanLeave (current_words (g.R.Region.memory c.args.parts.now.region)) c.args.dir c.args.slot c.entry_ino-ino.result c.entry_place-entry.result
can g c =
    let image = current_words (g.R.Region.memory c.args.parts.now.region) in
    let directory = c.tree_of-directory in
    let found = c.entry_place-entry.ensures in
    found_leaving image c.args.dir c.args.slot c.entry_ino-ino.result c.entry_place-entry.result directory.result.root c.requires.mounted.well_formed
    c.requires.can directory.ensures.root c.entry_ino-ino.ensures found.place found.present

-- the names of the inode are counted
low : (g : Over) (c : After-entry_ino-ino g) → c.entry_ino-ino.result < length c.args.parts.now.link_counts
low g c =
    let exact = c.requires.mounted.exact in
    omega (arith, inode_in_room (can g c) exact.sets, exact.sets.inode_room, exact.count_room)

-- it has as many, and this one is among them
some : (g : Over) (c : After-entry_ino-ino g) → 1 ≤ slice_index c.args.parts.now.link_counts c.entry_ino-ino.result
some g c =
    let unlink = (can g c).unlink in
    some_name (current_words (g.R.Region.memory c.args.parts.now.region)) c.args.dir c.args.slot c.entry_ino-ino.result unlink.reached unlink.entry _
    (c.requires.mounted.exact.counts.each c.entry_ino-ino.result (low g c))

pub overflow_cast-ino : goal.overflow_cast-ino
overflow_cast-ino g c = let few = named_few (can g (goal.at.overflow_cast-ino g c).After-entry_ino-ino) in omega (arith, few)

pub tree_of-tree-requires-clause-reached : goal.tree_of-tree-requires-clause-reached
tree_of-tree-requires-clause-reached g c = named_reached (can g (goal.at.tree_of-tree-requires-clause-reached g c).After-entry_ino-ino)

pub commit_word-requires-clause-in_range : goal.commit_word-requires-clause-in_range
commit_word-requires-clause-in_range g c =
    omega (arith, c.entry_place-entry.ensures.in_range, length-current_words (g.R.Region.memory c.args.parts.now.region))

pub free_tree-requires : goal.free_tree-requires
free_tree-requires g c =
    let memory = g.R.Region.memory in
    let leave = can g (goal.at.free_tree-requires g c).After-entry_ino-ino in
    let exact = c.requires.mounted.exact in
    let gives = can_give (memory c.args.parts.now.region) (memory c.commit_word.new.region) leave c.commit_word.ensures exact.sets in
    let whole = leaving_whole (memory c.args.parts.now.region) (memory c.commit_word.new.region) leave c.commit_word.ensures in
    rw (c.tree_of-tree.ensures.root, c.tree_of-tree.ensures.size)
    (record { sound = gives.sound; room = gives.room; known = exact.snapshot_room ∙ sym (ap (λ n. n / 512) whole); taken = gives.taken })

pub give-requires-clause-in_range : goal.give-requires-clause-in_range
give-requires-clause-in_range g c =
    inode_in_room (can g (goal.at.give-requires-clause-in_range g c).After-entry_ino-ino) c.requires.mounted.exact.sets

pub give-requires-clause-taken : goal.give-requires-clause-taken
give-requires-clause-taken g c = inode_taken (can g (goal.at.give-requires-clause-taken g c).After-entry_ino-ino) c.requires.mounted.exact.sets

-- ## The count of names

pub names-names-requires : goal.names-names-requires
names-names-requires g c = low g (goal.at.names-names-requires g c).After-entry_ino-ino

pub overflow_sub-names : goal.overflow_sub-names
overflow_sub-names g c = omega (arith, some g (goal.at.overflow_sub-names g c).After-entry_ino-ino, c.names-names.ensures)

pub set-requires : goal.set-requires
set-requires g c = low g (goal.at.set-requires g c).After-entry_ino-ino

-- the inode has another name
pub returns-then-names-gt0 : goal.returns-then-names-gt0
returns-then-names-gt0 g c =
    let memory = g.R.Region.memory in
    let parts = c.args.parts.now in
    let at = (goal.at.returns-then-names-gt0 g c).After-entry_ino-ino in
    let leave = can g at in
    let exact = c.requires.mounted.exact in
    let inode = c.entry_ino-ino.result in
    let one : 1 ≤ slice_index parts.link_counts inode = some g at in
    let more = other_name (current_words (memory parts.region)) c.args.dir c.args.slot inode leave.unlink.reached leave.unlink.entry _
    (omega (arith, one, c.names-names.ensures, c.if-names-gt0.true)) (exact.counts.each inode (low g at)) in
    leaving_commits memory parts _ leave c.commit_word.ensures exact c.requires.clear
    (named_exact (memory parts.region) (memory c.commit_word.new.region) leave c.commit_word.ensures exact.sets more) refl (low g at)
    (c.names-names.result - 1) (omega (arith, one, c.names-names.ensures)) c.set.ensures

-- the name was its last
pub returns : goal.returns
returns g c =
    let memory = g.R.Region.memory in
    let parts = c.args.parts.now in
    let at = (goal.at.returns g c).After-entry_ino-ino in
    let leave = can g at in
    let exact = c.requires.mounted.exact in
    let inode = c.entry_ino-ino.result in
    let one : 1 ≤ slice_index parts.link_counts inode = some g at in
    let alone : slice_index parts.link_counts inode ≡ 1 = omega (arith, one, c.names-names.ensures, c.if-names-gt0.false) in
    let last = last_name (current_words (memory parts.region)) c.args.dir c.args.slot inode leave.unlink.reached leave.unlink.entry
    (subst (HasNames (current_words (memory parts.region)) inode) alone (exact.counts.each inode (low g at))) in
    leaving_commits memory parts _ leave c.commit_word.ensures exact c.requires.clear
    (rw c.give.ensures
    (leaving_exact (memory parts.region) (memory c.commit_word.new.region) leave c.commit_word.ensures exact.sets last c.free_tree.new.blocks
    (rw (c.tree_of-tree.ensures.root, c.tree_of-tree.ensures.size) at c.free_tree.ensures))) refl (low g at)
    (c.names-names.result - 1) (omega (arith, one, c.names-names.ensures)) c.set.ensures
