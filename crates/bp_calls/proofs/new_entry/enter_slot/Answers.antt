use Rattle.std.proofs.Common.{◌+◌, ◌*◌, ◌≤◌, length, refl, arith}
use Rattle.bp_limits.proofs.Versions.{fields_most}
use Rattle.bp_layout.specs.Formatted.{version_of}
use Rattle.pm_region.specs.Memory.{current_words}
use Rattle.bp_layout.specs.Inode.{ContentStandsAt}
use Rattle.bp_layout.specs.Thaw.{none_in_snapshot}
use Rattle.bp_calls.proofs.InSlot.{slot_performs, slot_counts, slot_exact, entry_stands}
use Rattle.bp_calls.proofs.Refusals.{found_empty}
use Rattle.bp_calls.proofs.Rooms.{base_after, room_after, row_in_range}
use Rattle.bp_calls.proofs.new_entry.enter_slot.Given.{Over}
use Rattle.bp_calls.proofs.new_entry.enter_slot.Goals.{After-entry_place-entry}
use Rattle.bp_calls.proofs.new_entry.enter_slot.Goals as goal

pub entry_place-entry-requires-clause-live : goal.entry_place-entry-requires-clause-live
entry_place-entry-requires-clause-live g c =
    let live = (found_empty (current_words (g.R.Region.memory c.args.region.now)) c.args.dir c.args.slot c.requires.found).0 in
    rw c.tree_of-tree.ensures.size live

-- the entry in the slot stands at its place
stands : (g : Over) (c : After-entry_place-entry g) → ContentStandsAt (current_words (g.R.Region.memory c.args.region.now)) c.args.dir (32 * c.args.slot + 0) c.entry_place-entry.result
stands g c =
    entry_stands (current_words (g.R.Region.memory c.args.region.now)) c.args.dir c.args.slot c.entry_place-entry.result c.tree_of-tree.result.root
    c.tree_of-tree.ensures.root c.entry_place-entry.ensures.place c.entry_place-entry.ensures.present

-- and all of it in the memory
in_range : (g : Over) (c : After-entry_place-entry g) → c.entry_place-entry.result + 32 ≤ length (g.R.Region.memory c.args.region.now).base
in_range g c =
    let memory = g.R.Region.memory c.args.region.now in
    let low = (found_empty (current_words memory) c.args.dir c.args.slot c.requires.found).0 in
    row_in_range memory c.requires.can.lacks.well_formed c.args.dir (32 * c.args.slot + 0) c.entry_place-entry.result 32 c.requires.can.lacks.reached
    (omega (arith, low)) (omega arith) (stands g c)

pub put_name-requires-clause-in_range : goal.put_name-requires-clause-in_range
put_name-requires-clause-in_range g c =
    let memory = g.R.Region.memory in
    let first = in_range g (goal.at.put_name-requires-clause-in_range g c).After-entry_place-entry in
    let same = base_after _ _ (memory c.args.region.now) (memory c.fill.new.region) c.fill.ensures.stores in
    omega (arith, first, same)

pub put_name-requires-clause-room : goal.put_name-requires-clause-room
put_name-requires-clause-room g c =
    let memory = g.R.Region.memory in
    let left = room_after _ _ (memory c.args.region.now) (memory c.fill.new.region) c.fill.ensures.stores in
    let fields = fields_most (version_of (current_words (memory c.args.region.now))) in
    omega (arith, c.requires.room, left, fields)

pub commit_word-requires-clause-in_range : goal.commit_word-requires-clause-in_range
commit_word-requires-clause-in_range g c =
    let memory = g.R.Region.memory in
    let first = in_range g (goal.at.commit_word-requires-clause-in_range g c).After-entry_place-entry in
    let same = base_after _ _ (memory c.args.region.now) (memory c.fill.new.region) c.fill.ensures.stores in
    let also = base_after _ 31 (memory c.fill.new.region) (memory c.put_name.new.region) c.put_name.ensures.stores in
    omega (arith, first, same, also)

pub commit_word-requires-clause-room : goal.commit_word-requires-clause-room
commit_word-requires-clause-room g c =
    let memory = g.R.Region.memory in
    let left = room_after _ _ (memory c.args.region.now) (memory c.fill.new.region) c.fill.ensures.stores in
    let less = room_after _ 31 (memory c.fill.new.region) (memory c.put_name.new.region) c.put_name.ensures.stores in
    let fields = fields_most (version_of (current_words (memory c.args.region.now))) in
    omega (arith, c.requires.room, left, less, fields)

pub returns-clause-performs : goal.returns-clause-performs
returns-clause-performs g c =
    let memory = g.R.Region.memory in
    λ in_snapshot loose loose_inode.
    slot_performs in_snapshot (memory c.args.region.now) (memory c.fill.new.region) (memory c.put_name.new.region) (memory c.commit_word.new.region) c.args.dir c.args.slot c.args.ino c.entry_place-entry.result c.args.name.now c.args.kind
    c.requires.can c.requires.found
    (stands g (goal.at.returns-clause-performs g c).After-entry_place-entry)
    loose loose_inode c.fill.ensures c.put_name.ensures.stores c.put_name.ensures.name (rw c.from.ensures at c.commit_word.ensures)

pub returns-clause-exact : goal.returns-clause-exact
returns-clause-exact g c =
    let memory = g.R.Region.memory in
    slot_exact none_in_snapshot (memory c.args.region.now) (memory c.fill.new.region) (memory c.put_name.new.region) (memory c.commit_word.new.region) c.args.dir c.args.slot c.args.ino c.entry_place-entry.result c.args.name.now c.args.kind
    c.requires.can c.requires.found
    (stands g (goal.at.returns-clause-exact g c).After-entry_place-entry)
    (λ at stands. refl) (λ at stands. refl) c.fill.ensures c.put_name.ensures.stores c.put_name.ensures.name (rw c.from.ensures at c.commit_word.ensures)

pub returns-clause-counts : goal.returns-clause-counts
returns-clause-counts g c =
    let memory = g.R.Region.memory in
    slot_counts none_in_snapshot (memory c.args.region.now) (memory c.fill.new.region) (memory c.put_name.new.region) (memory c.commit_word.new.region) c.args.dir c.args.slot c.args.ino c.entry_place-entry.result c.args.name.now c.args.kind
    c.requires.can c.requires.found
    (stands g (goal.at.returns-clause-counts g c).After-entry_place-entry)
    (λ at stands. refl) (λ at stands. refl) c.fill.ensures c.put_name.ensures.stores c.put_name.ensures.name (rw c.from.ensures at c.commit_word.ensures)
