use Rattle.std.proofs.Common.{◌≡◌, ◌-◌, ◌/◌, ◌<◌, ◌≤◌, length, slice_index, refl, sym, ◌∙◌, ap, arith}
use Rattle.bp_free.specs.Set.{Set}
use Rattle.std.proofs.lemmas.List.{length-set}
use Rattle.bp_layout.specs.Directory.{ino_at, ino_in}
use Rattle.bp_changes.specs.Sets.{in_snapshot_of}
use Rattle.pm_region.specs.Memory.{Memory, current_words}
use Rattle.bp_rename.proofs.OntoDone.{IsReplaced, has_room, onto_done, ready}
use Rattle.bp_rename.proofs.OntoNames.{onto_counted, onto_last, onto_named, onto_other}
use Rattle.bp_rename.proofs.OntoLaws.{onto_loose, onto_need, replaced, replaced_few, replaced_some}
use Rattle.bp_layout.specs.Reached.IsReached.{inode_file}
use Rattle.bp_calls.proofs.CountLaws.{exact_with}
use Rattle.bp_rename.proofs.onto.move_onto.Given.{Over}
use Rattle.bp_rename.proofs.onto.move_onto.Goals.{After-commit_at, After-entry_ino-replaced}
use Rattle.bp_rename.proofs.onto.move_onto.Goals as goal

-- the inode that was read is the one that has the new name
named : (g : Over) (c : After-entry_ino-replaced g)
    → c.entry_ino-replaced.result ≡ ino_at (current_words (g.R.Region.memory c.args.parts.now.region)) c.args.to_move.now.to_dir c.args.slot
named g c =
    let image = current_words (g.R.Region.memory c.args.parts.now.region) in
    c.entry_ino-replaced.ensures ∙ ap (λ root. ino_in image root c.args.slot) c.tree_of-target.ensures.root

-- its names are counted, and there is one at least
low : (g : Over) (c : After-entry_ino-replaced g)
    → ino_at (current_words (g.R.Region.memory c.args.parts.now.region)) c.args.to_move.now.to_dir c.args.slot < length c.args.parts.now.link_counts
low g c =
    let image = current_words (g.R.Region.memory c.args.parts.now.region) in
    onto_counted image c.args.to_move.now c.args.slot c.requires.can c.requires.onto c.args.parts.now c.requires.exact

some : (g : Over) (c : After-entry_ino-replaced g) → 1 ≤ slice_index c.args.parts.now.link_counts c.entry_ino-replaced.result
some g c =
    let image = current_words (g.R.Region.memory c.args.parts.now.region) in
    rw (named g c) (onto_named image c.args.to_move.now c.args.slot c.requires.can c.requires.onto c.args.parts.now c.requires.exact)

-- what the commit makes
committed : (g : Over) (c : After-commit_at g)
    → IsReplaced (in_snapshot_of c.args.parts.now) (g.R.Region.memory c.args.parts.now.region) (g.R.Region.memory c.commit_at.new.parts.region)
    c.args.to_move.now c.args.slot (ino_at (current_words (g.R.Region.memory c.args.parts.now.region)) c.args.to_move.now.to_dir c.args.slot)
    c.args.parts.now.free_inodes c.commit_at.new.parts.free_blocks
committed g c =
    let old : Memory = g.R.Region.memory c.args.parts.now.region in
    let new : Memory = g.R.Region.memory c.commit_at.new.parts.region in
    let before = c.args.parts.now in
    onto_done old new c.args.to_move.now c.args.slot c.requires.can c.requires.onto c.args.touched.now c.requires.touches
    before.free_blocks before.free_inodes c.commit_at.new.parts.free_blocks c.requires.exact.sets c.requires.thawed.room c.commit_at.ensures.commits c.commit_at.ensures.keeps.block_room

pub entry_ino-replaced-requires-clause-live : goal.entry_ino-replaced-requires-clause-live
entry_ino-replaced-requires-clause-live g c =
    let image = current_words (g.R.Region.memory c.args.parts.now.region) in
    rw c.tree_of-target.ensures.size (replaced image c.args.to_move.now c.args.slot c.requires.can c.requires.onto).in_size

pub overflow_cast-replaced : goal.overflow_cast-replaced
overflow_cast-replaced g c =
    let image = current_words (g.R.Region.memory c.args.parts.now.region) in
    let few = replaced_few image c.args.to_move.now c.args.slot c.requires.can c.requires.onto in
    omega (arith, named g (goal.at.overflow_cast-replaced g c).After-entry_ino-replaced, few)

pub commit_at-requires : goal.commit_at-requires
commit_at-requires g c κs within =
    let old : Memory = g.R.Region.memory c.args.parts.now.region in
    let before = c.args.parts.now in
    let can = ready old c.args.to_move.now c.args.slot c.requires.can c.requires.onto c.args.touched.now c.requires.touches
    before.free_blocks before.free_inodes c.requires.exact.sets c.requires.thawed.room in
    let room = has_room old c.args.to_move.now c.args.slot c.requires.can c.requires.onto c.args.touched.now c.requires.touches
    before.free_blocks before.free_inodes c.requires.exact.sets c.requires.thawed.room in
    let loose = onto_loose (current_words old) c.args.to_move.now c.args.slot c.requires.can c.requires.onto c.args.touched.now c.requires.touches
    (in_snapshot_of before) c.requires.thawed.clear in
    let count = onto_need (current_words old) c.args.to_move.now c.args.slot c.requires.can c.requires.onto c.args.touched.now c.requires.touches in (
      within,
      (
        record {
          well_formed = c.requires.can.well_formed;
          can = can;
          loose = loose;
          fits = omega (arith, c.requires.exact.sets.block_room);
          some = omega (arith, count, c.requires.thawed.enough);
          room = room;
        },
        (c.requires.found, record { room = omega (arith, c.requires.exact.snapshot_room); same = λ b. refl }),
      ),
    )

pub get-inode-requires-clause-sound : goal.get-inode-requires-clause-sound
get-inode-requires-clause-sound g c = (committed g (goal.at.get-inode-requires-clause-sound g c).After-commit_at).well_formed.sound 0 inode_file

pub get-inode-requires-clause-some : goal.get-inode-requires-clause-some
get-inode-requires-clause-some g c =
    let image = current_words (g.R.Region.memory c.args.parts.now.region) in
    let some = replaced_some image c.args.to_move.now c.args.slot c.requires.can c.requires.onto in
    omega (arith, named g (goal.at.get-inode-requires-clause-some g c).After-entry_ino-replaced, some)

pub get-inode-requires-clause-there : goal.get-inode-requires-clause-there
get-inode-requires-clause-there g c =
    let is = named g (goal.at.get-inode-requires-clause-there g c).After-entry_ino-replaced in
    rw is (committed g (goal.at.get-inode-requires-clause-there g c).After-commit_at).there

pub get-inode-requires-clause-least : goal.get-inode-requires-clause-least
get-inode-requires-clause-least g c =
    let is = named g (goal.at.get-inode-requires-clause-least g c).After-entry_ino-replaced in
    rw is (committed g (goal.at.get-inode-requires-clause-least g c).After-commit_at).kind.0

pub get-inode-requires-clause-most : goal.get-inode-requires-clause-most
get-inode-requires-clause-most g c =
    let is = named g (goal.at.get-inode-requires-clause-most g c).After-entry_ino-replaced in
    rw is (committed g (goal.at.get-inode-requires-clause-most g c).After-commit_at).kind.1

pub free_tree-requires-clause-sound : goal.free_tree-requires-clause-sound
free_tree-requires-clause-sound g c =
    let is = named g (goal.at.free_tree-requires-clause-sound g c).After-entry_ino-replaced in
    rw (c.get-inode.ensures.root, c.get-inode.ensures.size, is) (committed g (goal.at.free_tree-requires-clause-sound g c).After-commit_at).gives.sound

pub free_tree-requires-clause-taken : goal.free_tree-requires-clause-taken
free_tree-requires-clause-taken g c =
    let is = named g (goal.at.free_tree-requires-clause-taken g c).After-entry_ino-replaced in
    rw (c.get-inode.ensures.root, c.get-inode.ensures.size, is) (committed g (goal.at.free_tree-requires-clause-taken g c).After-commit_at).gives.taken

pub free_tree-requires-clause-known : goal.free_tree-requires-clause-known
free_tree-requires-clause-known g c =
    let whole = (committed g (goal.at.free_tree-requires-clause-known g c).After-commit_at).whole in
    ap (λ (snapshot : Set). length snapshot) c.commit_at.ensures.keeps.snapshot_blocks ∙ c.requires.exact.snapshot_room ∙ sym (ap (λ n. n / 512) whole)

pub give-requires-clause-in_range : goal.give-requires-clause-in_range
give-requires-clause-in_range g c =
    let is = named g (goal.at.give-requires-clause-in_range g c).After-entry_ino-replaced in
    rw (c.commit_at.ensures.keeps.free_inodes, is) (committed g (goal.at.give-requires-clause-in_range g c).After-commit_at).in_room

pub give-requires-clause-taken : goal.give-requires-clause-taken
give-requires-clause-taken g c =
    let is = named g (goal.at.give-requires-clause-taken g c).After-entry_ino-replaced in
    rw (c.commit_at.ensures.keeps.free_inodes, is) (committed g (goal.at.give-requires-clause-taken g c).After-commit_at).taken

-- ---- the count of names

pub names-names-requires : goal.names-names-requires
names-names-requires g c =
    let at = (goal.at.names-names-requires g c).After-entry_ino-replaced in
    omega (arith, named g at, low g at)

pub overflow_sub-names : goal.overflow_sub-names
overflow_sub-names g c = omega (arith, some g (goal.at.overflow_sub-names g c).After-entry_ino-replaced, c.names-names.ensures)

pub set-requires : goal.set-requires
set-requires g c =
    let at = (goal.at.set-requires g c).After-entry_ino-replaced in
    omega (arith, named g at, low g at)

-- what had the name has another one
pub returns-then-names-gt0 : goal.returns-then-names-gt0
returns-then-names-gt0 g c =
    let image = current_words (g.R.Region.memory c.args.parts.now.region) in
    let before = c.args.parts.now in
    let at = (goal.at.returns-then-names-gt0 g c).After-entry_ino-replaced in
    let done = committed g (goal.at.returns-then-names-gt0 g c).After-commit_at in
    let is = named g at in
    let one : 1 ≤ c.names-names.result = rw c.names-names.ensures (some g at) in
    let read : c.names-names.result ≡ slice_index before.link_counts (ino_at image c.args.to_move.now.to_dir c.args.slot) =
    c.names-names.ensures ∙ ap (λ i. slice_index before.link_counts i) is in
    let more = onto_other image c.args.to_move.now c.args.slot c.requires.can c.requires.onto before c.requires.exact (omega (arith, read, c.if-names-gt0.true, one)) in
    record {
      performs = done.performs;
      snapshot_blocks = c.commit_at.ensures.keeps.snapshot_blocks;
      exact = exact_with _ _ before _ c.requires.exact (rw c.commit_at.ensures.keeps.free_inodes (done.other more)) c.commit_at.ensures.keeps.snapshot_blocks done.whole
          (rw (c.commit_at.ensures.keeps.link_counts, c.set.ensures) (length-set _ _ _))
          (rw (c.commit_at.ensures.keeps.link_counts, c.set.ensures, is)
          (done.counts before.link_counts c.requires.exact.counts (low g at) (c.names-names.result - 1) (omega (arith, one, read))));
    }

-- the name was its last
pub returns : goal.returns
returns g c =
    let image = current_words (g.R.Region.memory c.args.parts.now.region) in
    let before = c.args.parts.now in
    let at = (goal.at.returns g c).After-entry_ino-replaced in
    let done = committed g (goal.at.returns g c).After-commit_at in
    let is = named g at in
    let one : 1 ≤ c.names-names.result = rw c.names-names.ensures (some g at) in
    let read : c.names-names.result ≡ slice_index before.link_counts (ino_at image c.args.to_move.now.to_dir c.args.slot) =
    c.names-names.ensures ∙ ap (λ i. slice_index before.link_counts i) is in
    let last = onto_last image c.args.to_move.now c.args.slot c.requires.can c.requires.onto before c.requires.exact (omega (arith, read, c.if-names-gt0.false, one)) in
    record {
      performs = done.performs;
      snapshot_blocks = c.commit_at.ensures.keeps.snapshot_blocks;
      exact = exact_with _ _ before _ c.requires.exact
          (rw (c.give.ensures, c.commit_at.ensures.keeps.free_inodes, is)
          (done.last c.free_tree.new.blocks (rw (c.get-inode.ensures.root, c.get-inode.ensures.size, is, c.commit_at.ensures.keeps.snapshot_blocks) at c.free_tree.ensures) last))
          c.commit_at.ensures.keeps.snapshot_blocks done.whole
          (rw (c.commit_at.ensures.keeps.link_counts, c.set.ensures) (length-set _ _ _))
          (rw (c.commit_at.ensures.keeps.link_counts, c.set.ensures, is)
          (done.counts before.link_counts c.requires.exact.counts (low g at) (c.names-names.result - 1) (omega (arith, one, read))));
    }
