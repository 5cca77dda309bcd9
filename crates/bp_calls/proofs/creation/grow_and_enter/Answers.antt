use Rattle.std.proofs.Common.{◌∙◌, sym}
use Rattle.bp_calls.proofs.NewNames.{can_grow, grown_enters, grown_performs, grown_slot}
use Rattle.bp_calls.proofs.creation.grow_and_enter.Goals as goal

pub grow-requires : goal.grow-requires
grow-requires g c =
    record {
      can = can_grow (g.R.Region.memory c.args.parts.now.region) c.args.parts.now.free_blocks c.args.parts.now.free_inodes c.args.dir c.args.name.now c.requires.lacks c.requires.exact.sets c.requires.thawed;
      exact = c.requires.exact;
    }

pub enter-requires-clause-can : goal.enter-requires-clause-can
enter-requires-clause-can g c =
    let memory = g.R.Region.memory in
    rw c.grow.ensures.snapshot_blocks
    (grown_enters (memory c.args.parts.now.region) (memory c.grow.new.parts.region) c.args.parts.now.free_blocks c.args.parts.now.free_inodes c.grow.new.parts.free_blocks c.grow.new.parts.free_inodes c.args.dir c.args.name.now
    c.requires.lacks c.requires.exact.sets c.requires.none c.requires.thawed c.grow.ensures.grows (rw c.grow.ensures.snapshot_blocks at c.grow.ensures.exact.sets) c.grow.ensures.left)

pub enter-requires-clause-slot : goal.enter-requires-clause-slot
enter-requires-clause-slot g c =
    let memory = g.R.Region.memory in
    c.requires.slot
    ∙ sym (grown_slot (memory c.args.parts.now.region) (memory c.grow.new.parts.region) c.args.parts.now.free_blocks c.args.parts.now.free_inodes c.grow.new.parts.free_blocks c.grow.new.parts.free_inodes c.args.dir c.args.name.now
    c.requires.lacks c.requires.exact.sets c.requires.none c.requires.thawed c.grow.ensures.grows (rw c.grow.ensures.snapshot_blocks at c.grow.ensures.exact.sets) c.grow.ensures.left)

pub returns : goal.returns
returns g c =
    let memory = g.R.Region.memory in
    record {
      performs = grown_performs (memory c.args.parts.now.region) (memory c.grow.new.parts.region) c.args.parts.now.free_blocks c.args.parts.now.free_inodes c.grow.new.parts.free_blocks c.grow.new.parts.free_inodes c.args.dir c.args.name.now
          c.requires.lacks c.requires.exact.sets c.requires.none c.requires.thawed c.grow.ensures.grows (rw c.grow.ensures.snapshot_blocks at c.grow.ensures.exact.sets) c.grow.ensures.left (memory c.enter.new.parts.region) c.args.kind
          (rw c.grow.ensures.snapshot_blocks at c.enter.ensures.performs);
      snapshot_blocks = c.enter.ensures.snapshot_blocks ∙ c.grow.ensures.snapshot_blocks;
      exact = c.enter.ensures.exact;
    }
