use Rattle.std.proofs.Common.{◌≤◌, ◌+◌, min, arith}
use Rattle.bp_layout.specs.Inode.{inode_count}
use Rattle.pm_region.specs.Memory.{current_words}
use Rattle.bp_layout.specs.Clearing.{cleared_inodes}
use Rattle.bp_calls.proofs.ClearedSteps.{clears_count, clears_from, clears_more, clears_room, clears_well_formed}
use Rattle.bp_calls.proofs.clear.clear_some.Goals as goal

pub clear_inode-requires-clause-well_formed : goal.clear_inode-requires-clause-well_formed
clear_inode-requires-clause-well_formed g c =
    clears_well_formed (g.R.Region.memory c.args.region.now) c.args.first cleared_inodes c.requires.well_formed c.requires.version c.loop-ino.ino (g.R.Region.memory c.loop-ino.region) c.loop-ino.invariant.clears

pub clear_inode-requires-clause-there : goal.clear_inode-requires-clause-there
clear_inode-requires-clause-there g c =
    let old = g.R.Region.memory c.args.region.now in
    let same = clears_count old c.args.first cleared_inodes c.requires.well_formed c.requires.version c.loop-ino.ino (g.R.Region.memory c.loop-ino.region) c.loop-ino.invariant.clears in
    omega (arith, same, c.loop-ino-test.true, c.min-end.ensures, c.inode_count.ensures)

pub clear_inode-requires-clause-room : goal.clear_inode-requires-clause-room
clear_inode-requires-clause-room g c =
    let old = g.R.Region.memory c.args.region.now in
    let left = clears_room old c.args.first cleared_inodes c.requires.well_formed c.requires.version c.loop-ino.ino (g.R.Region.memory c.loop-ino.region) c.loop-ino.invariant.clears in
    omega (arith, left, c.requires.room, c.loop-ino.invariant.from, c.loop-ino-test.true, c.min-end.ensures, c.saturating_add.ensures)

pub loop-ino-preserved : goal.loop-ino-preserved
loop-ino-preserved g c =
    let old = g.R.Region.memory c.args.region.now in
    record {
      clears = clears_more old c.args.first cleared_inodes c.requires.well_formed c.requires.version c.loop-ino.ino (g.R.Region.memory c.loop-ino.region) c.loop-ino.invariant.clears
          (g.R.Region.memory c.clear_inode.new.region) c.loop-ino.invariant.from
          (omega (arith, c.loop-ino-test.true, c.min-end.ensures, c.saturating_add.ensures))
          (omega (arith, c.loop-ino-test.true, c.min-end.ensures, c.inode_count.ensures)) c.clear_inode.ensures;
      from = omega (arith, c.loop-ino.invariant.from);
      to = omega (arith, c.loop-ino-test.true, c.min-end.ensures, c.saturating_add.ensures);
    }

pub barrier-requires : goal.barrier-requires
barrier-requires g c =
    let old = g.R.Region.memory c.args.region.now in
    let left = clears_room old c.args.first cleared_inodes c.requires.well_formed c.requires.version c.loop-ino.ino (g.R.Region.memory c.loop-ino.region) c.loop-ino.invariant.clears in
    omega (arith, left, c.requires.room, c.loop-ino.invariant.from, c.loop-ino.invariant.to)

pub returns : goal.returns
returns g c =
    let old = g.R.Region.memory c.args.region.now in
    let all : min (c.args.first + cleared_inodes) (inode_count (current_words old)) ≤ c.loop-ino.ino =
    omega (arith, c.loop-ino-test.false, c.min-end.ensures, c.saturating_add.ensures, c.inode_count.ensures, c.inode_count.type_inv) in
    clears_from old c.args.first cleared_inodes c.requires.well_formed c.requires.version c.loop-ino.ino (g.R.Region.memory c.loop-ino.region) c.loop-ino.invariant.clears
    (g.R.Region.memory c.barrier.new.self) c.requires.single c.loop-ino.invariant.from c.loop-ino.invariant.to c.barrier.ensures all
