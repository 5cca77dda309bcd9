use Rattle.std.proofs.Common.{◌<◌, ◌≤◌, arith}
use Rattle.pm_region.specs.Memory.{current_words}
use Rattle.bp_layout.specs.Inode.{inode_count}
use Rattle.bp_scan.proofs.EntryLaws.{fails_high, number_fits, passes_empty, tree_full, tree_sound}
use Rattle.bp_scan.proofs.directories.read_entry.Goals as goal

pub returns-then-named-eq0-clause-inside : goal.returns-then-named-eq0-clause-inside
returns-then-named-eq0-clause-inside g c =
    passes_empty (current_words (g.R.Region.memory c.args.region.now)) c.args.work.now c.args.directory c.args.number c.requires.inside c.requires.live c.args.named c.requires.named c.if-named-eq0.true

pub entry_fault-requires-clause-sound : goal.entry_fault-requires-clause-sound
entry_fault-requires-clause-sound g c = tree_sound (current_words (g.R.Region.memory c.args.region.now)) c.args.work.now c.args.directory c.args.number c.requires.inside

pub entry_fault-requires-clause-full : goal.entry_fault-requires-clause-full
entry_fault-requires-clause-full g c = tree_full (current_words (g.R.Region.memory c.args.region.now)) c.args.work.now c.args.directory c.args.number c.requires.inside

pub returns-then-named-inode_file-clause-fault : goal.returns-then-named-inode_file-clause-fault
returns-then-named-inode_file-clause-fault g c =
    let image = current_words (g.R.Region.memory c.args.region.now) in
    let high : inode_count image ≤ c.args.named = omega (arith, c.inode_file.ensures.size, c.if-named-inode_file.true) in
    rw c.entry_fault.ensures.check
    (fails_high image c.args.work.now c.args.directory c.args.number c.requires.inside c.requires.live c.args.named c.requires.named c.if-named-eq0.false c.entry_fault.result.place c.entry_fault.ensures.place high)

pub overflow_cast-slot : goal.overflow_cast-slot
overflow_cast-slot g c =
    let image = current_words (g.R.Region.memory c.args.region.now) in
    let low : c.args.named < inode_count image = omega (arith, c.inode_file.ensures.size, c.if-named-inode_file.false) in
    omega (arith, number_fits image c.args.work.now c.args.directory c.args.number c.requires.inside c.requires.live c.args.named c.requires.named low)
