use Rattle.std.proofs.Common.{arith}
use Rattle.pm_region.specs.Memory.{current_words}
use Rattle.bp_free.specs.Set.{members}
use Rattle.bp_calls.proofs.NewNames.{none_needs, some_needs}
use Rattle.bp_calls.proofs.Refusals.{no_members, some_members}
use Rattle.bp_calls.proofs.creation.new_need.Goals as goal

pub entry_need-entry-requires-clause-slot : goal.entry_need-entry-requires-clause-slot
entry_need-entry-requires-clause-slot g c = c.requires.slot

pub returns-then-count-gt0-clause-need : goal.returns-then-count-gt0-clause-need
returns-then-count-gt0-clause-need g c =
    some_needs (current_words (g.R.Region.memory c.args.parts.now.region)) c.requires.mounted.well_formed c.args.parts.now.free_blocks c.args.parts.now.free_inodes c.requires.mounted.exact.sets c.args.dir c.requires.reached c.requires.directory
    (some_members (members c.args.parts.now.free_inodes) (λ e. omega (arith, c.if-count-gt0.true, c.count.ensures, e))) c.entry_need-entry.result c.entry_need-entry.ensures.need

pub returns-clause-need : goal.returns-clause-need
returns-clause-need g c =
    none_needs (current_words (g.R.Region.memory c.args.parts.now.region)) c.requires.mounted.well_formed c.args.parts.now.free_blocks c.args.parts.now.free_inodes c.requires.mounted.exact.sets c.args.dir c.requires.reached c.requires.directory
    (no_members (members c.args.parts.now.free_inodes) (omega (arith, c.count.ensures, c.if-count-gt0.false))) c.entry_need-entry.result c.grow_need.result c.entry_need-entry.ensures.need c.grow_need.ensures.need
