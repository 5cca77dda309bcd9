use Rattle.std.proofs.Common.{ℕ, ◌+◌, ◌*◌, min}
use Rattle.bp_layout.specs.EntryWords.{IsRow}
use Rattle.bp_layout.specs.Directory.{entry_count}
use Rattle.bp_layout.specs.Inode.{root_of}
use Rattle.pm_region.specs.Memory.{current_words}
use Rattle.bp_export.specs.Depth.{HasLongEntry}
use Rattle.bp_export.proofs.depth.+depth.Given as goal

-- each goes on with what the one above it has left, and only a name takes some
abbrev pub decreases-has_long_path : goal.decreases-has_long_path
decreases-has_long_path g l = 3 * l.left + 2

abbrev pub decreases-has_long_entry : goal.decreases-has_long_entry
decreases-has_long_entry g l = 3 * l.left + 1

abbrev pub decreases-is_long : goal.decreases-is_long
decreases-is_long g l = 3 * l.left

abbrev pub invariant-has_long_path-loop-leaf : goal.invariant-has_long_path-loop-leaf
invariant-has_long_path-loop-leaf g l =
    HasLongEntry (current_words (g.R.Region.memory l.region)) l.ino 0 (min (16 * l.leaf) (entry_count (current_words (g.R.Region.memory l.region)) l.ino)) l.left → ⊥

abbrev pub invariant-has_long_entry-loop-index : goal.invariant-has_long_entry-loop-index
invariant-has_long_entry-loop-index g l =
    (i first count : ℕ) → IsRow (current_words (g.R.Region.memory l.region)) (root_of (current_words (g.R.Region.memory l.region)) i) first count l.words →
    HasLongEntry (current_words (g.R.Region.memory l.region)) i first l.index l.left → ⊥
