use Rattle.std.proofs.Common.{◌≡◌, suc, ◌/◌, ◌≤◌, ◌^◌, ◌-◌}
use Rattle.bp_layout.specs.Words.{height_of}
use Rattle.bp_layout.specs.WordPaths.{digits}
use Rattle.bp_read.proofs.paths.word_path.Given as goal

-- the digits above those that are left
abbrev pub invariant-loop-levels : goal.invariant-loop-levels
invariant-loop-levels l = record {
  within : l.levels ≤ suc (height_of l.fn.tree.root);
  so_far : l.path.items ≡ digits (suc (height_of l.fn.tree.root) - l.levels) (l.word / 512 ^ l.levels);
}

abbrev pub decreases-loop-levels : goal.decreases-loop-levels
decreases-loop-levels l = l.levels
