use Rattle.std.proofs.Common.{◌≡◌, ◌/◌, ◌≤◌, ◌^◌, ◌-◌}
use Rattle.bp_layout.specs.Tree.{tree_word}
use Rattle.pm_region.specs.Memory.{current_words}
use Rattle.bp_read.proofs.descent.descend.Given as goal

-- the word that stands as many levels above the one that is sought
abbrev pub invariant-loop-levels : goal.invariant-loop-levels
invariant-loop-levels g l = record {
  within : l.levels ≤ l.depth;
  reached : l.word ≡ tree_word (current_words (g.R.Region.memory l.region)) l.fn.tree.root (l.depth - l.levels) (l.index / 512 ^ l.levels);
}

abbrev pub decreases-loop-levels : goal.decreases-loop-levels
decreases-loop-levels g l = l.levels
