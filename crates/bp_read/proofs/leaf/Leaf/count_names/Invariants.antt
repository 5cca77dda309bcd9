use Rattle.std.proofs.Common.{◌≡◌, ◌+◌, ◌-◌, ◌≤◌, ◌==◌, not, length, filter}
use Rattle.std.specs.List.{range_with_len}
use Rattle.bp_layout.specs.Directory.{ino_in}
use Rattle.pm_region.specs.Memory.{current_words}
use Rattle.bp_read.proofs.leaf.Leaf.count_names.Given as goal

abbrev pub invariant-loop-index : goal.invariant-loop-index
invariant-loop-index g l = record {
  counted : l.names + length (filter (λ slot. not (ino_in (current_words (g.R.Region.memory l.region)) l.self.tree.root slot == 0)) (range_with_len (l.self.first + l.index) (l.index-end - l.index))) ≡
      length (filter (λ slot. not (ino_in (current_words (g.R.Region.memory l.region)) l.self.tree.root slot == 0)) (range_with_len l.self.first l.self.count));
  few : l.names ≤ l.index;
}
