use Rattle.std.proofs.Common.{◌≡◌}
use Rattle.pm_region.specs.Memory.{current_words}
use Rattle.bp_spelling.proofs.TableLaws.{PassesBy}
use Rattle.bp_spelling.proofs.table.put.Given as goal

abbrev pub invariant-loop-cell : goal.invariant-loop-cell
invariant-loop-cell g l = record {
  same : l.table ≡ l.fn.table;
  passes : PassesBy (current_words (g.R.Region.memory l.region)) l.table l.entry l.cell;
}
