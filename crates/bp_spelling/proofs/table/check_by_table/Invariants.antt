use Rattle.std.proofs.Common.{◌≡◌, length}
use Rattle.pm_region.specs.Memory.{current_words}
use Rattle.bp_spelling.proofs.TableLaws.{IsHeld}
use Rattle.bp_spelling.proofs.table.check_by_table.Given as goal

abbrev pub invariant-loop-entry : goal.invariant-loop-entry
invariant-loop-entry g l = record {
  held : IsHeld (current_words (g.R.Region.memory l.region)) l.entries l.entry-index l.table;
  room : length l.table ≡ length l.fn.table;
}
