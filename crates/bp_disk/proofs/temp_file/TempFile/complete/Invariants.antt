-- The blocks so far are completed.
use Rattle.std.proofs.Common.{◌≡◌, ◌-◌, ◌≤◌}
use Rattle.bp_disk.specs.Calls.{number_of}
use Rattle.bp_disk.specs.Disk.{ChangesOnly, led}
use Rattle.bp_disk.specs.Second.{CompletesStates, IsCompletedTo}
use Rattle.bp_disk.proofs.temp_file.TempFile.complete.Given as goal

abbrev pub invariant-loop-run : goal.invariant-loop-run
invariant-loop-run g l = record {
  high : l.at ≤ 65536;
  changes : ChangesOnly (number_of l.fn.self.file) (g.S.System.calls l.fn.system) (g.S.System.calls l.system);
  named : (led (g.S.System.calls l.system)).second ≡ (led (g.S.System.calls l.fn.system)).second;
  completed : IsCompletedTo l.at l.fn.self.has_holes l.fn.held.blocks.items l.fn.self.kept (number_of l.fn.first)
      (number_of l.fn.self.file) (g.S.System.calls l.fn.system) (g.S.System.calls l.system);
  states : CompletesStates l.at l.fn.held.blocks.items l.held.blocks.items;
}

abbrev pub decreases-loop-run : goal.decreases-loop-run
decreases-loop-run g l = 65536 - l.at
