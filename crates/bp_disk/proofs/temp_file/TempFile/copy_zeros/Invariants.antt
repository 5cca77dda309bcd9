-- Only this file was changed so far.
use Rattle.std.proofs.Common.{◌-◌, ◌≤◌}
use Rattle.bp_disk.specs.Calls.{number_of}
use Rattle.bp_disk.specs.Disk.{ChangesOnly}
use Rattle.bp_disk.proofs.temp_file.TempFile.copy_zeros.Given as goal

abbrev pub invariant-loop-run : goal.invariant-loop-run
invariant-loop-run g l = record {
  high : l.at ≤ 65536;
  changes : ChangesOnly (number_of l.fn.first) (g.S.System.calls l.fn.system) (g.S.System.calls l.system);
}

abbrev pub decreases-loop-run : goal.decreases-loop-run
decreases-loop-run g l = 65536 - l.at
