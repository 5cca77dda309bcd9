-- Only this file was changed so far.
use Rattle.std.proofs.Common.{◌-◌, ◌≡◌}
use Rattle.bp_disk.specs.Calls.{number_of}
use Rattle.bp_disk.specs.Disk.{ChangesOnly}
use Rattle.bp_disk.proofs.temp_file.write_zeros.Given as goal

abbrev pub invariant-loop-at : goal.invariant-loop-at
invariant-loop-at g l = record {
  end : l.end ≡ l.fn.end;
  changes : ChangesOnly (number_of l.fn.file) (g.S.System.calls l.fn.system) (g.S.System.calls l.system);
}

abbrev pub decreases-loop-at : goal.decreases-loop-at
decreases-loop-at g l = l.end - l.at
