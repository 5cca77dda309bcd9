-- The pieces so far are copied.
use Rattle.std.proofs.Common.{◌≡◌, ◌-◌, ◌≤◌, max}
use Rattle.bp_disk.specs.Calls.{number_of}
use Rattle.bp_disk.specs.Disk.{ChangesOnly, IsCopied, led}
use Rattle.bp_disk.proofs.temp_file.copy_bytes.Given as goal

abbrev pub invariant-loop-at : goal.invariant-loop-at
invariant-loop-at g l = record {
  end : l.end ≡ l.fn.end;
  low : l.fn.start ≤ l.at;
  high : l.at ≤ max l.fn.start l.fn.end;
  changes : ChangesOnly (number_of l.fn.to) (g.S.System.calls l.fn.system) (g.S.System.calls l.system);
  named : (led (g.S.System.calls l.system)).second ≡ (led (g.S.System.calls l.fn.system)).second;
  copied : IsCopied l.fn.has_holes (number_of l.fn.from) (number_of l.fn.to) l.fn.start l.at
      (g.S.System.calls l.fn.system) (g.S.System.calls l.system);
}

abbrev pub decreases-loop-at : goal.decreases-loop-at
decreases-loop-at g l = l.end - l.at
