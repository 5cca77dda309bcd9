use Rattle.std.proofs.Common.{◌≡◌, ◌≤◌, ◌-◌}
use Rattle.bp_io.specs.Files.{Reads}
use Rattle.bp_shell.specs.Opening.{HasLoaded}
use Rattle.bp_shell.proofs.image_file.load.Given as goal

-- the words of the first blocks are there
abbrev pub invariant-loop-first : goal.invariant-loop-first
invariant-loop-first g l =
    record {
      within : l.first ≤ l.count;
      loaded : HasLoaded (g.F.Files.view l.fn.files) l.first l.filling;
      reads : Reads (g.F.Files.view l.fn.files) (g.F.Files.view l.files);
      faults : (g.F.Files.view l.files).faults ≡ (g.F.Files.view l.fn.files).faults;
    }

-- fewer blocks are left
abbrev pub decreases-loop-first : goal.decreases-loop-first
decreases-loop-first g l = l.count - l.first
