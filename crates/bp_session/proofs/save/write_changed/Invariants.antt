use Rattle.std.proofs.Common.{◌≡◌, ◌≤◌, ◌*◌, ◌-◌, ℕ, List, length}
use Rattle.pm_region.specs.Memory.{current_words}
use Rattle.bp_io.specs.Files.{KeepsOthers, StaysAttached}
use Rattle.bp_layout.specs.Bytes.{image_bytes}
use Rattle.bp_session.specs.Changed.{AreClean, HasChanged}
use Rattle.bp_session.specs.Files.{HoldsBytes, StaysKnown}
use Rattle.bp_session.proofs.save.write_changed.Given as goal

-- of the first blocks those that are dirty are saved
abbrev pub invariant-loop-first : goal.invariant-loop-first
invariant-loop-first g l =
    record {
      within : l.first ≤ l.count;
      attached : StaysAttached (g.F.Files.view l.fn.files) (g.F.Files.view l.files);
      bytes : (name was : List ℕ) → HoldsBytes (g.F.Files.view l.fn.files) name was →
          HasChanged ((g.F.Files.view l.files).contents name) l.flags l.first was (image_bytes (current_words (g.R.Region.memory l.region)));
      kept : AreClean l.flags → length (g.R.Region.memory l.region).base ≤ 512 * length l.flags → g.F.Files.view l.files ≡ g.F.Files.view l.fn.files;
      others : KeepsOthers (g.F.Files.view l.fn.files) (g.F.Files.view l.files);
      reported : StaysKnown (g.F.Files.view l.fn.files) (g.F.Files.view l.files);
      faults : (g.F.Files.view l.files).faults ≡ (g.F.Files.view l.fn.files).faults;
    }

-- fewer blocks are left
abbrev pub decreases-loop-first : goal.decreases-loop-first
decreases-loop-first g l = l.count - l.first
