use Rattle.std.proofs.Common.{◌≡◌, false, take}
use Rattle.pm_region.specs.Memory.{current_words}
use Rattle.bp_thaw.specs.Copies.{is_copied}
use Rattle.bp_thaw.proofs.links.is_copied.Given as goal

abbrev pub invariant-loop-i : goal.invariant-loop-i
invariant-loop-i g l = record { none : is_copied (current_words (g.R.Region.memory l.region)) (take l.i l.copies.items) l.block ≡ false }
