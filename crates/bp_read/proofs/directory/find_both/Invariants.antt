use Rattle.std.proofs.Common.{◌≡◌, ◌/◌, ◌==◌}
use Rattle.std.specs.Prelude.{IfSome}
use Rattle.bp_layout.specs.Directory.{ino_in, is_named_in}
use Rattle.pm_region.specs.Memory.{current_words}
use Rattle.bp_read.specs.Spots.{found_slot}
use Rattle.bp_read.proofs.DirectoryLeaves.{IsFirstFrom}
use Rattle.bp_read.proofs.directory.find_both.Given as goal

abbrev pub invariant-loop-number : goal.invariant-loop-number
invariant-loop-number g l = record {
  found : IsFirstFrom (is_named_in (current_words (g.R.Region.memory l.region)) l.tree.root l.one) l.number (l.tree.size / 256) (found_slot l.found);
  named : IsFirstFrom (is_named_in (current_words (g.R.Region.memory l.region)) l.tree.root l.other) l.number (l.tree.size / 256) (found_slot l.named);
  free : IsFirstFrom (λ slot. ino_in (current_words (g.R.Region.memory l.region)) l.tree.root slot == 0) l.number (l.tree.size / 256) l.free;
  ino : IfSome l.found (λ found. found.ino ≡ ino_in (current_words (g.R.Region.memory l.region)) l.tree.root found.slot);
}
