use Rattle.std.proofs.Common.{◌≡◌, ◌*◌, ◌-◌, ◌/◌, ◌==◌, find}
use Rattle.std.specs.List.{range_with_len}
use Rattle.std.specs.Prelude.{IfSome, IfNone}
use Rattle.bp_layout.specs.Directory.{ino_in, is_named_in, empty_slot_in, slot_named_in}
use Rattle.pm_region.specs.Memory.{current_words}
use Rattle.bp_read.proofs.directory.find_or_free.Given as goal

abbrev pub invariant-loop-number : goal.invariant-loop-number
invariant-loop-number g l = record {
  named : slot_named_in (current_words (g.R.Region.memory l.region)) l.tree.root l.tree.size l.name ≡
      find (is_named_in (current_words (g.R.Region.memory l.region)) l.tree.root l.name) (range_with_len (16 * l.number) (l.tree.size / 256 - 16 * l.number));
  some : IfSome l.empty (λ slot. l.empty ≡ empty_slot_in (current_words (g.R.Region.memory l.region)) l.tree.root l.tree.size);
  none : IfNone l.empty (empty_slot_in (current_words (g.R.Region.memory l.region)) l.tree.root l.tree.size ≡
      find (λ slot. ino_in (current_words (g.R.Region.memory l.region)) l.tree.root slot == 0) (range_with_len (16 * l.number) (l.tree.size / 256 - 16 * l.number)));
}
