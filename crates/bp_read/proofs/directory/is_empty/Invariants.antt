use Rattle.std.proofs.Common.{◌≡◌, ◌*◌, ◌-◌, ◌/◌, ◌==◌, not, length, filter}
use Rattle.std.specs.List.{range_with_len}
use Rattle.bp_layout.specs.Directory.{ino_in}
use Rattle.pm_region.specs.Memory.{current_words}
use Rattle.bp_read.specs.Names.{name_count}
use Rattle.bp_read.proofs.directory.is_empty.Given as goal

abbrev pub invariant-loop-number : goal.invariant-loop-number
invariant-loop-number g l =
    length (filter (λ slot. not (ino_in (current_words (g.R.Region.memory l.region)) l.tree.root slot == 0)) (range_with_len (16 * l.number) (l.tree.size / 256 - 16 * l.number))) ≡
    name_count (current_words (g.R.Region.memory l.region)) l.tree.root l.tree.size
