use Rattle.std.proofs.Common.{◌≡◌, map}
use Rattle.std.specs.List.{range_with_len}
use Rattle.bp_layout.specs.Fields.{name_byte}
use Rattle.bp_layout.proofs.entry.Entry.read.Given as goal

abbrev pub invariant-loop-offset : goal.invariant-loop-offset
invariant-loop-offset l = l.name.items ≡ map (name_byte l.words) (range_with_len 0 l.offset)
