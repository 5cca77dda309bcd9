use Rattle.std.proofs.Common.{◌≡◌, ◌≤◌, length}
use Rattle.bp_cow.specs.Touched.{LaysSlots}
use Rattle.bp_cow.proofs.lay.lay_slots.Given as goal

abbrev pub invariant-loop-slot : goal.invariant-loop-slot
invariant-loop-slot l = record {
  size : length l.words ≡ 512;
  begun : l.from ≤ l.slot;
  laid : LaysSlots l.run l.first l.from l.slot l.fn.words l.words;
}
