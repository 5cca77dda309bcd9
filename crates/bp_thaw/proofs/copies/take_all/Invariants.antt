use Rattle.std.proofs.Common.{◌≡◌, ◌≤◌, length, take}
use Rattle.bp_thaw.specs.Copies.{blocks_of, places_of}
use Rattle.bp_thaw.specs.Steps.{TakesAll}
use Rattle.bp_thaw.proofs.copies.take_all.Given as goal

abbrev pub invariant-loop-i : goal.invariant-loop-i
invariant-loop-i l = record {
  of : places_of l.copies.items ≡ take l.i l.places.items;
  takes : TakesAll l.fn.blocks l.blocks (blocks_of l.copies.items);
  count : length l.copies.items ≤ l.i;
}
