use Rattle.std.proofs.Common.{◌≡◌, ◌≤◌, length, take}
use Rattle.pm_region.specs.Memory.{current_words}
use Rattle.bp_thaw.specs.Copies.{links_among}
use Rattle.bp_thaw.proofs.links.links_to.Given as goal

abbrev pub invariant-loop-i : goal.invariant-loop-i
invariant-loop-i g l = record {
  links : l.links.items ≡ links_among (current_words (g.R.Region.memory l.region)) l.copies.items (take l.i l.copies.items);
  count : length l.links.items ≤ l.i;
}
