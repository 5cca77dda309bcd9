use Rattle.std.proofs.Common.{◌≡◌, ◌<◌, drop, length}
use Rattle.bp_layout.specs.WordPaths.{address, address_from, ExistsFrom}
use Rattle.pm_region.specs.Memory.{current_words}
use Rattle.bp_read.specs.Paths.{IsInRangeFrom}
use Rattle.bp_read.proofs.paths.address.Given as goal

-- the slots that are left go on from here
abbrev pub invariant-loop-slot : goal.invariant-loop-slot
invariant-loop-slot g l = record {
  exists : ExistsFrom (current_words (g.R.Region.memory l.region)) l.place (drop l.slot-index l.slot-items);
  in_range : IsInRangeFrom (current_words (g.R.Region.memory l.region)) l.place (drop l.slot-index l.slot-items);
  same : address_from (current_words (g.R.Region.memory l.region)) l.place (drop l.slot-index l.slot-items) ≡ address (current_words (g.R.Region.memory l.region)) l.path.items;
  here : 2 < length (current_words (g.R.Region.memory l.region)) → l.place < length (current_words (g.R.Region.memory l.region));
}
