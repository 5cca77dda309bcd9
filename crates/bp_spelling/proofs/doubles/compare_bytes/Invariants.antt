use Rattle.std.proofs.Common.{◌≡◌}
use Rattle.pm_region.specs.Memory.{current_words}
use Rattle.bp_spelling.specs.Places.{rest_cmp}
use Rattle.bp_spelling.proofs.doubles.compare_bytes.Given as goal

abbrev pub invariant-loop-part : goal.invariant-loop-part
invariant-loop-part g l = rest_cmp (current_words (g.R.Region.memory l.region)) l.a l.b l.part ≡ rest_cmp (current_words (g.R.Region.memory l.region)) l.a l.b 1
