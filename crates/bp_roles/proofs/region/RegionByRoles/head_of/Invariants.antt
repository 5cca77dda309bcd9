use Rattle.std.proofs.Common.{◌≡◌, length, take}
use Rattle.pm_region.specs.Memory.{current_words}
use Rattle.bp_roles.specs.Seen.{seen_memory}
use Rattle.bp_roles.proofs.region.RegionByRoles.head_of.Given as goal

abbrev pub invariant-loop-word : goal.invariant-loop-word
invariant-loop-word g l =
    (length l.head ≡ 8) × (take l.word l.head ≡ take l.word (current_words (seen_memory l.places (g.R.Region.memory l.region))))
