use Rattle.std.proofs.Common.{◌≡◌}
use Rattle.pm_region.specs.Memory.{current_words}
use Rattle.bp_spelling.specs.Hashes.{hash_state}
use Rattle.bp_spelling.proofs.hash.hash_name.Given as goal

abbrev pub invariant-loop-word : goal.invariant-loop-word
invariant-loop-word g l = l.state ≡ hash_state (current_words (g.R.Region.memory l.region)) l.place l.word-index
