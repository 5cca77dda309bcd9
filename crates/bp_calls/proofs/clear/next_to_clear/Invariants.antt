use Rattle.std.proofs.Common.{ℕ, ◌<◌, ◌≤◌}
use Rattle.pm_region.specs.Memory.{current_words}
use Rattle.bp_layout.specs.Clearing.{IsClearInode}
use Rattle.bp_calls.proofs.clear.next_to_clear.Given as goal

-- the inodes so far are clear
abbrev pub invariant-loop-ino : goal.invariant-loop-ino
invariant-loop-ino g l = (i : ℕ) → l.fn.first ≤ i → i < l.ino → IsClearInode (current_words (g.R.Region.memory l.region)) i
