use Rattle.std.proofs.Common.{◌≢◌, ℕ, ◌/◌, ◌^◌, ◌<◌}
use Rattle.bp_cow.proofs.touched.Run.alike_words.Given as goal

abbrev pub invariant-loop-level : goal.invariant-loop-level
invariant-loop-level l = (k : ℕ) → k < l.level → l.first / 512 ^ k ≢ l.last / 512 ^ k
