use Rattle.std.proofs.Common.{◌≡◌, ℕ, ◌+◌, ◌<◌, ◌≤◌, length}
use Rattle.std.specs.List.{slice_index}
use Rattle.bp_limits.specs.CallLimits.{max_name}
use Rattle.bp_rename.specs.Respelled.{respelled_byte}
use Rattle.bp_rename.proofs.within.respelled.Given as goal

abbrev pub invariant-loop-at : goal.invariant-loop-at
invariant-loop-at l = record {
  whole : length l.bytes ≡ max_name + 8;
  done : (k : ℕ) → k < l.at → slice_index l.bytes k ≡ respelled_byte l.name k;
  zeros : (k : ℕ) → l.at ≤ k → slice_index l.bytes k ≡ 0;
}
