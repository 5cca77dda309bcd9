use Rattle.std.proofs.Common.{◌≡◌, ℕ, ◌-◌, ◌<◌, ◌≤◌, length}
use Rattle.std.specs.List.{slice_index}
use Rattle.bp_walk.proofs.walk.past_nulls.Given as goal

abbrev pub invariant-loop-next : goal.invariant-loop-next
invariant-loop-next l = record {
  further : l.slot < l.next;
  most : l.next ≤ length l.pointers;
  nulls : (i : ℕ) → l.slot < i → i < l.next → slice_index l.pointers i ≡ 0;
}

abbrev pub decreases-loop-next : goal.decreases-loop-next
decreases-loop-next l = length l.pointers - l.next
