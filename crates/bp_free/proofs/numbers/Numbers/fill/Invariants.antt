use Rattle.std.proofs.Common.{◌-◌, ◌≤◌}
use Rattle.bp_free.specs.Set.{Fills}
use Rattle.bp_free.proofs.numbers.Numbers.fill.Given as goal

abbrev pub invariant-loop-next : goal.invariant-loop-next
invariant-loop-next g l = record {
  from : l.from ≤ l.next;
  to : l.next ≤ l.to;
  fills : Fills l.from l.next l.initial.self l.self;
}

abbrev pub decreases-loop-next : goal.decreases-loop-next
decreases-loop-next g l = l.to - l.next
