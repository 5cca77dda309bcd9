use Rattle.std.proofs.Common.{ℕ, ◌+◌, ◌/◌, ◌<◌, ◌≤◌, ◌≡◌, false}
use Rattle.bp_free.specs.Set.{has}
use Rattle.bp_free.proofs.bits.Bits.first.Given as goal

abbrev pub invariant-loop-word : goal.invariant-loop-word
invariant-loop-word g l = record {
  none : (k : ℕ) → k / 64 < l.word → has l.self k ≡ false;
  looks : g.C.Looks.taken l.counter + l.fn.from ≤ g.C.Looks.taken l.fn.counter + l.word;
  from : l.fn.from ≤ l.word;
}
