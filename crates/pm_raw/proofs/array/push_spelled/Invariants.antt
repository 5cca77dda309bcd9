use Rattle.std.proofs.Common.{◌≡◌, ◌++◌}
use Rattle.pm_raw.specs.Spelled.{spelled_words}
use Rattle.pm_raw.proofs.array.push_spelled.Given as goal

abbrev pub invariant-loop-k : goal.invariant-loop-k
invariant-loop-k l = record {
  cells : l.cells ≡ record l.fn.cells { items = l.fn.cells.items ++ spelled_words l.k l.bytes };
}
