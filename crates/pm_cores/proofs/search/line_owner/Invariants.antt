use Rattle.std.proofs.Common.{◌≡◌, ◌+◌, ◌*◌, ◌-◌, take, drop}
use Rattle.pm_cores.specs.Log.{line_at}
use Rattle.pm_cores.specs.Caches.{first_owner}
use Rattle.pm_cores.specs.Inside.{owners_of}
use Rattle.pm_cores.proofs.search.line_owner.Given as goal

abbrev pub invariant-loop-i : goal.invariant-loop-i
invariant-loop-i l =
    first_owner (take (8 * line_at l.word + 8 - l.i) (drop l.i (owners_of l.since l.log l.epochs)))
    ≡ first_owner (take 8 (drop (8 * line_at l.word) (owners_of l.since l.log l.epochs)))
