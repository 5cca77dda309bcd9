use Rattle.std.proofs.Common.{◌≡◌, ◌≤◌, length}
use Rattle.pm_cores.specs.Choice.{mask_to}
use Rattle.pm_cores.specs.Inside.{flags_of}
use Rattle.pm_cores.proofs.search.push_flags.Given as goal

abbrev pub invariant-loop-k : goal.invariant-loop-k
invariant-loop-k l = record {
  so_far : l.choice ≡ record {
    cut = record l.fn.choice.cut { mask = mask_to 0 l.epoch l.log (flags_of l.since l.log) l.k };
    room = l.fn.choice.room;
  };
  few : length (mask_to 0 l.epoch l.log (flags_of l.since l.log) l.k) ≤ l.k;
}
