use Rattle.std.proofs.Common.{◌≡◌, ◌++◌, replicate, true}
use Rattle.bp_replay.proofs.choices.push_true.Given as goal

abbrev pub invariant-loop : goal.invariant-loop
invariant-loop l = record {
  moment : l.choice.cut.moment ≡ l.fn.choice.cut.moment;
  epoch : l.choice.cut.epoch ≡ l.fn.choice.cut.epoch;
  room : l.choice.room ≡ l.fn.choice.room;
  mask : l.choice.cut.mask ≡ l.fn.choice.cut.mask ++ replicate l.counter true;
}
