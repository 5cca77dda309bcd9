use Rattle.std.proofs.Common.{◌≡◌, take}
use Rattle.bp_replay.specs.Wanted.{bits}
use Rattle.bp_replay.proofs.choices.push_mask.Given as goal

abbrev pub invariant-loop-place : goal.invariant-loop-place
invariant-loop-place l = record {
  moment : l.choice.cut.moment ≡ l.fn.choice.cut.moment;
  epoch : l.choice.cut.epoch ≡ l.fn.choice.cut.epoch;
  room : l.choice.room ≡ l.fn.choice.room;
  mask : l.choice.cut.mask ≡ take l.place (bits l.mask);
}
