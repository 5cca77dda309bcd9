use Rattle.std.proofs.Common.{◌≡◌, ◌≤◌, [], true, false, length, take, drop}
use Rattle.bp_replay.proofs.Standing.{stands}
use Rattle.bp_replay.proofs.random_crashes.choose_drawn.Given as goal

abbrev pub invariant-loop-i : goal.invariant-loop-i
invariant-loop-i g l =
    let taken = take l.moment (g.R.Region.memory l.region).events in
    record {
      moment : l.choice.cut.moment ≡ l.moment;
      epoch : l.choice.cut.epoch ≤ l.i;
      mask : length l.choice.cut.mask ≤ l.i;
      waiting : length l.backs.waiting ≤ l.i;
      backs_room : l.backs.room ≡ l.fn.backs.room;
      choice_room : l.choice.room ≡ l.fn.choice.room;
      stands : stands (drop l.i taken) l.waits l.draws l.generator.state l.backs.waiting l.choice.cut ≡
          stands (drop l.start taken) false true l.fn.generator.state [] l.fn.choice.cut;
    }
