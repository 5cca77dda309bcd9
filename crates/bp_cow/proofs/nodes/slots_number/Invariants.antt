use Rattle.std.proofs.Common.{◌≡◌, ◌^◌, ◌<◌}
use Rattle.bp_cow.specs.Touched.{slots_number}
use Rattle.bp_cow.proofs.nodes.slots_number.Given as goal

abbrev pub invariant-loop-level : goal.invariant-loop-level
invariant-loop-level l = record {
  number : l.number ≡ slots_number l.path l.from l.level;
  low : l.number < 512 ^ l.level;
}
