use Rattle.std.proofs.Common.{◌-◌, ◌^◌}
use Rattle.bp_volume.proofs.ClearedLaws.{HasCleared}
use Rattle.bp_volume.proofs.volume.Volume.clear_all.Given as goal

abbrev pub invariant-loop-ino : goal.invariant-loop-ino
invariant-loop-ino g l = HasCleared l.fn.self l.self l.first

abbrev pub decreases-loop-ino : goal.decreases-loop-ino
decreases-loop-ino g l = 2 ^ 32 - l.first
