use Rattle.std.proofs.Common.{take}
use Rattle.pm_region.specs.Memory.{Adds, stores_from}
use Rattle.pm_region.proofs.region.Region.store_words.Given as goal

abbrev pub invariant-loop-i : goal.invariant-loop-i
invariant-loop-i g l = Adds (g.Self.Region.memory l.fn.self) (g.Self.Region.memory l.self) (stores_from l.first (take l.i l.values))
