use Rattle.std.proofs.Common.{◌+◌, ◌<◌, take}
use Rattle.bp_cow.specs.Touched.{leaves_of}
use Rattle.bp_cow.proofs.touched.Touched.run_of.Given as goal

-- the way leads to no leaf of a run after this one
abbrev pub invariant-loop-number : goal.invariant-loop-number
invariant-loop-number l = l.i < leaves_of (take (l.number + 1) l.self.runs.now)
