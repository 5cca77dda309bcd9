use Rattle.bp_read.proofs.NameStores.{NameSoFar}
use Rattle.bp_read.proofs.name_stores.put_name.Given as goal

abbrev pub invariant-loop-i : goal.invariant-loop-i
invariant-loop-i g l = NameSoFar (g.R.Region.memory l.fn.region) (g.R.Region.memory l.region) l.place l.i l.name
