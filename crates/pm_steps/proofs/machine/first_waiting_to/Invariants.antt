use Rattle.pm_steps.specs.Machine.{AllToBack}
use Rattle.pm_steps.proofs.machine.first_waiting_to.Given as goal

abbrev pub invariant-loop-i : goal.invariant-loop-i
invariant-loop-i g l = AllToBack (g.R.Region.memory l.region).events l.backs.back l.word l.from l.i
