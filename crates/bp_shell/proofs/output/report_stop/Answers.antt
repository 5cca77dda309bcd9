use Rattle.std.proofs.Common.{refl}
use Rattle.bp_shell.proofs.output.report_stop.Goals as goal

pub returns-in-Missing : goal.returns-in-Missing
returns-in-Missing g c = rw c.in-Missing.is (refl, c.report_notice.ensures)

pub returns-in-Outside : goal.returns-in-Outside
returns-in-Outside g c = rw c.in-Outside.is (refl, (refl, refl))

pub returns-in-Refused : goal.returns-in-Refused
returns-in-Refused g c = rw c.in-Refused.is (refl, c.report_notice-in-Refused.ensures)

pub returns-in-Memory : goal.returns-in-Memory
returns-in-Memory g c = rw c.in-Memory.is (refl, (refl, refl))
