use Rattle.bp_shell.proofs.FormattingLaws.{prints}
use Rattle.bp_shell.proofs.output.report_notice.Goals as goal

pub returns : goal.returns
returns g c = prints c.print.result _ _ _ _ _ c.print.ensures.all c.print.ensures.some c.print.ensures.cause
