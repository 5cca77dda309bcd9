use Rattle.bp_export.proofs.ReportLaws.{reports_one}
use Rattle.bp_export.proofs.lines.report.Goals as goal

pub returns : goal.returns
returns g c = reports_one c.report.result _ _ _ _ _ c.report.ensures.all c.report.ensures.some c.report.ensures.cause
