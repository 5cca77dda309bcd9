use Rattle.bp_plain.proofs.Exported.{export_done}
use Rattle.bp_plain.proofs.laws.exports_come_back.Goals as goal

pub returns : goal.returns
returns c = λ tree can. export_done tree can
