use Rattle.bp_session.proofs.ExportedLines.{export_asks}
use Rattle.bp_session.proofs.laws.exports_ask_for_their_calls.Goals as goal

pub returns : goal.returns
returns c = export_asks
