use Rattle.bp_script.proofs.WholeLines.{one_line}
use Rattle.bp_script.proofs.laws.call_lines_are_lines.Goals as goal

pub returns : goal.returns
returns c = one_line
