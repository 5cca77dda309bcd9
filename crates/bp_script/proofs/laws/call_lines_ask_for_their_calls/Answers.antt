use Rattle.bp_script.proofs.CallLines.{call_asks}
use Rattle.bp_script.proofs.laws.call_lines_ask_for_their_calls.Goals as goal

pub returns : goal.returns
returns c = λ call is fits. call_asks call is fits
