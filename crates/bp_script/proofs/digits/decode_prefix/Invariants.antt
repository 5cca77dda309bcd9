use Rattle.std.proofs.Common.{◌≡◌, ◌*◌, take, Some}
use Rattle.bp_script.proofs.DigitRuns.{bytes}
use Rattle.bp_script.proofs.digits.decode_prefix.Given as goal

abbrev pub invariant-loop-i : goal.invariant-loop-i
invariant-loop-i l = bytes (take (32 * (2 * l.i)) l.text) ≡ Some (take (16 * (2 * l.i)) l.into)
