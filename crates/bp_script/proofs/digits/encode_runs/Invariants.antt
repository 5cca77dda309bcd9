use Rattle.std.proofs.Common.{◌≡◌, ◌*◌, ◌++◌, take, drop}
use Rattle.hex.specs.Hex.{encode_lower}
use Rattle.bp_script.proofs.digits.encode_runs.Given as goal

abbrev pub invariant-loop-i : goal.invariant-loop-i
invariant-loop-i l = take (32 * l.i) l.into ++ encode_lower (drop (16 * l.i) l.content) ≡ encode_lower l.content
