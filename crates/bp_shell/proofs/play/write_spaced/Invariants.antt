use Rattle.std.proofs.Common.{◌≡◌, ◌++◌, take}
use Rattle.bp_shell.specs.Playing.{spaced}
use Rattle.bp_shell.proofs.play.write_spaced.Given as goal

-- the numbers so far are written
abbrev pub invariant-loop-number : goal.invariant-loop-number
invariant-loop-number l = l.text.bytes.items ≡ l.fn.text.bytes.items ++ spaced (take l.number-index l.numbers)
