use Rattle.std.proofs.Common.{◌≡◌, ◌*◌, take}
use Rattle.bp_layout.specs.Bytes.{stored_bytes}
use Rattle.bp_layout.proofs.bytes.unpack_line.Given as goal

abbrev pub invariant-loop-i : goal.invariant-loop-i
invariant-loop-i l = take (8 * l.i) l.into ≡ stored_bytes l.words 0 (8 * l.i)
