use Rattle.std.proofs.Common.{◌≡◌, ◌*◌, take}
use Rattle.bp_layout.specs.Bytes.{stored_bytes}
use Rattle.bp_layout.proofs.bytes.unpack.Given as goal

abbrev pub invariant-loop-line : goal.invariant-loop-line
invariant-loop-line l = take (64 * l.line) l.into ≡ stored_bytes l.words 0 (64 * l.line)
