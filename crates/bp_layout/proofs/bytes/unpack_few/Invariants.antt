use Rattle.std.proofs.Common.{◌≡◌, ◌≤◌, ◌*◌, length, take}
use Rattle.bp_layout.specs.Bytes.{stored_bytes}
use Rattle.bp_layout.proofs.bytes.unpack_few.Given as goal

abbrev pub invariant-loop-i : goal.invariant-loop-i
invariant-loop-i l = record {
  within : 8 * l.i ≤ length l.into;
  bytes : take (8 * l.i) l.into ≡ stored_bytes l.words 0 (8 * l.i);
}
