use Rattle.std.proofs.Common.{◌≡◌, ◌*◌, ◌<◌, ◌≤◌, take, drop, None}
use Rattle.std.specs.Result.{result_ok}
use Rattle.hex.specs.Hex.{decode_pairs}
use Rattle.hex.proofs.Pairs.{prepend}
use Rattle.bp_script.proofs.digits.decode_pairs.Given as goal

abbrev pub invariant-loop-i : goal.invariant-loop-i
invariant-loop-i l = record {
  digits : l.most < 16 → decode_pairs 0 l.digits ≡ prepend (take l.i l.into) (decode_pairs (2 * l.i) (drop (2 * l.i) l.digits));
  foreign : 16 ≤ l.most → result_ok (decode_pairs 0 l.digits) ≡ None;
}
