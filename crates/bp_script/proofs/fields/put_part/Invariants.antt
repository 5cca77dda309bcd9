use Rattle.std.proofs.Common.{map, length, take, vec_capacity, ◌+◌, ◌++◌, ◌≡◌, ◌≤◌}
use Rattle.percent_encoding.specs.Iter.{decoded_bytes}
use Rattle.bp_script.specs.Commands.{part_bytes, unslashed}
use Rattle.bp_script.proofs.fields.put_part.Given as goal

abbrev pub invariant-loop-byte : goal.invariant-loop-byte
invariant-loop-byte l = record {
  items : take l.end l.text.items ++ map unslashed (decoded_bytes l.byte-iterator) ≡ take l.fn.at l.fn.text.items ++ part_bytes l.fn.part;
  later : l.fn.at ≤ l.end;
  within : l.end ≤ length l.text.items;
  len : l.end + length (decoded_bytes l.byte-iterator) ≤ l.fn.at + length l.fn.part;
  room : vec_capacity l.fn.text ≤ vec_capacity l.text;
}
