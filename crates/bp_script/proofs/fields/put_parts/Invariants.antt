use Rattle.std.proofs.Common.{[], ◌∷◌, ◌+◌, ◌++◌, ◌==◌, ◌≡◌, ◌≤◌, flat_map, length, take, vec_capacity}
use Rattle.std.specs.List.{slice_split}
use Rattle.std.specs.Option.{option_map_or}
use Rattle.bp_script.specs.Commands.{part_bytes, path_bytes}
use Rattle.bp_script.proofs.fields.put_parts.Given as goal

abbrev pub invariant-loop-left : goal.invariant-loop-left
invariant-loop-left l = record {
  items : take l.end l.text.items ++ flat_map (λ part. 47 ∷ part_bytes part) (option_map_or (λ parts. slice_split (λ b. b == 47) parts.now) l.left []) ≡ take l.fn.at l.fn.text.items ++ path_bytes l.word;
  later : l.fn.at ≤ l.end;
  within : l.end ≤ length l.text.items;
  len : l.end + option_map_or (λ parts. length parts.now + 1) l.left 0 ≤ l.fn.at + length l.word;
  room : vec_capacity l.fn.text ≤ vec_capacity l.text;
}

abbrev pub decreases-loop-left : goal.decreases-loop-left
decreases-loop-left l = option_map_or (λ parts. length parts.now + 1) l.left 0
