use Rattle.std.proofs.Common.{◌≡◌, ◌≤◌, ◌+◌, [], length, map, take, vec_capacity}
use Rattle.std.specs.List.{All}
use Rattle.std.specs.Option.{option_map_or}
use Rattle.bp_limits.specs.Limits.{max_pieces}
use Rattle.bp_plain.specs.Seen.{LiesIn, piece_in}
use Rattle.bp_script.specs.Lines.{words_at, words_len}
use Rattle.bp_script.proofs.BatchWords.{asks_on}
use Rattle.bp_script.proofs.batches.decode_pieces.Given as goal

abbrev pub invariant-loop-left : goal.invariant-loop-left
invariant-loop-left l = record {
  asks : asks_on (map (piece_in l.text.items) l.pieces.items) (option_map_or words_at l.left []) ≡ asks_on [] (words_at l.fn.first);
  whole : All (LiesIn (take l.end l.text.items)) l.pieces.items;
  within : l.end ≤ length l.text.items;
  some : 1 ≤ length l.pieces.items + option_map_or (λ words. 1) l.left 0;
  few : length l.pieces.items ≤ max_pieces;
  fits : l.end + option_map_or words_len l.left 0 ≤ words_len l.fn.first;
  room : vec_capacity l.fn.text ≤ vec_capacity l.text;
}

abbrev pub decreases-loop-left : goal.decreases-loop-left
decreases-loop-left l = option_map_or (λ words. length words.rest.now + 1) l.left 0
