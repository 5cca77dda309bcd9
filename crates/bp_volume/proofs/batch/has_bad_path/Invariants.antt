use Rattle.std.proofs.Common.{◌≡◌, drop, false, map}
use Rattle.std.specs.List.{list_any}
use Rattle.std.specs.Option.{is_none}
use Rattle.bp_layout.specs.Paths.{parse}
use Rattle.bp_plain.specs.Seen.{piece_in}
use Rattle.bp_volume.proofs.batch.has_bad_path.Given as goal

abbrev pub invariant-loop-piece : goal.invariant-loop-piece
invariant-loop-piece l = record {
  left : list_any (λ piece. is_none (parse piece.path)) (map (piece_in l.text) (drop l.piece-index l.pieces))
      ≡ list_any (λ piece. is_none (parse piece.path)) (map (piece_in l.text) l.pieces);
  good : is_none (parse l.good) ≡ false;
}
