-- The pieces of a batch as C passes them.
use Rattle.std.specs.List.{All}
use Rattle.std.specs.Prelude.{◌≤◌, ℕ, List, length, map}
use Rattle.bp_limits.specs.Limits.{max_pieces}
use Rattle.bp_plain.specs.Calls.{Call}
use Rattle.bp_plain.specs.Calls.Call.{batch}
use Rattle.bp_plain.specs.Seen.{LiesIn, piece_in}
use Rattle.bp_plain.specs.declared.calls.Piece.{Piece}
use Rattle.bpfs_c.specs.declared.batch.Patch.{Patch}

abbrev pub piece_of : Patch → Piece
piece_of patch = record {
  path = record { at = patch.path_at; len = patch.path_length };
  offset = patch.offset;
  bytes = record { at = patch.bytes_at; len = patch.bytes_length };
}

-- There are at most `max_pieces` pieces, and the path and the bytes of each lie in the text.
pub record AreFit (text : List ℕ) (patches : List Patch) : Type 0 where
  pub few : length patches ≤ max_pieces
  pub lie : All (LiesIn text) (map piece_of patches)

-- The batch that the pieces ask for.
abbrev pub patch_batch : List ℕ → List Patch → Call
patch_batch text patches = batch (map (piece_in text) (map piece_of patches))
