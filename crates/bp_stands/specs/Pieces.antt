-- The pieces of a batch by the inodes of their files.
use Rattle.std.specs.Prelude.{◌≡◌, ℕ, ◌+◌, ◌≤◌, List, [], ◌∷◌, length, Some}
use Rattle.bp_layout.specs.Inode.{IsFile, size_of}
use Rattle.bp_layout.specs.Lookup.{lookup}
use Rattle.bp_layout.specs.Paths.{Path, parse}
use Rattle.bp_layout.specs.Words.{Image}
use Rattle.bp_changes.specs.Overwrites.{Patch}
use Rattle.bp_plain.specs.Calls.{Piece}

-- the bytes of a piece as a patch of its file
abbrev pub patch_of : Piece → ℕ → Patch
patch_of piece i = record { inode = i; offset = piece.offset; bytes = piece.bytes }

-- the piece's path leads to this file, and its bytes end within the file's size
pub record PieceFinds (image : Image) (piece : Piece) (i : ℕ) : Type 0 where
  pub path : Path
  pub parsed : parse piece.path ≡ Some path
  pub inode : lookup image path ≡ Some i
  pub is_file : IsFile image i
  pub within : piece.offset + length piece.bytes ≤ size_of image i

-- each piece with its file
pub data ArePatches (image : Image) : List Piece → List Patch → Type 0 where
  none : ArePatches image [] []
  more : {piece : Piece} {pieces : List Piece} {patches : List Patch} {i : ℕ} → PieceFinds image piece i →
      ArePatches image pieces patches →
      ArePatches image (piece ∷ pieces) (patch_of piece i ∷ patches)
