-- An image whose trees mean the same shows the same: each path finds the same inode in it, and it stands for the same plain
-- tree. So what a call makes of the plain tree is reported after a thaw as well as before it.
use Rattle.std.proofs.Common.{◌≡◌, ℕ, ◌+◌, ◌≤◌, List, length, Some, sym, ◌∙◌, subst}
use Rattle.bp_changes.specs.SameMeaning.{SameMeaning}
use Rattle.bp_changes.specs.Thawed.{SameShape}
use Rattle.bp_changes.specs.Overwrites.{Patch}
use Rattle.bp_changes.proofs.SameMeaning.{view-same, well_formed-same}
use Rattle.bp_layout.specs.Lookup.{lookup}
use Rattle.bp_layout.specs.Paths.{Path}
use Rattle.bp_layout.specs.Reached.{IsReached}
use Rattle.bp_layout.specs.Reached.IsReached.{root_directory}
use Rattle.bp_layout.specs.WellFormed.{IsWellFormed}
use Rattle.bp_layout.specs.Words.{Image}
use Rattle.bp_layout.proofs.View.{find_one-same, lookup_from-reached, lookup_from-same, shown-same}
use Rattle.bp_plain.specs.Calls.{Piece}
use Rattle.bp_plain.specs.PlainTree.{PathMap}
use Rattle.bp_plain.specs.Stands.{Shows}
use Rattle.bp_stands.specs.Pieces.{ArePatches, PieceFinds}
use Rattle.bp_stands.specs.Pieces.ArePatches.{none, more}

-- what a path finds is reached
pub found_reached : (image : Image) (path : Path) (i : ℕ) → lookup image path ≡ Some i → IsReached image i
found_reached image path i found = lookup_from-reached image 1 i path root_directory found

module _ (image after : Image) (wf : IsWellFormed image) (same : SameMeaning image after) where
  pub lookup_thawed : (path : Path) → lookup after path ≡ lookup image path
  lookup_thawed path = lookup_from-same image after (view-same image after wf same).directories 1 path root_directory

  pub found_thawed : (path : Path) (i : ℕ) → lookup image path ≡ Some i → lookup after path ≡ Some i
  found_thawed path i found = lookup_thawed path ∙ found

  pub shows_thawed : (map : PathMap) → Shows image map → Shows after map
  shows_thawed map shows = record {
    well_formed = well_formed-same image after wf same;
    shows = λ path. shows.shows path ∙ sym (shown-same image after (view-same image after wf same) path);
    one = λ p q. shows.one p q ∙ sym (find_one-same image after (view-same image after wf same).directories p q);
  }

-- ---- the pieces of a batch

module _ (image after : Image) (wf : IsWellFormed image) (shape : SameShape image after) where
  finds_thawed : (piece : Piece) (i : ℕ) → PieceFinds image piece i → PieceFinds after piece i
  finds_thawed piece i finds =
      let reached : IsReached image i = found_reached image finds.path i finds.inode in
      record {
        path = finds.path;
        parsed = finds.parsed;
        inode = found_thawed image after wf shape.meaning finds.path i finds.inode;
        is_file = shape.meaning.kind i reached ∙ finds.is_file;
        within = subst (λ size. piece.offset + length piece.bytes ≤ size) (sym (shape.sizes i reached)) finds.within;
      }

  pub patches_thawed : (pieces : List Piece) (patches : List Patch) → ArePatches image pieces patches → ArePatches after pieces patches
  patches_thawed _ _ none = none
  patches_thawed _ _ (more {piece} {pieces} {patches} {i} finds rest) = more (finds_thawed piece i finds) (patches_thawed pieces patches rest)
