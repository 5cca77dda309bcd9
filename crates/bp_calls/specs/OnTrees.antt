-- The effect of calls on the abstract tree, at each path that finds the directory or the file that they change.
use Rattle.std.specs.Prelude.{◌≡◌, ℕ, List, [], ◌∷◌, ◌++◌, Some}
use Rattle.bp_changes.specs.Overwrites.{OverwritesFiles, Patch}
use Rattle.bp_changes.specs.Thawed.{AfterThaw}
use Rattle.bp_layout.specs.Directory.{name_at}
use Rattle.bp_layout.specs.Paths.{Name, Path}
use Rattle.bp_layout.specs.Lookup.{lookup}
use Rattle.bp_layout.specs.Words.{Image}
use Rattle.bp_layout.specs.declared.fields.Kind.{Kind}
use Rattle.bp_layout.specs.declared.fields.Kind.TheVariants.{File, Dir}
use Rattle.bp_plain.specs.Calls.{Piece}
use Rattle.bp_plain.specs.Plain.{bytes_at, resized, with_content, with_dir, with_file, with_name, with_nothing, with_pieces, written}
use Rattle.bp_plain.specs.PlainTree.{PathMap}
use Rattle.bp_plain.specs.Stands.{Shows}
use Rattle.bp_stands.specs.Pieces.{ArePatches}

-- The tree with an empty file, or with an empty directory, at the path.
abbrev pub with_new : Kind → PathMap → Path → PathMap
with_new File map path = with_file map path
with_new Dir map path = with_dir map path

-- Directory `i` gains the name: at each path that finds the directory, the second image has an empty file or directory
-- of this name.
abbrev pub GainsName : ℕ → Name → Kind → Image → Image → Type 0
GainsName i name kind old new = (map : PathMap) (here : Path) → Shows old map → lookup old here ≡ Some i →
    Shows new (with_new kind map (here ++ name ∷ []))

-- File `j` gains the name as another link: at each path that finds the directory, the second image has the file under
-- this name, as one file with that at each of its other paths.
abbrev pub SharesName : ℕ → Name → ℕ → Image → Image → Type 0
SharesName i name j old new = (map : PathMap) (from here : Path) → Shows old map → lookup old from ≡ Some j →
    lookup old here ≡ Some i → Shows new (with_name map from (here ++ name ∷ []))

-- Directory `i` loses a name: at each path that finds it, the second image has nothing under the name that slot `s`
-- had.
abbrev pub LosesName : ℕ → ℕ → Image → Image → Type 0
LosesName i s old new = (map : PathMap) (here : Path) → Shows old map → lookup old here ≡ Some i →
    Shows new (with_nothing map (here ++ name_at old i s ∷ []))

-- At each path that finds file `i`, the second image has the file with this size at all its paths: its first bytes,
-- filled up with zeros.
abbrev pub GetsSize : ℕ → ℕ → Image → Image → Type 0
GetsSize i size old new = (map : PathMap) (here : Path) → Shows old map → lookup old here ≡ Some i →
    Shows new (with_content map here (resized (bytes_at map.nodes here) size))

-- At each path that finds file `i`, the second image has the file at all its paths with these bytes from an offset on,
-- after zeros if it ended before.
abbrev pub GetsBytes : ℕ → ℕ → List ℕ → Image → Image → Type 0
GetsBytes i offset bytes old new = (map : PathMap) (here : Path) → Shows old map → lookup old here ≡ Some i →
    Shows new (with_content map here (written (bytes_at map.nodes here) offset bytes))

-- The second image has the pieces of a batch, written one after the other into the files that their paths find.
abbrev pub GetsPieces : List Piece → Image → Image → Type 0
GetsPieces pieces old new = (map : PathMap) → Shows old map → Shows new (with_pieces map pieces)

-- The pieces are patches of the files that their paths find, and these patches are written over the files, after a
-- thaw.
pub record OverwritesPieces (pieces : List Piece) (old new : Image) : Type 0 where
  pub patches : List Patch
  pub are : ArePatches old pieces patches
  pub overwrites : AfterThaw (OverwritesFiles patches) old new
