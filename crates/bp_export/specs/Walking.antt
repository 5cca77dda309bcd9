-- A walk over the tree of an image: its place, and the paths that it remembers.
use Rattle.std.specs.Prelude.{◌≡◌, ◌<◌, ◌≤◌, ℕ, List, [], ◌∷◌, ◌++◌, length, map, take, find, flat_map, slice_index, All, Bool, OnOk, Option, Result, Some, option_map}
use Rattle.std.specs.FinMap.{get, entries}
use Rattle.bp_io.specs.Views.{SinkView}
use Rattle.bp_limits.specs.CallLimits.{max_path}
use Rattle.bp_layout.specs.Paths.{Name, Node, Path}
use Rattle.bp_layout.specs.Lookup.{are_one, file_at, lookup, node_of}
use Rattle.bp_layout.specs.Words.{Image}
use Rattle.bp_plain.specs.Export.{calls_at, entries_below, path_text}
use Rattle.bp_plain.specs.Plain.{listing}
use Rattle.bp_plain.specs.PlainTree.{PathMap}
use Rattle.bp_plain.specs.Stands.{Shows}
use Rattle.bp_script.specs.Export.{FitsText}
use Rattle.bp_export.specs.Firsts.{first_text}
use Rattle.bp_export.specs.Exports.{Goes}
use Rattle.bp_export.specs.declared.fault.Fault.{Fault}
use Rattle.bp_export.specs.declared.firsts.Firsts.{Firsts}

-- ---- parts of a tree

-- The names in a directory.
abbrev pub names_in : PathMap → Path → List Name
names_in tree path = map (λ entry. entry.1) (listing tree.nodes path)

-- The entries at and below some names of a directory, name by name.
abbrev pub entries_at : PathMap → Path → List Name → List (Path × Node)
entries_at tree path names = flat_map (λ name. entries_below tree (path ++ name ∷ [])) names

-- The entries below the directory at a path.
abbrev pub inside : PathMap → Path → List (Path × Node)
inside tree path = entries_at tree path (names_in tree path)

-- The entries at and below the first names of the directory at a path.
abbrev pub up_to : ℕ → PathMap → Path → List (Path × Node)
up_to count tree path = entries_at tree path (take count (names_in tree path))

-- The entry of a path itself, which finds inode i.
abbrev pub itself : Image → ℕ → PathMap → Path → List (Path × Node)
itself image i tree path = (path, node_of image i) ∷ []

-- ---- first paths

-- Whether a path finds file i.
abbrev pub finds_file : Image → ℕ → Path → Bool
finds_file image i path = are_one (Some i) (file_at image path)

-- The text of the first path among some entries that finds file i.
abbrev pub text_of_first : Image → ℕ → List (Path × Node) → Option (List ℕ)
text_of_first image i noted = option_map path_text (find (finds_file image i) (map (λ entry. entry.0) noted))

-- For each file with several links, the first path among the entries written so far is remembered, if there is one.
pub record RemembersFirsts (image : Image) (counts : List ℕ) (firsts : Firsts) (noted : List (Path × Node)) : Type 0 where
  pub each : (i : ℕ) → 1 < slice_index counts i → first_text firsts i ≡ text_of_first image i noted

-- ---- a walk

-- The tree is that of the image, and each call of its script can be written.
pub record CanExport (image : Image) (tree : PathMap) : Type 0 where
  pub shows : Shows image tree
  pub short : (path : Path) (node : Node) → get tree.nodes path ≡ Some node → length (path_text path) ≤ max_path
  pub fits : All FitsText (flat_map (calls_at tree) (entries tree.nodes))

-- A place in a walk over a tree: a path, the entries written before, and those that come after the next ones.
pub record Place : Type 0 where
  pub tree : PathMap
  pub path : Path
  pub noted : List (Path × Node)
  pub later : List (Path × Node)

-- A walk over the tree of the image is at the place: the path finds inode i and has this text, and its next entries
-- follow those written before.
pub record WalkStandsAt (image : Image) (counts : List ℕ) (next : PathMap → Path → List (Path × Node)) (i : ℕ)
    (text : List ℕ) (firsts : Firsts) (place : Place) : Type 0 where
  pub can : CanExport image place.tree
  pub found : lookup image place.path ≡ Some i
  pub spelled : text ≡ path_text place.path
  pub order : entries place.tree.nodes ≡ place.noted ++ (next place.tree place.path ++ place.later)
  pub remembers : RemembersFirsts image counts firsts place.noted

-- The next entries were written, as far as the result states. If all were, the first paths among them are remembered
-- too.
pub record Tours {T : Type 0} (image : Image) (counts : List ℕ) (next : PathMap → Path → List (Path × Node))
    (place : Place) (result : Result T Fault) (firsts : Firsts) (before after : List ℕ) (old new : SinkView) : Type 0 where
  pub goes : Goes (flat_map (calls_at place.tree) (next place.tree place.path)) result before after old new
  pub remembers : OnOk result (RemembersFirsts image counts firsts (place.noted ++ next place.tree place.path))
