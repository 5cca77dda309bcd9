-- A walk along names, from an inode on.
use Rattle.std.specs.Prelude.{◌≡◌, ◌↔◌, ℕ, [], ◌∷◌, ◌==◌, Option, None, Some, if◌then◌else◌}
use Rattle.bp_limits.specs.Limits.{directory_kind}
use Rattle.bp_layout.specs.Words.{Image}
use Rattle.bp_layout.specs.Inode.{kind_of}
use Rattle.bp_layout.specs.Directory.{lookup_in}
use Rattle.bp_layout.specs.Lookup.{lookup_from}
use Rattle.bp_layout.specs.Paths.{Path}

-- The result of a walk: the inode where it ends, or how its first failing name fails. `missing`: the directory does
-- not have it. `in_file`: it is searched for in a file.
pub data Walked : Type 0 where
  found : ℕ → Walked
  missing : Walked
  in_file : Walked

abbrev pub onward : (ℕ → Walked) → Option ℕ → Walked
onward walk None = missing
onward walk (Some i) = walk i

abbrev pub walk_from : Image → ℕ → Path → Walked
walk_from image i [] = found i
walk_from image i (name ∷ names) =
    if kind_of image i == directory_kind then onward (λ j. walk_from image j names) (lookup_in image i name)
    else in_file

-- The result of a walk that has to end in a directory.
abbrev pub in_directory : Image → Walked → Walked
in_directory image (found i) = if kind_of image i == directory_kind then found i else in_file
in_directory image missing = missing
in_directory image in_file = in_file

abbrev pub WalkIsLookup : Image → Type 0
WalkIsLookup image =
    (i j : ℕ) (names : Path) → (walk_from image i names ≡ found j) ↔ (lookup_from image i names ≡ Some j)
