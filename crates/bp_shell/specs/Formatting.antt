-- The effect of a format on a file.
use Rattle.std.specs.Prelude.{◌≡◌, ◌⊎◌, ℕ, ◌*◌, List, [], replicate, Option, None, Some, true, false}
use Rattle.bp_limits.specs.Limits.{block_words}
use Rattle.bp_limits.specs.declared.version.Version.{Version}
use Rattle.bp_io.specs.Files.{IsPartlyReplaced, Stays, StaysAttached}
use Rattle.bp_io.specs.Views.{Known, View}
use Rattle.bp_layout.specs.Words.{Image}
use Rattle.bp_layout.specs.Format.{formatted}

-- The image of a format of a version over zeros.
abbrev pub new_image : Version → ℕ → Image
new_image version blocks = formatted (replicate (block_words * blocks) 0) version blocks

-- The bytes of a file; none if there is no file.
abbrev pub bytes_there : Option (List ℕ) → List ℕ
bytes_there None = []
bytes_there (Some bytes) = bytes

-- A file whose contents are known is partly replaced: its contents are known before and after, or neither. A file
-- that did not exist may still not exist, or was created.
abbrev pub HasPartly : Known → List ℕ → Known → Type 0
HasPartly None wanted now = now ≡ None
HasPartly (Some was) wanted None = ⊥
HasPartly (Some was) wanted (Some None) = was ≡ None
HasPartly (Some was) wanted (Some (Some found)) = IsPartlyReplaced (bytes_there was) wanted found

-- The file of this name is partly replaced.
abbrev pub LeavesPartly : List ℕ → List ℕ → View → View → Type 0
LeavesPartly name wanted old new = HasPartly (old.contents name) wanted (new.contents name)

-- ---- the other files

-- The known contents of a name stay the same, except that an empty file may have been created where none was.
abbrev pub StaysOrIsGiven : Known → Known → Type 0
StaysOrIsGiven old new = Stays old new ⊎ ((old ≡ Some None) × (new ≡ Some (Some [])))

-- What a format leaves of the files: FILE is attached, and no other file changes; or the files attached before still
-- are, and none changes. Together with FILE, another name that had no file may get an empty one.
abbrev pub OnlyMakes : List ℕ → View → View → Type 0
OnlyMakes name old new =
    (new.is_attached name ≡ true) × ((other : List ℕ) → new.is_attached other ≡ false
    → StaysOrIsGiven (old.contents other) (new.contents other))
    ⊎ StaysAttached old new × ((other : List ℕ) → StaysOrIsGiven (old.contents other) (new.contents other))
