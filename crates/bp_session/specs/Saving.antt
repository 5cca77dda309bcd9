-- The effect of a save on the attached file.
use Rattle.std.specs.Prelude.{◌≡◌, ◌≤◌, ◌*◌, ℕ, List, [], Bool, length}
use Rattle.bp_io.specs.Files.{KeepsFiles}
use Rattle.bp_io.specs.Views.{View}
use Rattle.bp_layout.specs.Bytes.{image_bytes}
use Rattle.bp_layout.specs.Words.{Image}
use Rattle.bp_limits.specs.Limits.{block_words}
use Rattle.bp_session.specs.Changed.{AreClean, HoldsChanged}
use Rattle.bp_session.specs.Files.{HasBlocksOf, Holds, HoldsAs, HoldsBytes, HoldsPartly}
use Rattle.pm_epochs.specs.Log.{stores}
use Rattle.pm_region.specs.Memory.{Memory, current_words}

-- Whatever bytes the file held, its dirty blocks are those of these words, and all others are unchanged.
abbrev pub SavesDirty : List Bool → Image → View → View → Type 0
SavesDirty flags words old new =
    (name was : List ℕ) → HoldsBytes old name was → HoldsChanged flags new name was (image_bytes words)

-- Whatever bytes the file held, each of its blocks is unchanged, or that of these words.
abbrev pub SavesPartly : Image → View → View → Type 0
SavesPartly words old new =
    (name was : List ℕ) → HoldsBytes old name was → HasBlocksOf (new.contents name) was (image_bytes words)

-- Whatever words the file held, with those of the last drain in each block that is not dirty, it holds the current
-- words.
abbrev pub SavesWords : List Bool → Memory → View → View → Type 0
SavesWords dirty memory old new =
    (name : List ℕ) (was : Image) → HoldsAs dirty old memory.base name was → Holds new name (current_words memory)

-- Whatever words the file held, each of its blocks is that of those words or of the current ones.
abbrev pub SavesWordsPartly : Image → View → View → Type 0
SavesWordsPartly words old new = (name : List ℕ) (was : Image) → Holds old name was → HoldsPartly new name was words

-- If the flags cover every block, none is dirty and the log has no store, no file changes.
abbrev pub KeepsClean : List Bool → Memory → View → View → Type 0
KeepsClean dirty memory old new =
    AreClean dirty → length memory.base ≤ block_words * length dirty → stores memory.events ≡ [] → KeepsFiles old new
