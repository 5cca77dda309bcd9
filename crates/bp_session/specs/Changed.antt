-- The blocks of a file that a save writes: the dirty ones.
use Rattle.std.specs.Prelude.{◌≡◌, ◌⊎◌, ℕ, ◌*◌, ◌/◌, ◌<◌, ◌≤◌, List, [], Bool, true, false, Some, None, ⊤, length, slice_index_or, take}
use Rattle.bp_limits.specs.Limits.{block_size, block_words, call_room}
use Rattle.bp_io.specs.Files.{block_bytes}
use Rattle.bp_io.specs.Views.{Known, View}
use Rattle.bp_layout.specs.Words.{Image, word}
use Rattle.bp_session.specs.declared.save.DirtyBlocks.{DirtyBlocks}
use Rattle.bp_plain.specs.Calls.{Call}
use Rattle.bp_plain.specs.Calls.Call.{upgrade_to_three}
use Rattle.pm_epochs.specs.Log.{stores}
use Rattle.pm_region.specs.Memory.{Memory, room_in, with_room}

-- Whether a block of a file is dirty. Each block past the list of flags counts as dirty.
abbrev pub is_dirty : List Bool → ℕ → Bool
is_dirty flags i = slice_index_or flags i true

-- Each block is dirty.
abbrev pub AreDirty : List Bool → Type 0
AreDirty flags = (i : ℕ) → is_dirty flags i ≡ true

-- None of the blocks in the list is dirty.
abbrev pub AreClean : List Bool → Type 0
AreClean flags = (i : ℕ) → i < length flags → is_dirty flags i ≡ false

-- The dirty blocks: those that may lack words of the last drain.
abbrev pub dirty_in : DirtyBlocks → List Bool
dirty_in dirty = take dirty.count dirty.flags

-- Both images have the same words in each block that is not dirty.
abbrev pub CoversChanges : List Bool → Image → Image → Type 0
CoversChanges flags old new =
    (place : ℕ) → place < length old → is_dirty flags (place / block_words) ≡ false → word new place ≡ word old place

-- A call drains no store first: the log has room for a call, or it has no store.
abbrev pub DrainsNone : Memory → Type 0
DrainsNone memory = (call_room ≤ room_in memory) ⊎ (stores memory.events ≡ [])

-- The flags after a call that may begin with a drain. Each block in which the drain changes a word of the last drain
-- is dirty, in addition to those before; if it drains no store, none is added.
pub record CoversDrain (memory : Memory) (before after : List Bool) : Type 0 where
  pub size : length after ≡ length before
  pub more : (i : ℕ) → is_dirty before i ≡ true → is_dirty after i ≡ true
  pub changes : CoversChanges after memory.base (with_room call_room memory).base
  pub none : DrainsNone memory → after ≡ before

-- The flags after an upgrade to version 3, which may drain several times: each block is dirty.
pub record CoversAll (before after : List Bool) : Type 0 where
  pub size : length after ≡ length before
  pub all : AreDirty after

-- The flags after a call.
abbrev pub CoversCall : Call → Memory → List Bool → List Bool → Type 0
CoversCall upgrade_to_three memory before after = CoversAll before after
CoversCall call memory before after = CoversDrain memory before after

-- A file's bytes are those of the first list, except that those of the first `count` blocks that are dirty are those
-- of the second list.
pub record IsChanged (flags : List Bool) (count : ℕ) (first second found : List ℕ) : Type 0 where
  pub size : length found ≡ length first
  pub dirtied : (i : ℕ) → i < count → block_size * i < length found → is_dirty flags i ≡ true →
      block_bytes found i ≡ block_bytes second i
  pub others : (i : ℕ) → block_size * i < length found → (count ≤ i) ⊎ (is_dirty flags i ≡ false) →
      block_bytes found i ≡ block_bytes first i

-- If its bytes are known, the file exists and is changed so.
abbrev pub HasChanged : Known → List Bool → ℕ → List ℕ → List ℕ → Type 0
HasChanged None flags count first second = ⊤
HasChanged (Some None) flags count first second = ⊥
HasChanged (Some (Some found)) flags count first second = IsChanged flags count first second found

-- The file of this name is attached, has this number of blocks, and is changed so.
pub record HoldsChanged (flags : List Bool) (files : View) (name first second : List ℕ) : Type 0 where
  pub attached : files.is_attached name ≡ true
  pub size : length first ≡ block_size * files.blocks
  pub has : HasChanged (files.contents name) flags files.blocks first second
