-- Preconditions for bytes written into several files at once, and what they touch.
use Rattle.std.specs.Prelude.{◌≡◌, ℕ, ◌+◌, ◌≤◌, List, [], ◌∷◌, length, map, Bool}
use Rattle.bp_limits.specs.Limits.{max_pieces}
use Rattle.bp_limits.specs.CallLimits.{max_batch}
use Rattle.bp_layout.specs.Inode.{IsFile, size_of}
use Rattle.bp_layout.specs.Members.{Each}
use Rattle.bp_layout.specs.Need.{Change, Stretch}
use Rattle.bp_layout.specs.Need.Change.{overwrites}
use Rattle.bp_layout.specs.Reached.{IsReached}
use Rattle.bp_layout.specs.Thaw.{thawed}
use Rattle.bp_layout.specs.WellFormed.{IsWellFormed}
use Rattle.bp_layout.specs.Words.{Image}
use Rattle.bp_changes.specs.Overwrites.{Patch}
use Rattle.bp_changes.specs.Sets.{AreExact, in_snapshot_of}
use Rattle.bp_free.specs.Set.{Set}
use Rattle.bp_free.specs.declared.parts.Parts.{Parts}
use Rattle.bp_cow.specs.declared.touched.Run.{Run}
use Rattle.bp_calls.specs.declared.batches.Patch.{Patch as GivenPatch}
use Rattle.bp_calls.specs.Space.{HasRoomThawed}
use Rattle.bp_calls.specs.TouchedBelow.{IsRunFor}
use Rattle.pm_region.specs.Memory.{Memory, current_words}

-- A patch of the code as a patch of the definitions.
abbrev pub patch_seen : GivenPatch → Patch
patch_seen patch = record { inode = patch.inode; offset = patch.offset; bytes = patch.bytes.now }

abbrev pub patches_seen : List GivenPatch → List Patch
patches_seen patches = map patch_seen patches

-- The bytes that a patch changes, by their place only.
abbrev pub stretch_of : Patch → Stretch
stretch_of patch = record { inode = patch.inode; offset = patch.offset; len = length patch.bytes }

abbrev pub stretches_of : List Patch → List Stretch
stretches_of patches = map stretch_of patches

-- The change that a batch of patches makes.
abbrev pub batch_change : List GivenPatch → Change
batch_change patches = overwrites (stretches_of (patches_seen patches))

abbrev pub byte_count : List Patch → ℕ
byte_count [] = 0
byte_count (patch ∷ patches) = length patch.bytes + byte_count patches

-- The inode is a file, and the bytes end at or below its size.
pub record IsPatchIn (image : Image) (patch : Patch) : Type 0 where
  pub reached : IsReached image patch.inode
  pub is_file : IsFile image patch.inode
  pub within : patch.offset + length patch.bytes ≤ size_of image patch.inode

-- The patches lie in files, and there are at most `max_pieces`. Together they have at least one byte, and no more
-- bytes than one call may write.
pub record CanOverwrite (image : Image) (patches : List Patch) : Type 0 where
  pub few : length patches ≤ max_pieces
  pub each : Each (IsPatchIn image) patches
  pub some : 1 ≤ byte_count patches
  pub short : byte_count patches ≤ max_batch

-- `CanOverwrite`, in a well-formed image with exact sets and no block left to thaw. If enough blocks are free, the log
-- has room for the change.
pub record CanOverwriteThawed (in_snapshot : ℕ → Bool) (memory : Memory) (blocks inodes : Set) (patches : List Patch) : Type 0 where
  pub well_formed : IsWellFormed (current_words memory)
  pub exact : AreExact (current_words memory) in_snapshot blocks inodes
  pub can : CanOverwrite (current_words memory) patches
  pub clear : thawed (current_words memory) in_snapshot (overwrites (stretches_of patches)) ≡ []
  pub room : HasRoomThawed memory blocks (overwrites (stretches_of patches))

-- The same of the parts of a file system.
abbrev pub CanOverwriteThawedIn : {R : Type 0} → (R → Memory) → Parts R → List Patch → Type 0
CanOverwriteThawedIn memory parts patches =
    CanOverwriteThawed (in_snapshot_of parts) (memory parts.region) parts.free_blocks parts.free_inodes patches

-- The runs of those patches that have bytes, in their order.
pub data AreRuns (image : Image) : List Patch → List Run → Type 0 where
  none : AreRuns image [] []
  empty : {patch : Patch} {patches : List Patch} {runs : List Run} → length patch.bytes ≡ 0 →
      AreRuns image patches runs → AreRuns image (patch ∷ patches) runs
  more : {patch : Patch} {patches : List Patch} {run : Run} {runs : List Run} → 1 ≤ length patch.bytes →
      IsRunFor image patch.inode patch.offset patch.bytes run → AreRuns image patches runs →
      AreRuns image (patch ∷ patches) (run ∷ runs)
