-- Thaw (copy-on-write for the snapshot): the blocks of the snapshot on the ways to some words are copied, and the
-- pointers to them are set to the copies.
use Rattle.std.specs.Prelude.{◌≡◌, ◌⊎◌, ℕ, ◌+◌, ◌*◌, ◌≤◌, List, [], map, length, Bool, true}
use Rattle.arrayvec.specs.ArrayVec.{ArrayVec}
use Rattle.bp_changes.specs.Thawed.{SameShape}
use Rattle.bp_free.specs.Set.{Set, has, members}
use Rattle.bp_free.specs.declared.parts.Parts.{Parts}
use Rattle.bp_layout.specs.Free.{AreFreeBlocks}
use Rattle.bp_layout.specs.Members.{Each, Has}
use Rattle.bp_layout.specs.Reached.{IsLiveBlock}
use Rattle.bp_layout.specs.WellFormed.{IsWellFormed}
use Rattle.bp_layout.specs.WordPaths.{WordPath}
use Rattle.bp_limits.specs.Limits.{block_words}
use Rattle.bp_layout.specs.Thaw.{thawed_on}
use Rattle.bp_thaw.specs.Prefixes.{IsWayIn}
use Rattle.bp_changes.specs.Performs.{AddsTaking}
use Rattle.pm_region.specs.Memory.{Memory, current_words, room_in}

abbrev pub paths_in : ArrayVec (ArrayVec ℕ) → List WordPath
paths_in targets = map (λ path. path.items) targets.items

-- The condition of a thaw. The image is well formed, and the paths are those of its pointers and words. The set has
-- exactly its free blocks, enough of them for the copies, and the log has room.
pub record CanThaw (in_snapshot : ℕ → Bool) (paths : List WordPath) (memory : Memory) (blocks : Set) : Type 0 where
  pub well_formed : IsWellFormed (current_words memory)
  pub ways : (path : WordPath) → Has paths path → IsWayIn (current_words memory) path
  pub free : AreFreeBlocks (current_words memory) in_snapshot (has blocks)
  pub enough : length (thawed_on (current_words memory) in_snapshot paths) ≤ length (members blocks)
  pub room : (block_words + 1) * length (thawed_on (current_words memory) in_snapshot paths) + 2 ≤ room_in memory

-- The effect of a thaw. At each crash point the meaning of the image is unchanged, and the trees keep their shape. No
-- pointer on these ways leads to a block of the snapshot afterwards. Each block that is live afterwards was live before
-- or is one of the taken blocks; each block that was live and no longer is, is in the snapshot.
pub record Thaws (in_snapshot : ℕ → Bool) (paths : List WordPath) (old new : Memory) (blocks after : Set) : Type 0 where
  pub taken : List ℕ
  pub adds : AddsTaking in_snapshot taken 2 ((block_words + 1) * length taken) old new
  pub number : length taken ≡ length (thawed_on (current_words old) in_snapshot paths)
  pub from : Each (λ b. has blocks b ≡ true) taken
  pub shape : SameShape (current_words old) (current_words new)
  pub clear : thawed_on (current_words new) in_snapshot paths ≡ []
  pub live : (b : ℕ) → IsLiveBlock (current_words new) b → IsLiveBlock (current_words old) b ⊎ Has taken b
  pub used : (b : ℕ) → Has taken b → IsLiveBlock (current_words new) b
  pub stay : (b : ℕ) → IsLiveBlock (current_words old) b → IsLiveBlock (current_words new) b ⊎ (in_snapshot b ≡ true)
  pub free : AreFreeBlocks (current_words new) in_snapshot (has after)

-- The effect of a thaw of these paths on the parts of a file system.
abbrev pub ThawsIn : {R : Type 0} → (R → Memory) → List WordPath → Parts R → Parts R → Type 0
ThawsIn memory paths old new =
    Thaws (has old.snapshot_blocks) paths (memory old.region) (memory new.region) old.free_blocks new.free_blocks
