-- The states of the blocks of a second file, and the runs of blocks in one state.
use Rattle.std.specs.Prelude.{◌≡◌, ◌⊎◌, ℕ, ◌<◌, ◌≤◌, List, length, slice_index, slice_index_or}
use Rattle.bp_limits.specs.Limits.{max_file_blocks}
use Rattle.bp_disk.specs.declared.held_blocks.Held.{Held}
use Rattle.bp_disk.specs.declared.held_blocks.Held.TheVariants.{Same, Lacking, Written, Zeros}
use Rattle.bp_disk.specs.declared.held_blocks.Run.{Run}

-- The state of a block. A block past those that are recorded counts as lacking.
abbrev pub state_of : List Held → ℕ → Held
state_of blocks i = slice_index_or blocks i Lacking

-- Each block lacks the bytes of the first file.
abbrev pub AllLack : List Held → Type 0
AllLack blocks = (i : ℕ) → state_of blocks i ≡ Lacking

-- The recorded blocks from one on, up to another one, get this state. All others keep theirs.
pub record Notes (first end : ℕ) (held : Held) (old new : List Held) : Type 0 where
  pub size : length new ≡ length old
  pub within : (i : ℕ) → i < length old → first ≤ i → i < end → state_of new i ≡ held
  pub before : (i : ℕ) → i < first → state_of new i ≡ state_of old i
  pub after : (i : ℕ) → end ≤ i → state_of new i ≡ state_of old i

-- The state of a block after the second file has taken the place of the first, which is the next second file. Both
-- have the same bytes in a block only if they had before; what was written went to one of them.
abbrev pub swapped : Held → Held
swapped Same = Same
swapped Lacking = Lacking
swapped Written = Lacking
swapped Zeros = Lacking

-- Each block has the state that follows from its old one when the files are swapped.
pub record Swaps (old new : List Held) : Type 0 where
  pub size : length new ≡ length old
  pub each : (i : ℕ) → state_of new i ≡ swapped (state_of old i)

-- None of the recorded blocks from one on, up to another one, has this state.
abbrev pub HasNone : List Held → ℕ → ℕ → Held → Type 0
HasNone blocks from end held = (i : ℕ) → from ≤ i → i < end → ¬ (state_of blocks i ≡ held)

-- All blocks from one on, up to another one, have this state.
abbrev pub HasOnly : List Held → ℕ → ℕ → Held → Type 0
HasOnly blocks from end held = (i : ℕ) → from ≤ i → i < end → state_of blocks i ≡ held

-- This is the first run of blocks in this state, from one on. It is as long as it can be.
pub record IsNextRun (blocks : List Held) (from : ℕ) (held : Held) (run : Run) : Type 0 where
  pub later : from ≤ run.first
  pub some : run.first < run.next
  pub recorded : run.next ≤ max_file_blocks
  pub skipped : HasNone blocks from run.first held
  pub each : HasOnly blocks run.first run.next held
  pub longest : (run.next ≡ max_file_blocks) ⊎ ¬ (state_of blocks run.next ≡ held)

-- A piece of a file has only zeros.
abbrev pub IsZeros : List ℕ → Type 0
IsZeros bytes = (i : ℕ) → i < length bytes → slice_index bytes i ≡ 0
