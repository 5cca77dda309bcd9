-- How a second file gets the bytes of the first that it lacks.
use Rattle.std.specs.Prelude.{◌≡◌, ℕ, ◌*◌, ◌/◌, ◌<◌, ◌≤◌, Bool, true, List}
use Rattle.bp_limits.specs.Limits.{block_size, max_file_blocks}
use Rattle.bp_disk.specs.Calls.{Call}
use Rattle.bp_disk.specs.Disk.{Bytes, byte_of, IsHonest}
use Rattle.bp_disk.specs.Held.{state_of}
use Rattle.bp_disk.specs.declared.held_blocks.Held.{Held}
use Rattle.bp_disk.specs.declared.held_blocks.Held.TheVariants.{Same, Lacking, Written, Zeros}

-- The state of a block after what the second file lacks was copied to it.
abbrev pub completed : Held → Held
completed Same = Same
completed Lacking = Same
completed Written = Written
completed Zeros = Zeros

-- The second file has the bytes of the first, below `kept`, in each block that it lacked, up to a block. All its other
-- bytes stay.
pub record CompletesTo (end : ℕ) (blocks : List Held) (kept first second : ℕ) (was : Bytes) (old new : List Call) : Type 0 where
  pub lacking : (at : ℕ) → at < kept → at < block_size * end → state_of blocks (at / block_size) ≡ Lacking →
      byte_of was new second at ≡ byte_of was old first at
  pub others : (at : ℕ) → ¬ (state_of blocks (at / block_size) ≡ Lacking) →
      byte_of was new second at ≡ byte_of was old second at
  pub later : (at : ℕ) → block_size * end ≤ at → byte_of was new second at ≡ byte_of was old second at
  pub past : (at : ℕ) → kept ≤ at → byte_of was new second at ≡ byte_of was old second at

-- A file has zeros in each block that it lacks, below `kept`.
abbrev pub HasHoles : List Held → ℕ → ℕ → Bytes → List Call → Type 0
HasHoles blocks kept second was calls = (at : ℕ) → at < kept → at < block_size * max_file_blocks →
    state_of blocks (at / block_size) ≡ Lacking → byte_of was calls second at ≡ 0

-- The second file is completed up to a block, if each read returned the bytes that the file had. If it is to have holes,
-- it had zeros where it lacked bytes.
abbrev pub IsCompletedTo : ℕ → Bool → List Held → ℕ → ℕ → ℕ → List Call → List Call → Type 0
IsCompletedTo end has_holes blocks kept first second old new = (was : Bytes) → IsHonest was new → ¬ (first ≡ second)
    → (has_holes ≡ true → HasHoles blocks kept second was old)
    → CompletesTo end blocks kept first second was old new

-- The second file is completed.
abbrev pub IsCompleted : Bool → List Held → ℕ → ℕ → ℕ → List Call → List Call → Type 0
IsCompleted = IsCompletedTo max_file_blocks

-- The states of the blocks, up to one, after the second file was completed. The others are as before.
pub record CompletesStates (end : ℕ) (old new : List Held) : Type 0 where
  pub done : (i : ℕ) → i < end → state_of new i ≡ completed (state_of old i)
  pub later : (i : ℕ) → end ≤ i → state_of new i ≡ state_of old i
