-- What a write across the size of a file touches.
use Rattle.std.specs.Prelude.{◌≡◌, ℕ, ◌+◌, ◌-◌, ◌<◌, List, [], ◌∷◌, length, take, map, Bool}
use Rattle.arrayvec.specs.ArrayVec.{ArrayVec}
use Rattle.bp_cow.specs.Touched.{word_paths, word_values}
use Rattle.bp_cow.specs.declared.touched.Run.{Run}
use Rattle.bp_cow.specs.declared.touched.Touched.{Touched}
use Rattle.bp_free.specs.Set.{Set}
use Rattle.bp_free.specs.declared.parts.Parts.{Parts}
use Rattle.bp_layout.specs.Inode.{root_of, size_of}
use Rattle.bp_layout.specs.Need.{Change}
use Rattle.bp_layout.specs.Need.Change.{writes}
use Rattle.bp_layout.specs.Nodes.{height_with}
use Rattle.bp_layout.specs.WordPaths.{inode_path}
use Rattle.bp_layout.specs.Words.{Image, height_of}
use Rattle.bp_limits.specs.Limits.{root_field, size_field}
use Rattle.bp_changes.specs.Sets.{in_snapshot_of}
use Rattle.bp_calls.specs.CanWrite.{CanWriteInto}
use Rattle.bp_calls.specs.declared.writes.across.Plan.{Plan}
use Rattle.pm_region.specs.Memory.{Memory, current_words}

-- The only word is that of the size of inode `i`, with its new value `end`.
pub record IsSizeWord (image : Image) (i end : ℕ) (words : List (ArrayVec ℕ × ℕ)) : Type 0 where
  pub path : map (λ word. word.0.items) words ≡ inode_path (height_of (root_of image 0)) i size_field ∷ []
  pub value : map (λ word. word.1) words ≡ end ∷ []

-- The run of these bytes from an offset on, in the tree of inode `i` once it is high enough for `end`.
pub record IsRunAcross (image : Image) (i offset end : ℕ) (bytes : List ℕ) (run : Run) : Type 0 where
  pub root : run.root.items ≡ inode_path (height_of (root_of image 0)) i root_field
  pub height : run.height ≡ height_with (root_of image i) (size_of image i) end
  pub size : run.size ≡ end
  pub from : run.offset ≡ offset
  pub bytes_are : run.bytes.now ≡ bytes

-- The write touches this run, and the word of the inode's size, which becomes `end`.
pub record TouchesAcross (image : Image) (i offset end : ℕ) (bytes : List ℕ) (touched : Touched) : Type 0 where
  pub run : Run
  pub one : touched.runs.now ≡ run ∷ []
  pub is : IsRunAcross image i offset end bytes run
  pub sized : word_paths touched ≡ inode_path (height_of (root_of image 0)) i size_field ∷ []
  pub value : word_values touched ≡ end ∷ []
  pub no_trees : touched.trees.now ≡ []

-- Bytes that begin below the size of a file and end past it, and what the write touches: the bytes below the size, and
-- the word of the size.
pub record WritesAcross (in_snapshot : ℕ → Bool) (memory : Memory) (blocks inodes : Set) (i offset : ℕ) (bytes : List ℕ)
    (touched : Touched) : Type 0 where
  pub into : CanWriteInto in_snapshot (current_words memory) blocks inodes i offset bytes
  pub below : offset < size_of (current_words memory) i
  pub past : size_of (current_words memory) i < offset + length bytes
  pub touches : TouchesAcross (current_words memory) i offset (offset + length bytes)
      (take (size_of (current_words memory) i - offset) bytes) touched

-- The plan of a write of these bytes into inode `i`: the file's tree, the word of its size, and the run of the bytes
-- below the size.
pub record IsPlanFor (image : Image) (i offset : ℕ) (bytes : List ℕ) (plan : Plan) : Type 0 where
  pub inode : plan.inode ≡ i
  pub from : plan.offset ≡ offset
  pub bytes_are : plan.bytes.now ≡ bytes
  pub root : plan.tree.root ≡ root_of image i
  pub size : plan.tree.size ≡ size_of image i
  pub sized : IsSizeWord image i (offset + length bytes) (plan.sized ∷ [])
  pub run : IsRunAcross image i offset (offset + length bytes) (take (size_of image i - offset) bytes) plan.run

-- ---- as determined by the plan

abbrev pub planned_change : Plan → Change
planned_change plan = writes plan.inode plan.offset (length plan.bytes.now)

-- The planned bytes begin below the size and end past it, and the write touches this.
abbrev pub WritesPlanned : {R : Type 0} → (R → Memory) → Parts R → Plan → Touched → Type 0
WritesPlanned memory parts plan touched =
    WritesAcross (in_snapshot_of parts) (memory parts.region) parts.free_blocks parts.free_inodes plan.inode plan.offset plan.bytes.now touched
