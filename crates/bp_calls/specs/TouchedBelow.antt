-- What a write below the size of a file touches.
use Rattle.std.specs.Prelude.{◌≡◌, ℕ, ◌+◌, ◌<◌, ◌≤◌, List, [], ◌∷◌, length, slice_index, Bool}
use Rattle.bp_cow.specs.declared.touched.Run.{Run}
use Rattle.bp_cow.specs.declared.touched.Touched.{Touched}
use Rattle.bp_free.specs.Set.{Set}
use Rattle.bp_layout.specs.Inode.{root_of, size_of}
use Rattle.bp_layout.specs.WordPaths.{inode_path}
use Rattle.bp_layout.specs.Words.{Image, height_of}
use Rattle.bp_limits.specs.Limits.{root_field}
use Rattle.bp_calls.specs.CanWrite.{CanWriteInto}
use Rattle.pm_region.specs.Memory.{Memory, current_words}

-- The run of these bytes from an offset on, in the tree of inode `i`.
pub record IsRunFor (image : Image) (i offset : ℕ) (bytes : List ℕ) (run : Run) : Type 0 where
  pub root : run.root.items ≡ inode_path (height_of (root_of image 0)) i root_field
  pub height : run.height ≡ height_of (root_of image i)
  pub size : run.size ≡ size_of image i
  pub from : run.offset ≡ offset
  pub bytes_are : run.bytes.now ≡ bytes
  -- Each byte is less than 256.
  pub small : (k : ℕ) → slice_index run.bytes.now k < 256

-- The write touches this run, and no other word.
pub record TouchesBelow (image : Image) (i offset : ℕ) (bytes : List ℕ) (touched : Touched) : Type 0 where
  pub run : Run
  pub one : touched.runs.now ≡ run ∷ []
  pub no_words : touched.words.now ≡ []
  pub no_trees : touched.trees.now ≡ []
  pub is : IsRunFor image i offset bytes run

-- Bytes that end at or below the size of a file, and what the write touches.
pub record WritesBelow (in_snapshot : ℕ → Bool) (memory : Memory) (blocks inodes : Set) (i offset : ℕ)
    (bytes : List ℕ) (touched : Touched) : Type 0 where
  pub into : CanWriteInto in_snapshot (current_words memory) blocks inodes i offset bytes
  pub below : offset + length bytes ≤ size_of (current_words memory) i
  pub touches : TouchesBelow (current_words memory) i offset bytes touched
