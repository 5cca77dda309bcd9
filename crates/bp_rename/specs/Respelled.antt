-- The words of an entry after its inode number, for a new name.
use Rattle.std.specs.Prelude.{◌≡◌, ℕ, ◌+◌, ◌-◌, ◌*◌, ◌/◌, ◌<◌, List, [], ◌∷◌, length, nat_lt, slice_index, if◌then◌else◌}
use Rattle.bp_cow.specs.declared.touched.Run.{Run}
use Rattle.bp_cow.specs.declared.touched.Touched.{Touched}
use Rattle.bp_layout.specs.Paths.{Name}
use Rattle.bp_layout.specs.Inode.{root_of, size_of}
use Rattle.bp_layout.specs.WordPaths.{inode_path}
use Rattle.bp_layout.specs.Words.{Image, byte_of, height_of}
use Rattle.bp_limits.specs.Limits.{entry_size, root_field}
use Rattle.bp_limits.specs.CallLimits.{max_name}

-- A byte of an entry after its inode number: eight bytes of the name's length, least significant first, and then the
-- name, followed by zeros.
abbrev pub respelled_byte : Name → ℕ → ℕ
respelled_byte name at = if nat_lt at 8 then byte_of (length name) at else slice_index name (at - 8)

abbrev pub IsRespelled : Name → List ℕ → Type 0
IsRespelled name bytes = (at : ℕ) → at < max_name + 8 → slice_index bytes at ≡ respelled_byte name at

-- The number of bytes of an entry after its inode number that a new name changes: those of the length, and those of
-- the name up to the end of its last word.
abbrev pub respelled_length : Name → ℕ
respelled_length name = 8 + 8 * ((length name + 7) / 8)

-- The run of the bytes that a new name changes in an entry.
pub record IsNameRun (image : Image) (i slot : ℕ) (name : Name) (run : Run) : Type 0 where
  pub root : run.root.items ≡ inode_path (height_of (root_of image 0)) i root_field
  pub height : run.height ≡ height_of (root_of image i)
  pub size : run.size ≡ size_of image i
  pub from : run.offset ≡ entry_size * slot + 8
  pub count : length run.bytes.now ≡ respelled_length name
  pub bytes_are : (at : ℕ) → at < respelled_length name → slice_index run.bytes.now at ≡ respelled_byte name at
  pub small : (at : ℕ) → slice_index run.bytes.now at < 256

-- The rename touches this run, and no other word.
pub record TouchesName (image : Image) (i slot : ℕ) (name : Name) (touched : Touched) : Type 0 where
  pub run : Run
  pub one : touched.runs.now ≡ run ∷ []
  pub no_words : touched.words.now ≡ []
  pub no_trees : touched.trees.now ≡ []
  pub is : IsNameRun image i slot name run
