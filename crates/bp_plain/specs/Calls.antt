-- The calls of a file system, their refusals and their answers.
use Rattle.std.specs.Prelude.{ℕ, List}
use Rattle.bp_layout.specs.declared.fields.Kind.{Kind}
use Rattle.bp_layout.specs.Paths.{Name}

-- one write of a batch: the path of the file, the offset in bytes, and the bytes to write
pub record Piece : Type 0 where
  pub path : List ℕ
  pub offset : ℕ
  pub bytes : List ℕ

pub data Call : Type 0 where
  create : List ℕ → Call
  mkdir : List ℕ → Call
  unlink : List ℕ → Call
  rmdir : List ℕ → Call
  list : List ℕ → Call
  stat : List ℕ → Call
  -- a path and an offset; then a length (of a read) or the bytes (of a write)
  read : List ℕ → ℕ → ℕ → Call
  write : List ℕ → ℕ → List ℕ → Call
  truncate : List ℕ → ℕ → Call
  rename : List ℕ → List ℕ → Call
  -- an existing path of a file, and the new path
  link : List ℕ → List ℕ → Call
  links : List ℕ → Call
  -- to version 2 of the format, and to version 3
  upgrade : Call
  upgrade_to_three : Call
  snap : Call
  unsnap : Call
  -- the same calls on the snapshot
  snap_list : List ℕ → Call
  snap_stat : List ℕ → Call
  snap_read : List ℕ → ℕ → ℕ → Call
  batch : List Piece → Call
  -- a path and the number of an attribute; then the value to set
  attribute : List ℕ → ℕ → Call
  set_attribute : List ℕ → ℕ → ℕ → Call

pub data Refusal : Type 0 where
  bad_path : Refusal
  not_found : Refusal
  not_dir : Refusal
  is_dir : Refusal
  exists : Refusal
  not_empty : Refusal
  into_self : Refusal
  is_root : Refusal
  too_long : Refusal
  too_big : Refusal
  -- the number of blocks that the call needs, and the number of free blocks
  no_space : ℕ → ℕ → Refusal
  no_memory : Refusal
  no_snap : Refusal
  has_snap : Refusal
  old_version : Refusal
  past_end : Refusal

pub data Answer : Type 0 where
  done : Answer
  bytes : List ℕ → Answer
  file_of : ℕ → Answer
  dir_of : ℕ → Answer
  names : List (Kind × Name) → Answer
  links_of : ℕ → Answer
  attribute_of : ℕ → Answer
  refused : Refusal → Answer
