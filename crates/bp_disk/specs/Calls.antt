-- The calls to the system that change the bytes of a file, or what a name leads to, or what is durable.
use Rattle.std.specs.Prelude.{ℕ, ◌==◌, List, slice_index, nat_abs, if◌then◌else◌}
use Rattle.std.specs.declared.fs.File.{File}
use Rattle.std.specs.Fd.{file_raw_fd}

-- The number of an open file. No two files that are open at one time have the same number.
abbrev pub number_of : File → ℕ
number_of file = nat_abs (file_raw_fd file)

-- A call and its result. A file is given by its number. The names are that of the attached file (FILE), that of the
-- second file, and the old name, which FILE's file has while the second file takes its name.
pub data Call : Type 0 where
  -- FILE led to this file when it was attached.
  attached : ℕ → Call
  -- These bytes were read from a file, from a byte on.
  read : ℕ → ℕ → List ℕ → Call
  -- These bytes were written to a file, from a byte on.
  written : ℕ → ℕ → List ℕ → Call
  -- A write of these bytes to a file failed. A part of them may have been written.
  partly_written : ℕ → ℕ → List ℕ → Call
  -- A file got this length: it was truncated, or padded with zeros.
  resized : ℕ → ℕ → Call
  -- A change of a file's length failed.
  not_resized : ℕ → ℕ → Call
  -- What was written to a file was made durable.
  flushed : ℕ → Call
  -- A flush of a file failed. What was written to it may be lost.
  not_flushed : ℕ → Call
  -- An empty file of this number was made under the second name, which led to nothing.
  made : ℕ → Call
  -- The second name was seen to lead to this file.
  seen_second : ℕ → Call
  -- FILE's file got the old name, too.
  linked_old : Call
  -- FILE leads to the file that the second name led to. The second name leads to nothing.
  renamed_second : Call
  -- The second name leads to the file that the old name led to. The old name leads to nothing.
  renamed_old : Call
  -- The second name leads to nothing.
  removed_second : Call
  -- The old name leads to nothing.
  removed_old : Call
  -- What the names lead to was made durable.
  flushed_names : Call
  -- The file system cannot make durable what a name leads to.
  unflushable_names : Call

-- The call that is noted by its kind and numbers, and the bytes that it moved.
abbrev pub call_of : List ℕ → List ℕ → Call
call_of numbers bytes = let kind = slice_index numbers 0 in let file = slice_index numbers 1 in
    if kind == 0 then attached file else
    if kind == 1 then read file (slice_index numbers 2) bytes else
    if kind == 2 then written file (slice_index numbers 2) bytes else
    if kind == 3 then partly_written file (slice_index numbers 2) bytes else
    if kind == 4 then resized file (slice_index numbers 2) else
    if kind == 5 then not_resized file (slice_index numbers 2) else
    if kind == 6 then flushed file else
    if kind == 7 then not_flushed file else
    if kind == 8 then made file else
    if kind == 9 then seen_second file else
    if kind == 10 then linked_old else
    if kind == 11 then renamed_second else
    if kind == 12 then renamed_old else
    if kind == 13 then removed_second else
    if kind == 14 then removed_old else
    if kind == 15 then flushed_names else unflushable_names
