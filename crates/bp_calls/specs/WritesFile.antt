-- A write of bytes into a file.
use Rattle.std.specs.Prelude.{◌≡◌, ℕ, ◌+◌, ◌<◌, nat_lt, max, if◌then◌else◌, List, length}
use Rattle.bp_layout.specs.Inode.{root_of, size_of}
use Rattle.bp_layout.specs.Tree.{byte}
use Rattle.bp_layout.specs.Words.{Image}
use Rattle.bp_changes.specs.Effects.{ChangesFile}
use Rattle.pm_words.specs.Overlay.{byte_over}

-- One byte of a file after bytes were written from an offset on, given its old size and its old bytes.
abbrev pub written_byte : ℕ → List ℕ → ℕ → (ℕ → ℕ) → ℕ → ℕ
written_byte offset bytes size old o = byte_over offset bytes o (if nat_lt o size then old o else 0)

-- File `i` reaches at least to the end of these bytes, and has them from the offset on. Its other bytes are the old
-- ones, or 0 past its old end. The image otherwise means the same.
pub record WritesFile (i offset : ℕ) (bytes : List ℕ) (old new : Image) : Type 0 where
  pub changes : ChangesFile old new i
  pub size : size_of new i ≡ max (size_of old i) (offset + length bytes)
  pub bytes_are : (o : ℕ) → o < size_of new i → byte new (root_of new i) o
      ≡ written_byte offset bytes (size_of old i) (byte old (root_of old i)) o
