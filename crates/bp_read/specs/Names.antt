-- The entries of a directory that name an inode.
use Rattle.std.specs.Prelude.{ℕ, not, ◌==◌, length, filter}
use Rattle.bp_layout.specs.Words.{Image}
use Rattle.bp_layout.specs.Directory.{ino_in, slots}

-- the number of entries that name an inode
abbrev pub name_count : Image → ℕ → ℕ → ℕ
name_count image root size = length (filter (λ slot. not (ino_in image root slot == 0)) (slots size))
