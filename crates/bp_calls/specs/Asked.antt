-- What the calls that change nothing return for an inode.
use Rattle.std.specs.Prelude.{ℕ, List, ◌==◌, Option, None, Some, if◌then◌else◌}
use Rattle.std.specs.List.{filter_map, range_with_len}
use Rattle.std.specs.List.Sorted.{IsPermutation, IsSortedBy}
use Rattle.bp_read.specs.Names.{name_count}
use Rattle.bp_limits.specs.Limits.{file_kind}
use Rattle.bp_layout.specs.Listing.{comes_before}
use Rattle.bp_layout.specs.Words.{Image}
use Rattle.bp_layout.specs.Tree.{content}
use Rattle.bp_layout.specs.Inode.{kind_of, root_of, size_of}
use Rattle.bp_layout.specs.Directory.{entry_count, ino_at, name_at}
use Rattle.bp_layout.specs.Paths.{Name}
use Rattle.bp_layout.specs.declared.fields.Kind.{Kind}
use Rattle.bp_layout.specs.declared.fields.Kind.TheVariants.{File, Dir}
use Rattle.bp_layout.specs.declared.fields.Stat.{Stat}
use Rattle.bp_layout.specs.declared.fields.Stat.TheVariants as stat

-- The bytes of a file.
abbrev pub bytes_of : Image → ℕ → List ℕ
bytes_of image i = content image (root_of image i) (size_of image i)

-- A file's size in bytes, or the number of names of a directory.
abbrev pub stat_of : Image → ℕ → Stat
stat_of image i = if kind_of image i == file_kind then stat.File (size_of image i)
    else stat.Dir (name_count image (root_of image i) (size_of image i))

-- ---- the entries of a directory that refer to an inode

-- The kind of an inode, from its kind word.
abbrev pub kind_seen : ℕ → Kind
kind_seen word = if word == 1 then File else Dir

-- The kind and the name of an entry of directory `i`; none if the entry is empty.
abbrev pub entry_seen : Image → ℕ → ℕ → Option (Kind × Name)
entry_seen image i slot = if ino_at image i slot == 0 then None
    else Some (kind_seen (kind_of image (ino_at image i slot)), name_at image i slot)

-- The kinds and names of the first `count` entries of directory `i`, without the empty ones.
abbrev pub entries_seen : Image → ℕ → ℕ → List (Kind × Name)
entries_seen image i count = filter_map (entry_seen image i) (range_with_len 0 count)

-- All names in directory `i`, each with its kind, in byte order of the names.
pub record ListsNames (image : Image) (i : ℕ) (names : List (Kind × Name)) : Type 0 where
  pub all : IsPermutation (entries_seen image i (entry_count image i)) names
  pub sorted : IsSortedBy comes_before names
