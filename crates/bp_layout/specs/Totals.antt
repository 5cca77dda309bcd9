-- The totals of an image: its files, directories, bytes and live blocks.
use Rattle.std.specs.Prelude.{◌≡◌, ℕ, ◌+◌, ◌≤◌, List, ◌==◌, if◌then◌else◌}
use Rattle.std.specs.List.{Contains, sum_by}
use Rattle.std.specs.List.Sorted.{IsStrictlyIncreasing}
use Rattle.bp_limits.specs.Limits.{file_kind, directory_kind}
use Rattle.bp_layout.specs.Words.{Image, block_count}
use Rattle.bp_layout.specs.Free.{HasFree}
use Rattle.bp_layout.specs.Inode.{kind_of, size_of}
use Rattle.bp_layout.specs.Reached.{IsReached}
use Rattle.bp_layout.specs.Whole.{HasSpace}
use Rattle.bp_layout.specs.declared.totals.Totals.{Totals}
use Rattle.bp_layout.specs.Thaw.{none_in_snapshot}

-- The inodes that are reachable from the root directory, including itself, in ascending order.
pub record AreReached (image : Image) (inodes : List ℕ) : Type 0 where
  pub rising : IsStrictlyIncreasing inodes
  pub reached : (i : ℕ) → Contains inodes i → IsReached image i × (1 ≤ i)
  pub all : (i : ℕ) → IsReached image i → 1 ≤ i → Contains inodes i

-- 1 if the kind is the wanted one, else 0.
abbrev pub one_if : ℕ → ℕ → ℕ
one_if kind wanted = if kind == wanted then 1 else 0

-- 1 if the inode is of this kind, else 0.
abbrev pub of_kind : Image → ℕ → ℕ → ℕ
of_kind image kind i = one_if (kind_of image i) kind

-- The size if the kind is that of a file, else 0.
abbrev pub bytes_if : ℕ → ℕ → ℕ
bytes_if kind size = if kind == file_kind then size else 0

-- The size of a file in bytes, and 0 for a directory.
abbrev pub file_bytes : Image → ℕ → ℕ
file_bytes image i = bytes_if (kind_of image i) (size_of image i)

-- The number of blocks that are in one of the trees or in both: all except the first and those that are in neither.
abbrev pub HasLive : Image → ℕ → Type 0
HasLive image live = (space : ℕ) → HasSpace image space → live + space + 1 ≡ block_count image

-- The number of blocks that are in the first tree.
abbrev pub HasTreeLive : Image → ℕ → Type 0
HasTreeLive image live = (free : ℕ) → HasFree image none_in_snapshot free → live + free + 1 ≡ block_count image

-- The totals are the numbers of files and of directories of the first tree, including the root directory, and the
-- bytes of all its files; and the number of live blocks satisfies `Live`.
pub record HasTotalsWith (image : Image) (Live : ℕ → Type 0) (totals : Totals) : Type 0 where
  pub inodes : List ℕ
  pub are : AreReached image inodes
  pub files : totals.files ≡ sum_by (of_kind image file_kind) inodes
  pub dirs : totals.dirs ≡ sum_by (of_kind image directory_kind) inodes
  pub bytes : totals.bytes ≡ sum_by (file_bytes image) inodes
  pub live : Live totals.live

-- The totals of an image, with the live blocks of both trees.
abbrev pub HasTotals : Image → Totals → Type 0
HasTotals image = HasTotalsWith image (HasLive image)

-- The totals of an image, with the live blocks of the first tree only.
abbrev pub HasTreeTotals : Image → Totals → Type 0
HasTreeTotals image = HasTotalsWith image (HasTreeLive image)
