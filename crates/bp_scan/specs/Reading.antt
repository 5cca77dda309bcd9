-- Properties that hold while the trees of an image are read.
use Rattle.std.specs.Prelude.{length, replicate, true, false, ◌≡◌, ◌⊎◌, ℕ, ◌+◌, ◌*◌, ◌%◌, ◌<◌, ◌≤◌}
use Rattle.bp_free.specs.Set.{Set, has, members, empty}
use Rattle.bp_limits.specs.Limits.{block_size, block_inodes, root_ino}
use Rattle.bp_layout.specs.Words.{Image, block_count}
use Rattle.bp_layout.specs.Inode.{IsDirectory, inode_count, root_of, size_of}
use Rattle.bp_layout.specs.Formatted.{IsFormatted}
use Rattle.bp_spelling.specs.Names.{AreNames}
use Rattle.bp_scan.specs.Scanned.{IsScanned}
use Rattle.bp_scan.specs.Progress.{IsDone, IsEntered, IsMidway}
use Rattle.bp_scan.specs.Named.{CountsAmong}
use Rattle.bp_scan.specs.Counted.{HasCounted, no_totals}
use Rattle.bp_scan.specs.Room.{HasScanMemory}
use Rattle.bp_scan.specs.declared.directories.Directory.{Directory}
use Rattle.bp_scan.specs.declared.work.Scan.{Scan}

-- The image is formatted, and its inode file has whole blocks of inodes, at least one.
pub record HasWholeInodes (image : Image) : Type 0 where
  pub formatted : IsFormatted image
  pub inode_blocks : size_of image 0 % block_size ≡ 0
  pub some_inodes : block_size ≤ size_of image 0

-- The inode file was entered, and no other tree.
abbrev pub HasInodeFile : Image → Set → Set → Type 0
HasInodeFile image all left = IsScanned image (λ t. ⊥ ⊎ (t ≡ 0)) (λ i s. ⊥) all left

-- Nothing was entered: the sets are empty, and no link and no inode is counted.
pub record IsUnread (image : Image) (work : Scan) : Type 0 where
  pub room : HasScanMemory image work
  pub blocks : work.blocks ≡ empty (block_count image)
  pub inodes : work.inodes ≡ empty (block_inodes * block_count image)
  pub todo : work.todo ≡ empty (block_inodes * block_count image)
  pub counts : work.counts ≡ replicate (block_inodes * block_count image) 0
  pub totals : work.totals ≡ no_totals

-- The state of a scan in progress. The current directory is 0 between directories.
pub record IsReading (image : Image) (work : Scan) (current slot : ℕ) : Type 0 where
  pub ready : HasWholeInodes image
  pub room : HasScanMemory image work
  pub range : (i : ℕ) → has work.inodes i ≡ true → (2 ≤ i) × (i < inode_count image)
  pub root_kind : IsDirectory image root_ino
  pub midway : IsMidway image work.blocks work.inodes work.todo current slot
  pub counts : CountsAmong image (IsDone image work.inodes work.todo current slot) work.counts
  pub counted : HasCounted image work.inodes (inode_count image) work.totals

-- A scan that reads a directory, which is the current one.
pub record IsAtHand (image : Image) (work : Scan) (current slot : ℕ) : Type 0 where
  pub reading : IsReading image work current slot
  pub entered : IsEntered image work.inodes current
  pub kind : IsDirectory image current
  pub out : has work.todo current ≡ false

-- A scan that reads a directory whose names are right.
pub record IsInside (image : Image) (work : Scan) (directory : Directory) (slot : ℕ) : Type 0 where
  pub at : IsAtHand image work directory.inode slot
  pub root : root_of image directory.inode ≡ directory.tree.root
  pub size : size_of image directory.inode ≡ directory.tree.size
  pub names : AreNames image directory.tree.root directory.tree.size

-- An upper bound on the remaining steps: each takes an inode out of the free ones, or a directory out of those to be
-- read.
abbrev pub steps : Scan → ℕ
steps work = length (members work.inodes) + length (members work.todo)
