-- What a scan finds when it enters an inode.
use Rattle.std.specs.Prelude.{length, Bool, false, ◌≡◌, ◌≢◌, ℕ, ◌+◌, ◌%◌, ◌<◌, ◌≤◌}
use Rattle.bp_free.specs.Set.{Set, with}
use Rattle.bp_limits.specs.Limits.{root_ino, file_kind, directory_kind, entry_size}
use Rattle.bp_layout.specs.Words.{Image, word}
use Rattle.bp_layout.specs.Inode.{IsDirectory, kind_of, root_of, size_of}
use Rattle.bp_layout.specs.Checks.{inode_place, root_place, size_place}
use Rattle.bp_layout.specs.declared.check.Check.{Check}
use Rattle.bp_layout.specs.declared.check.Check.TheVariants.{DirectorySize, Kind}
use Rattle.bp_scan.specs.Counted.{CountsOne}
use Rattle.bp_walk.specs.Walk.{TakesTree, FailsTree}
use Rattle.bp_scan.specs.declared.trees.InodeWords.{InodeWords}
use Rattle.bp_scan.specs.declared.work.Scan.{Scan}

-- These are the words of inode `i` and their places.
pub record AreWords (image : Image) (i : ℕ) (words : InodeWords) : Type 0 where
  pub place : inode_place image i 0 ≡ words.place
  pub root_place : root_place image i ≡ words.place + 1
  pub size_place : size_place image i ≡ words.place + 2
  pub in_image : words.place + 2 < length image
  pub root_word : word image (words.place + 1) ≡ words.tree.root
  pub kind : kind_of image i ≡ words.kind
  pub root : root_of image i ≡ words.tree.root
  pub size : size_of image i ≡ words.tree.size

-- The kind and the size in bytes of inode `i` are right: it is a file or a directory, a directory has whole entries,
-- and inode 1 is a directory.
pub record IsRightInode (i kind size : ℕ) : Type 0 where
  pub least : 1 ≤ kind
  pub most : kind ≤ 2
  pub root : i ≡ root_ino → kind ≡ directory_kind
  pub entries : kind ≡ directory_kind → size % entry_size ≡ 0

-- A check that the words of an inode fail, given the place of the first word.
pub data IsWrong (i kind size place : ℕ) : Check → ℕ → Type 0 where
  no_kind : kind ≢ file_kind → kind ≢ directory_kind → IsWrong i kind size place Kind place
  root_file : i ≡ root_ino → kind ≢ directory_kind → IsWrong i kind size place Kind place
  part_of_entry : kind ≡ directory_kind → size % entry_size ≢ 0 → IsWrong i kind size place DirectorySize (place + 2)

-- Inode `i` is right, its blocks are taken out of the set, it is counted, and it is marked to be read if it is a
-- directory.
pub record EntersInode (image : Image) (i : ℕ) (old new : Scan) : Type 0 where
  pub right : IsRightInode i (kind_of image i) (size_of image i)
  pub holes : Bool
  pub full : IsDirectory image i → holes ≡ false
  pub tree : TakesTree image (root_place image i) (root_of image i) (size_of image i) holes old.blocks new.blocks
  pub inodes : new.inodes ≡ old.inodes
  pub counts : new.counts ≡ old.counts
  pub totals : CountsOne (kind_of image i) (size_of image i) old.totals new.totals
  pub directory : IsDirectory image i → new.todo ≡ with old.todo i
  pub file : kind_of image i ≢ directory_kind → new.todo ≡ old.todo

-- A check that the tree of inode `i` fails.
abbrev pub FailsTreeOf : Image → ℕ → Bool → Set → Check → ℕ → Type 0
FailsTreeOf image i holes old check place =
    FailsTree image (root_place image i) (root_of image i) (size_of image i) holes old check place

-- A check that inode `i` or its tree fails.
pub data FailsInode (image : Image) (i : ℕ) (old : Set) : Check → ℕ → Type 0 where
  words : {c : Check} {p : ℕ} → IsWrong i (kind_of image i) (size_of image i) (inode_place image i 0) c p
      → FailsInode image i old c p
  tree : {c : Check} {p : ℕ} (holes : Bool) → (holes ≡ false → IsDirectory image i)
      → FailsTreeOf image i holes old c p → FailsInode image i old c p
