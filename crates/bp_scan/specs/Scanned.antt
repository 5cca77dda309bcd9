-- What a scan has found so far of an image.
use Rattle.std.specs.Prelude.{length, Bool, true, false, ◌≡◌, ◌≢◌, ◌⊎◌, ℕ, suc, ◌%◌, ◌<◌, ◌≤◌}
use Rattle.bp_free.specs.Set.{Set, has}
use Rattle.bp_limits.specs.Limits.{block_size, root_ino, entry_size}
use Rattle.bp_layout.specs.Words.{Image, block_count, height_of}
use Rattle.bp_layout.specs.Tree.{node, covered, IsLivePointer}
use Rattle.bp_layout.specs.Inode.{IsDirectory, inode_count, kind_of, root_of, size_of}
use Rattle.bp_layout.specs.Directory.{EntryNames, name_at}
use Rattle.bp_layout.specs.Paths.{IsName}
use Rattle.bp_layout.specs.Reached.{IsLiveBlock}
use Rattle.bp_layout.specs.Checks.{IsFound, IsPointer, IsFollowed, Passes, entry_place}
use Rattle.bp_walk.specs.Taken.{Takes}

-- Each pointer of the tree that is followed passes its checks, and none is null where none may be.
pub record IsChecked (image : Image) (t : ℕ) : Type 0 where
  pub fits : size_of image t ≤ covered (suc (height_of (root_of image t)))
  pub passes : (d k : ℕ) → IsLivePointer (root_of image t) (size_of image t) d k
      → IsFollowed image (root_of image t) (size_of image t) d k → Passes image (root_of image t) d k
  pub full : (t ≡ 0) ⊎ IsDirectory image t → (d k : ℕ) → IsLivePointer (root_of image t) (size_of image t) d k
      → IsFollowed image (root_of image t) (size_of image t) d k →
      node image (root_of image t) d k ≢ 0

-- The place is that of a pointer of a tree that was entered.
pub record IsSeen (image : Image) (E : ℕ → Type 0) (place : ℕ) : Type 0 where
  pub tree : ℕ
  pub depth : ℕ
  pub index : ℕ
  pub entered : E tree
  pub pointer : IsPointer image tree depth index place

-- The state of a scan: `E` is the trees that were entered, and `D` the entries that were processed, by directory and
-- slot. `all` is the set of blocks at the start, and `left` the blocks that are left.
pub record IsScanned (image : Image) (E : ℕ → Type 0) (D : ℕ → ℕ → Type 0) (all left : Set) : Type 0 where
  pub found : (t : ℕ) → E t → IsFound image t
  pub checked : (t : ℕ) → E t → IsChecked image t
  pub takes : Takes image (IsSeen image E) all left
  pub kinds : (i : ℕ) → E (suc i) → (1 ≤ kind_of image (suc i)) × (kind_of image (suc i) ≤ 2)
  pub sizes : (i : ℕ) → E i → IsDirectory image i → size_of image i % entry_size ≡ 0
  pub inos : (i s j : ℕ) → D i s → EntryNames image i s j → j < inode_count image
  pub not_root : (i s j : ℕ) → D i s → EntryNames image i s j → j ≢ root_ino
  pub forms : (i s j : ℕ) → D i s → EntryNames image i s j → IsName (name_at image i s)
  pub enters : (i s j : ℕ) → D i s → EntryNames image i s j → E j
  pub named_once : (i s k r j : ℕ) → D i s → D k r → EntryNames image i s j → EntryNames image k r j
      → IsDirectory image j → entry_place image i s 0 ≡ entry_place image k r 0
  pub names_once : (i s r j k : ℕ) → D i s → D i r → EntryNames image i s j → EntryNames image i r k
      → name_at image i s ≡ name_at image i r → s ≡ r

-- Everything was entered and processed.
pub record IsAll (image : Image) (E : ℕ → Type 0) (D : ℕ → ℕ → Type 0) : Type 0 where
  pub blocks : size_of image 0 % block_size ≡ 0
  pub some : block_size ≤ size_of image 0
  pub inode_file : E 0
  pub root : E root_ino
  pub directory : IsDirectory image root_ino
  pub slots : (i s j : ℕ) → E i → EntryNames image i s j → D i s

-- The set has all blocks except the first.
pub record HasAllBlocks (image : Image) (set : Set) : Type 0 where
  pub room : length set ≡ block_count image
  pub all : (b : ℕ) → 1 ≤ b → b < block_count image → has set b ≡ true
  pub not_first : has set 0 ≡ false

-- The set has the inodes that were not entered.
pub record HasRest (image : Image) (E : ℕ → Type 0) (set : Set) : Type 0 where
  pub low : (i : ℕ) → has set i ≡ true → 2 ≤ i
  pub high : (i : ℕ) → has set i ≡ true → i < inode_count image
  pub out : (i : ℕ) → E i → has set i ≡ false
  pub entered : (i : ℕ) → 2 ≤ i → i < inode_count image → has set i ≡ false → E i

-- Each block that the set lacks is live, except the first.
abbrev pub AreOthersLive : Image → (ℕ → Bool) → Type 0
AreOthersLive image set = (b : ℕ) → 1 ≤ b → b < block_count image → set b ≡ false → IsLiveBlock image b
