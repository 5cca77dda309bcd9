-- Which check of a mount fails at which place of an image. Only trees that a mount can follow count: all pointers above
-- are well formed and in range, and the height of each tree covers its size.
use Rattle.std.specs.Prelude.{◌≡◌, ◌≢◌, ◌⊎◌, ℕ, zero, suc, ◌+◌, ◌*◌, ◌/◌, ◌%◌, ◌<◌, ◌≤◌}
use Rattle.bp_layout.specs.Words.{Image, block_count, height_of}
use Rattle.bp_layout.specs.Formatted.{version_of}
use Rattle.bp_limits.specs.Limits.{block_size, block_words, directory_kind, entry_size, entry_words, file_kind, greatest_height, inode_words, root_ino, super_root, super_size}
use Rattle.bp_layout.specs.Tree.{tree_word, node, place_of, covered, IsLivePointer}
use Rattle.bp_layout.specs.Inode.{IsDirectory, inode_count, kind_of, root_of, size_of}
use Rattle.bp_layout.specs.Directory.{EntryNames, name_at}
use Rattle.bp_layout.specs.Paths.{IsName}
use Rattle.bp_layout.specs.declared.check.Check.{Check}
use Rattle.bp_layout.specs.declared.check.Check.TheVariants.{Height, PointerBits, Range, BlockTwice, Hole, InodeFileSize, InodeNumber, InodeTwice, Kind, DirectorySize, Capacity, NameForm, NameTwice}

-- the number of a check in the list of docs/format.md
abbrev pub number_of : Check → ℕ
number_of Height = 1
number_of PointerBits = 2
number_of Range = 3
number_of BlockTwice = 4
number_of Hole = 5
number_of InodeFileSize = 6
number_of InodeNumber = 7
number_of InodeTwice = 8
number_of Kind = 9
number_of DirectorySize = 10
number_of Capacity = 11
number_of NameForm = 12
number_of NameTwice = 13

-- the pointer at this depth and number is well formed, and its block is in the image
abbrev pub Passes : Image → ℕ → ℕ → ℕ → Type 0
Passes image root zero index =
    (root % block_size ≤ greatest_height (version_of image)) × (node image root zero index < block_count image)
Passes image root (suc depth) index =
    (tree_word image root (suc depth) index % block_size ≡ 0) × (node image root (suc depth) index < block_count image)

-- every pointer above the word passes its checks and is not null, and the tree's height covers its size
abbrev pub IsFollowed : Image → ℕ → ℕ → ℕ → ℕ → Type 0
IsFollowed image root size zero index = Unit {0}
IsFollowed image root size (suc depth) index =
    (size ≤ covered (suc (height_of root))) × IsFollowed image root size depth (index / block_words)
    × Passes image root depth (index / block_words) × (node image root depth (index / block_words) ≢ 0)

-- the place of word f of inode i; `root_place`, `size_place`: the places of the root word and the size of a tree;
-- `pointer_place`, `entry_place`: the place of a pointer of a tree, and of a word of an entry
abbrev pub inode_place : Image → ℕ → ℕ → ℕ
inode_place image i f =
    place_of image super_root (root_of image 0) (suc (height_of (root_of image 0))) (inode_words * i + f)

abbrev pub root_place : Image → ℕ → ℕ
root_place image zero = super_root
root_place image (suc i) = inode_place image (suc i) 1

abbrev pub size_place : Image → ℕ → ℕ
size_place image zero = super_size
size_place image (suc i) = inode_place image (suc i) 2

abbrev pub pointer_place : Image → ℕ → ℕ → ℕ → ℕ
pointer_place image t depth index = place_of image (root_place image t) (root_of image t) depth index

abbrev pub entry_place : Image → ℕ → ℕ → ℕ → ℕ
entry_place image i slot f = pointer_place image i (suc (height_of (root_of image i))) (entry_words * slot + f)

-- the content word at this index of tree t can be followed
abbrev pub ContentFollowed : Image → ℕ → ℕ → Type 0
ContentFollowed image t index =
    IsFollowed image (root_of image t) (size_of image t) (suc (height_of (root_of image t))) index

-- The trees that a mount finds: the inode file, the root directory, and each inode that a followed entry of a found
-- directory names, if the inode itself can be followed.
pub data IsFound (image : Image) : ℕ → Type 0 where
  inode_file : IsFound image 0
  root_directory : ContentFollowed image 0 inode_words → IsFound image root_ino
  named : {i j : ℕ} → (slot : ℕ) → IsFound image i → EntryNames image i slot j
      → ContentFollowed image i (entry_words * slot) → j < inode_count image
      → ContentFollowed image 0 (inode_words * j) → IsFound image j

-- a live pointer of a found tree that can be followed, and its place
pub record IsPointer (image : Image) (t depth index place : ℕ) : Type 0 where
  pub found : IsFound image t
  pub live : IsLivePointer (root_of image t) (size_of image t) depth index
  pub followed : IsFollowed image (root_of image t) (size_of image t) depth index
  pub at : pointer_place image t depth index ≡ place

-- a live entry of a found directory that is not empty and can be followed, and its place
pub record IsEntry (image : Image) (i slot j place : ℕ) : Type 0 where
  pub found : IsFound image i
  pub names : EntryNames image i slot j
  pub followed : ContentFollowed image i (entry_words * slot)
  pub at : entry_place image i slot 0 ≡ place

-- this check fails at this place
pub data Fails (image : Image) : Check → ℕ → Type 0 where
  height : {t p : ℕ} → IsPointer image t 0 0 p → greatest_height (version_of image) < height_of (root_of image t)
      → Fails image Height p
  root_bits : {t p : ℕ} → IsPointer image t 0 0 p → root_of image t / 8 % 512 ≢ 0 → Fails image PointerBits p
  pointer_bits : {t d k p : ℕ} → IsPointer image t (suc d) k p
      → tree_word image (root_of image t) (suc d) k % block_size ≢ 0 → Fails image PointerBits p
  range : {t d k p : ℕ} → IsPointer image t d k p → block_count image ≤ node image (root_of image t) d k
      → Fails image Range p
  twice : {t d k p u e l q : ℕ} → IsPointer image t d k p → IsPointer image u e l q → p ≢ q →
      node image (root_of image t) d k ≢ 0 → node image (root_of image t) d k ≡ node image (root_of image u) e l
      → Fails image BlockTwice p
  hole : {t d k p : ℕ} → IsPointer image t d k p → (t ≡ 0) ⊎ IsDirectory image t
      → node image (root_of image t) d k ≡ 0 → Fails image Hole p
  inode_file_size : (size_of image 0 % block_size ≢ 0) ⊎ (size_of image 0 < block_size)
      → Fails image InodeFileSize super_size
  ino : {i s j p : ℕ} → IsEntry image i s j p → inode_count image ≤ j → Fails image InodeNumber p
  root_named : {i s p : ℕ} → IsEntry image i s root_ino p → Fails image InodeTwice p
  inode_twice : {i s j p k r q : ℕ} → IsEntry image i s j p → IsEntry image k r j q → p ≢ q → IsFound image j
      → IsDirectory image j → Fails image InodeTwice p
  kind : {i p : ℕ} → IsFound image (suc i) → kind_of image (suc i) ≢ file_kind → kind_of image (suc i) ≢ directory_kind
      → inode_place image (suc i) 0 ≡ p → Fails image Kind p
  root_kind : {p : ℕ} → IsFound image root_ino → kind_of image root_ino ≢ directory_kind
      → inode_place image root_ino 0 ≡ p → Fails image Kind p
  directory_size : {i p : ℕ} → IsFound image i → IsDirectory image i → size_of image i % entry_size ≢ 0
      → size_place image i ≡ p → Fails image DirectorySize p
  capacity : {t p : ℕ} → IsFound image t → covered (suc (height_of (root_of image t))) < size_of image t
      → size_place image t ≡ p → Fails image Capacity p
  name_form : {i s j p : ℕ} → IsEntry image i s j p → (IsName (name_at image i s) → ⊥) → Fails image NameForm (p + 1)
  name_twice : {i s j p r k q : ℕ} → IsEntry image i s j p → IsEntry image i r k q → p ≢ q
      → name_at image i s ≡ name_at image i r → Fails image NameTwice p

-- no check fails at any place
pub record NoneFails (image : Image) : Type 0 where
  pub none : (c : Check) (p : ℕ) → Fails image c p → ⊥
