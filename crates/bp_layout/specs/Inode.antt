-- The numbers of the trees of an image: 0 is the inode file, and any other number is the tree of that inode.
use Rattle.std.specs.Prelude.{◌≡◌, ◌≢◌, ◌<◌, ℕ, zero, suc, ◌+◌, ◌*◌, ◌/◌, ◌%◌, ◌^◌, [], ◌∷◌, if◌then◌else◌}
use Rattle.bp_limits.specs.CallLimits.{allows_attributes}
use Rattle.bp_limits.specs.Limits.{attribute_field, attributes, block_words, directory_kind, file_kind, inode_size, inode_words, root_field, size_field, super_root, super_size}
use Rattle.bp_layout.specs.Words.{Image, word, height_of}
use Rattle.bp_layout.specs.Formatted.{version_of}
use Rattle.bp_layout.specs.Paths.{Attributes}
use Rattle.bp_layout.specs.Tree.{node, content_word}

-- word f of inode i, which is a word of the inode file's content
abbrev pub inode_word : Image → ℕ → ℕ → ℕ
inode_word image i f = content_word image (word image super_root) (inode_words * i + f)

-- the kind of a tree: the first word of its inode; 0 for the inode file
abbrev pub kind_of : Image → ℕ → ℕ
kind_of image zero = 0
kind_of image (suc i) = inode_word image (suc i) 0

abbrev pub IsFile : Image → ℕ → Type 0
IsFile image i = kind_of image i ≡ file_kind

abbrev pub IsDirectory : Image → ℕ → Type 0
IsDirectory image i = kind_of image i ≡ directory_kind

abbrev pub root_of : Image → ℕ → ℕ
root_of image zero = word image super_root
root_of image (suc i) = inode_word image (suc i) root_field

abbrev pub size_of : Image → ℕ → ℕ
size_of image zero = word image super_size
size_of image (suc i) = inode_word image (suc i) size_field

-- attribute k of an inode, from 0 on: in version 3 the 64 bits of a word of the inode, in earlier versions 0; and 0 for
-- the inode file
abbrev pub attribute : Image → ℕ → ℕ → ℕ
attribute image zero k = 0
attribute image (suc i) k =
    if allows_attributes (version_of image) then inode_word image (suc i) (attribute_field + k) % 2 ^ 64 else 0

abbrev pub attributes_of : Image → ℕ → Attributes
attributes_of image i = attribute image i 0 ∷ attribute image i 1 ∷ attribute image i 2 ∷ []

abbrev pub inode_count : Image → ℕ
inode_count image = size_of image 0 / inode_size

-- in the inodes below this one, the words that version 3 makes attributes are 0
abbrev pub AreClearBelow : Image → ℕ → Type 0
AreClearBelow image count = (i k : ℕ) → i < count → k < attributes → inode_word image i (attribute_field + k) ≡ 0

-- in all inodes the words that version 3 makes attributes are 0
abbrev pub AreClear : Image → Type 0
AreClear image = AreClearBelow image (inode_count image)

-- the word number `index` at depth `depth` + 1 of tree t is at this place of the image
pub record StandsAt (image : Image) (t depth index place : ℕ) : Type 0 where
  pub present : node image (root_of image t) depth (index / block_words) ≢ 0
  pub at : block_words * node image (root_of image t) depth (index / block_words) + index % block_words ≡ place

-- the content word number `index` of tree t is at this place of the image
abbrev pub ContentStandsAt : Image → ℕ → ℕ → ℕ → Type 0
ContentStandsAt image t index place = StandsAt image t (height_of (root_of image t)) index place

-- the place of the root word of a tree: in the superblock for the inode file, else in the inode
pub data RootPlace (image : Image) : ℕ → ℕ → Type 0 where
  top : {t place : ℕ} → t ≡ 0 → place ≡ super_root → RootPlace image t place
  inode : {t place : ℕ} → t ≢ 0 → ContentStandsAt image 0 (inode_words * t + root_field) place → RootPlace image t place
