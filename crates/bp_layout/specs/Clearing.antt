-- The words that version 3 makes attributes, before an upgrade: which inodes have one that is not 0.
use Rattle.std.specs.Prelude.{◌≡◌, ◌≢◌, ℕ, ◌+◌, ◌<◌, ◌≤◌}
use Rattle.bp_layout.specs.Inode.{AreClearBelow, inode_count, inode_word}
use Rattle.bp_layout.specs.Words.{Image}
use Rattle.bp_layout.specs.declared.clearing.TheConstants.{CLEARED_INODES}
use Rattle.bp_limits.specs.Limits.{attribute_field, attributes}

-- The maximum number of inodes whose words one step of an upgrade sets to 0.
abbrev pub cleared_inodes : ℕ
cleared_inodes = CLEARED_INODES

-- in this inode the words that version 3 makes attributes are 0
abbrev pub IsClearInode : Image → ℕ → Type 0
IsClearInode image ino = (k : ℕ) → k < attributes → inode_word image ino (attribute_field + k) ≡ 0

-- in this inode one of these words is not 0
pub record IsSetInode (image : Image) (ino : ℕ) : Type 0 where
  pub number : ℕ
  pub low : number < attributes
  pub set : inode_word image ino (attribute_field + number) ≢ 0

-- In inode `ino`, which is not below `first`, one of these words is not 0. If they are 0 in all inodes below `first`,
-- they are in all below `ino`.
pub record IsNextToClear (image : Image) (first ino : ℕ) : Type 0 where
  pub from : first ≤ ino
  pub there : ino < inode_count image
  pub clear : AreClearBelow image first → AreClearBelow image ino
  pub set : IsSetInode image ino
