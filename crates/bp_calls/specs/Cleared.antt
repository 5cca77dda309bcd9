-- How one step of an upgrade sets the words to 0 that version 3 makes attributes.
use Rattle.std.specs.Prelude.{◌≡◌, ℕ, ◌+◌, ◌*◌, ◌<◌, ◌≤◌, min}
use Rattle.bp_changes.specs.Harmless.{Agrees}
use Rattle.bp_layout.specs.Inode.{AreClearBelow, ContentStandsAt, inode_count, inode_word}
use Rattle.bp_layout.specs.Whole.{SameFiles}
use Rattle.bp_layout.specs.Words.{Image, word}
use Rattle.bp_limits.specs.Limits.{attribute_field, attributes, inode_words}
use Rattle.pm_epochs.specs.May.{StoresMay}
use Rattle.pm_region.specs.Memory.{Memory, current_words}
use Rattle.pm_region.specs.Safe.{AddsMay, AddsQuiet}
use Rattle.bp_read.specs.Within.{IsWithin}

-- a store of 0 to one of these words, in one of `count` inodes from `first` on
pub record IsClearing (image : Image) (first count place value : ℕ) : Type 0 where
  pub ino : ℕ
  pub number : ℕ
  pub from : first ≤ ino
  pub to : ino < first + count
  pub there : ino < inode_count image
  pub few : number < attributes
  pub stands : ContentStandsAt image 0 (inode_words * ino + (attribute_field + number)) place
  pub zero : value ≡ 0

-- Sets these words of one inode to 0, by at most as many stores.
pub record ClearsInode (old : Memory) (ino : ℕ) (new : Memory) : Type 0 where
  pub place : ℕ
  pub stands : ContentStandsAt (current_words old) 0 (inode_words * ino + attribute_field) place
  pub stores : AddsMay (λ at value. IsWithin place attributes at × (value ≡ 0)) 0 attributes old new
  pub cleared : (k : ℕ) → k < attributes → word (current_words new) (place + k) ≡ 0

-- Sets these words to 0 in at most `count` inodes, from `first` on: a preparation that a crash may interrupt anywhere
-- without a visible change. It stores to no other words, and each word may be stored without a change of meaning.
pub record ClearsFrom (old : Memory) (first count : ℕ) (new : Memory) : Type 0 where
  pub quiet : AddsQuiet SameFiles 1 (attributes * count) old new
  pub stores : StoresMay (IsClearing (current_words old) first count) quiet.added
  pub agrees : Agrees (current_words old) (current_words new)
  pub files : SameFiles (current_words old) (current_words new)
  pub clear : AreClearBelow (current_words old) first →
      AreClearBelow (current_words new) (min (first + count) (inode_count (current_words new)))
