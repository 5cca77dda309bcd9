-- Preconditions for the steps that enter a name in a directory.
use Rattle.std.specs.Prelude.{◌≡◌, ◌≢◌, ℕ, ◌+◌, ◌*◌, ◌/◌, ◌≤◌, [], None, Some, Bool, false, length}
use Rattle.bp_append.specs.Prepared.{HasLooseEnd, need_for}
use Rattle.bp_free.specs.Set.{IsLeast, Set, members}
use Rattle.bp_layout.specs.Directory.{empty_slot, slot_named}
use Rattle.bp_layout.specs.Paths.{Name, IsName}
use Rattle.bp_layout.specs.Free.{IsFreeInode}
use Rattle.bp_layout.specs.Inode.{ContentStandsAt, IsDirectory, IsFile, size_of}
use Rattle.bp_layout.specs.Need.{need}
use Rattle.bp_layout.specs.Need.Change.{enters}
use Rattle.bp_layout.specs.Need.Entrant.{linked}
use Rattle.bp_layout.specs.Reached.{IsReached}
use Rattle.bp_layout.specs.WellFormed.{IsWellFormed}
use Rattle.bp_layout.specs.Words.{Image}
use Rattle.bp_calls.specs.Growth.{stores_after_growth}
use Rattle.bp_calls.specs.ThawedFor.{IsThawedFor}
use Rattle.bp_limits.specs.Limits.{block_words, entry_size, entry_words, inode_words}
use Rattle.bp_changes.specs.Sets.{AreExact}
use Rattle.pm_region.specs.Memory.{Memory, current_words, room_in}

-- Directory `i` is reachable and does not have this name.
pub record LacksName (image : Image) (i : ℕ) (name : Name) : Type 0 where
  pub well_formed : IsWellFormed image
  pub reached : IsReached image i
  pub directory : IsDirectory image i
  pub form : IsName name
  pub missing : slot_named image i name ≡ None

-- `LacksName`, and inode `j` is free for the name.
pub record CanName (image : Image) (i j : ℕ) (name : Name) : Type 0 where
  pub lacks : LacksName image i name
  pub free : IsFreeInode image j

-- `LacksName`, and inode `j` is a file that has a link.
pub record CanLink (image : Image) (i j : ℕ) (name : Name) : Type 0 where
  pub lacks : LacksName image i name
  pub there : IsReached image j
  pub file : IsFile image j

-- The room in the log for a name that needs this number of blocks, once its inode exists: for its stores, 5 barriers
-- and its end-of-call marker.
abbrev pub entering_room : ℕ → ℕ
entering_room needed = stores_after_growth needed + 5 + 1

-- The number of blocks that a name takes in directory `i` if its inode exists. It is the same for each inode.
abbrev pub name_need : Image → ℕ → ℕ
name_need image i = need image (enters i linked)

-- The number of blocks that directory `i` lacks for one more entry.
abbrev pub entry_need_for : Image → ℕ → ℕ
entry_need_for image i = need_for image i (size_of image i) (size_of image i + entry_size)

-- The block of a content word of a tree is not in the snapshot.
abbrev pub HasLooseWord : Image → (ℕ → Bool) → ℕ → ℕ → Type 0
HasLooseWord image in_snapshot t k = (place : ℕ) → ContentStandsAt image t k place → in_snapshot (place / block_words) ≡ false

-- The blocks to which one more entry is stored are not in the snapshot: the block of the least empty entry, or
-- the end of the directory if no entry is empty.
pub record HasLooseEntry (image : Image) (in_snapshot : ℕ → Bool) (i : ℕ) : Type 0 where
  pub slot : (s : ℕ) → empty_slot image i ≡ Some s → HasLooseWord image in_snapshot i (entry_words * s + 0)
  pub past_end : empty_slot image i ≡ None → HasLooseEnd image in_snapshot i

-- Directory `i` does not have the name, no entry is empty, and as many blocks are free as the directory lacks for one
-- more entry. The set of blocks is exact, with some set of inodes, and the blocks at the end of the directory are not
-- in the snapshot.
pub record CanPutPastEnd (in_snapshot : ℕ → Bool) (memory : Memory) (blocks : Set) (i : ℕ) (name : Name) : Type 0 where
  pub lacks : LacksName (current_words memory) i name
  pub none : empty_slot (current_words memory) i ≡ None
  pub inodes : Set
  pub exact : AreExact (current_words memory) in_snapshot blocks inodes
  pub enough : entry_need_for (current_words memory) i ≤ length (members blocks)
  pub loose : HasLooseEnd (current_words memory) in_snapshot i
  pub room : entering_room (entry_need_for (current_words memory) i) ≤ room_in memory

-- `CanPutPastEnd`, and inode `j` is free for the name, in a block that is not in the snapshot.
pub record CanEnterPastEnd (in_snapshot : ℕ → Bool) (memory : Memory) (blocks : Set) (i j : ℕ) (name : Name) : Type 0 where
  pub can : CanPutPastEnd in_snapshot memory blocks i name
  pub free : IsFreeInode (current_words memory) j
  pub loose : HasLooseWord (current_words memory) in_snapshot 0 (inode_words * j + 0)

-- `CanPutPastEnd`, and inode `j` is a file that has a link.
pub record CanLinkPastEnd (in_snapshot : ℕ → Bool) (memory : Memory) (blocks : Set) (i j : ℕ) (name : Name) : Type 0 where
  pub can : CanPutPastEnd in_snapshot memory blocks i name
  pub there : IsReached (current_words memory) j
  pub file : IsFile (current_words memory) j

-- The directory does not have the name, the sets are exact, an inode is free, and so are as many blocks as the name
-- needs. The blocks to which the name is stored are not in the snapshot.
pub record CanEnter (in_snapshot : ℕ → Bool) (memory : Memory) (blocks inodes : Set) (i : ℕ) (name : Name) : Type 0 where
  pub lacks : LacksName (current_words memory) i name
  pub exact : AreExact (current_words memory) in_snapshot blocks inodes
  pub some : members inodes ≢ []
  pub enough : name_need (current_words memory) i ≤ length (members blocks)
  pub loose : HasLooseEntry (current_words memory) in_snapshot i
  pub loose_inode : (j : ℕ) → IsLeast inodes j → HasLooseWord (current_words memory) in_snapshot 0 (inode_words * j + 0)
  pub room : entering_room (name_need (current_words memory) i) ≤ room_in memory

-- `CanEnter` for the existing file `j`.
pub record CanShare (in_snapshot : ℕ → Bool) (memory : Memory) (blocks inodes : Set) (i j : ℕ) (name : Name) : Type 0 where
  pub link : CanLink (current_words memory) i j name
  pub exact : AreExact (current_words memory) in_snapshot blocks inodes
  pub thawed : IsThawedFor in_snapshot memory blocks (enters i linked)
