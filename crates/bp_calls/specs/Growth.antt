-- Growth of the inode file by one leaf of inodes, for a call that finds none free.
use Rattle.std.specs.Prelude.{◌≡◌, ◌≢◌, ◌⊎◌, ℕ, suc, ◌+◌, ◌-◌, ◌*◌, ◌<◌, ◌≤◌, List, length, Bool}
use Rattle.bp_changes.specs.SameMeaning.{SameMeaning}
use Rattle.bp_free.specs.Set.{Set, members}
use Rattle.bp_layout.specs.Inode.{root_of, size_of}
use Rattle.bp_layout.specs.Members.{Has}
use Rattle.bp_layout.specs.Need.{growth_count}
use Rattle.bp_layout.specs.Need.Change.{enters}
use Rattle.bp_layout.specs.Need.Entrant.{grown}
use Rattle.bp_layout.specs.Nodes.{height_with}
use Rattle.bp_layout.specs.Reached.{IsReached}
use Rattle.bp_layout.specs.Tree.{byte, node, tree_word, HasBlock, IsLivePointer, IsLiveWord}
use Rattle.bp_layout.specs.WellFormed.{IsWellFormed}
use Rattle.bp_layout.specs.Words.{Image, height_of}
use Rattle.bp_limits.specs.Limits.{block_size, block_words}
use Rattle.bp_changes.specs.Sets.{AreExact}
use Rattle.bp_changes.specs.Performs.{AddsTaking, room_for}
use Rattle.pm_region.specs.Memory.{Memory, current_words, room_in}
use Rattle.bp_append.specs.Prepared.{HasLooseEnd}

-- The number of blocks that the inode file takes for one more leaf. It is the same for each change that needs an inode
-- and finds none free.
abbrev pub growth_need : Image → ℕ
growth_need image = growth_count image (enters 1 grown)

-- The image is well formed, and the sets are exact. As many blocks are free as the growth takes, and the end of the
-- inode file is not shared with the snapshot. The log has room for the growth and the rest of the call, after a thaw.
pub record CanGrowInodes (in_snapshot : ℕ → Bool) (memory : Memory) (blocks inodes : Set) : Type 0 where
  pub well_formed : IsWellFormed (current_words memory)
  pub exact : AreExact (current_words memory) in_snapshot blocks inodes
  pub enough : growth_need (current_words memory) ≤ length (members blocks)
  pub loose : HasLooseEnd (current_words memory) in_snapshot 0
  pub room : room_for (growth_need (current_words memory)) ≤ room_in memory + 2

-- The inode file has one more leaf, whose inodes are all zero. Its blocks are the old ones and those taken. The image
-- otherwise means the same, and each other tree keeps its root and its nodes.
pub record AddsInodes (old new : Image) (taken : List ℕ) : Type 0 where
  pub meaning : SameMeaning old new
  pub size : size_of new 0 ≡ size_of old 0 + block_size
  pub height : height_of (root_of new 0) ≡ height_with (root_of old 0) (size_of old 0) (size_of new 0)
  pub kept : (o : ℕ) → o < size_of old 0 → byte new (root_of new 0) o ≡ byte old (root_of old 0) o
  pub zeros : (o : ℕ) → size_of old 0 ≤ o → o < size_of new 0 → byte new (root_of new 0) o ≡ 0
  pub blocks : (b : ℕ) → HasBlock new (root_of new 0) (size_of new 0) b →
      HasBlock old (root_of old 0) (size_of old 0) b ⊎ Has taken b
  pub has_old : (b : ℕ) → HasBlock old (root_of old 0) (size_of old 0) b →
      HasBlock new (root_of new 0) (size_of new 0) b
  pub has_taken : (b : ℕ) → Has taken b → HasBlock new (root_of new 0) (size_of new 0) b
  -- The old nodes of the inode file are as high above the leaves as before.
  pub nodes : (d k : ℕ) → IsLivePointer (root_of old 0) (size_of old 0) d k → node old (root_of old 0) d k ≢ 0 →
      node new (root_of new 0) (height_of (root_of new 0) - height_of (root_of old 0) + d) k ≡ node old (root_of old 0) d k
  pub roots : (u : ℕ) → IsReached old u → u ≢ 0 → root_of new u ≡ root_of old u
  pub words : (u d k : ℕ) → IsReached old u → u ≢ 0 → IsLiveWord (root_of old u) (size_of old u) (suc d) k →
      tree_word new (root_of new u) (suc d) k ≡ tree_word old (root_of old u) (suc d) k

-- ---- stores

-- The greatest number of stores of a growth that takes this number of blocks.
abbrev pub growth_stores : ℕ → ℕ
growth_stores needed = block_words * (needed + 2)

-- The greatest number of stores of the rest of a call that needs this number of blocks after a growth. With those of
-- the growth they are within the bound for a call.
abbrev pub stores_after_growth : ℕ → ℕ
stores_after_growth needed = block_words * (needed + 4) + 64

-- The inode file grows, invisibly at every crash point. It takes as many blocks as it needs, and stores to each of
-- them.
pub record GrowsInodes (in_snapshot : ℕ → Bool) (old new : Memory) : Type 0 where
  pub taken : List ℕ
  pub adds : AddsTaking in_snapshot taken 3 (growth_stores (length taken)) old new
  pub number : length taken ≡ growth_need (current_words old)
  pub grown : AddsInodes (current_words old) (current_words new) taken
