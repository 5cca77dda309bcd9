-- The trees of an image, by trails.
use Rattle.std.specs.Prelude.{◌≡◌, ℕ, zero, suc, ◌+◌, ◌*◌, ◌/◌, ◌%◌, ◌<◌, ◌≤◌, [], ◌∷◌, Bool, true, false}
use Rattle.bp_limits.specs.Limits.{block_words, greatest_height, inode_size, inode_words, root_field, super_root}
use Rattle.bp_layout.specs.Formatted.{version_of}
use Rattle.bp_layout.specs.Words.{Image, word, block_count, height_of}
use Rattle.bp_layout.specs.Tree.{IsLivePointer, HasBlock, IsSound}
use Rattle.bp_layout.specs.Inode.{root_of}
use Rattle.bp_layout.specs.Reached.{IsReached}
use Rattle.bp_changes.specs.Trail.{Trail, LeadsTo}

-- the trail of a word of a tree, below that of its root word
abbrev pub along : Trail → ℕ → ℕ → Trail
along base zero index = base
along base (suc depth) index = (index % block_words) ∷ along base depth (index / block_words)

-- the trail of the root word of a tree, if the inode file has this height
abbrev pub root_trail : ℕ → ℕ → Trail
root_trail height zero = []
root_trail height (suc i) = along [] (suc height) (inode_words * suc i + root_field)

abbrev pub tree_trail : ℕ → ℕ → ℕ → ℕ → Trail
tree_trail height t depth index = along (root_trail height t) depth index

-- the reachable trees are sound with other sizes (`bound`) too, they are not too high, and no block is in two of them
pub record IsForest (image : Image) (bound : ℕ → ℕ) : Type 0 where
  pub some : 0 < bound 0
  pub in_file : (i : ℕ) → IsReached image (suc i) → inode_size * suc i + inode_size ≤ bound 0
  pub sound : (t : ℕ) → IsReached image t → IsSound image (root_of image t) (bound t)
  pub low : (t : ℕ) → IsReached image t → 0 < bound t
      → height_of (root_of image t) ≤ greatest_height (version_of image)
  pub apart : (t u b : ℕ) → IsReached image t → IsReached image u →
      HasBlock image (root_of image t) (bound t) b → HasBlock image (root_of image u) (bound u) b → t ≡ u

-- a pointer of a reachable tree that is live with these sizes
pub record IsTreePointer (image : Image) (bound : ℕ → ℕ) (p : Trail) : Type 0 where
  pub tree : ℕ
  pub depth : ℕ
  pub index : ℕ
  pub reached : IsReached image tree
  pub live : IsLivePointer (root_of image tree) (bound tree) depth index
  pub named : tree_trail (height_of (word image super_root)) tree depth index ≡ p

-- the set has exactly the blocks to which no pointer of these trails leads and that are not in the snapshot
pub record IsExactSet (image : Image) (Pointer : Trail → Type 0) (in_snapshot free : ℕ → Bool) : Type 0 where
  pub live : (b : ℕ) → LeadsTo image Pointer b → free b ≡ false
  pub dead : (b : ℕ) → 1 ≤ b → b < block_count image → (LeadsTo image Pointer b → ⊥) → in_snapshot b ≡ false → free b ≡ true
  pub in_range : (b : ℕ) → free b ≡ true → (1 ≤ b) × (b < block_count image)
  pub loose : (b : ℕ) → free b ≡ true → in_snapshot b ≡ false
