-- Which blocks become free by a change.
use Rattle.std.specs.Prelude.{◌≢◌, ℕ, suc, ◌*◌, ◌≤◌}
use Rattle.bp_layout.specs.Words.{Image}
use Rattle.bp_layout.specs.Tree.{covered, HasBlock}
use Rattle.bp_layout.specs.Inode.{root_of, size_of}
use Rattle.bp_layout.specs.Reached.{IsReached, IsLiveBlock}

-- the live blocks are those of before, without the gone ones
pub record FreesBlocks (old new : Image) (Gone : ℕ → Type 0) : Type 0 where
  pub were : (b : ℕ) → Gone b → IsLiveBlock old b
  pub back : (b : ℕ) → IsLiveBlock new b → IsLiveBlock old b
  pub gone : (b : ℕ) → Gone b → IsLiveBlock new b → ⊥
  pub stay : (b : ℕ) → IsLiveBlock old b → (Gone b → ⊥) → IsLiveBlock new b

-- a block of a tree whose pointer covers no byte below the smaller size
pub record IsTruncated (image : Image) (root size shorter block : ℕ) : Type 0 where
  pub has : HasBlock image root size block
  pub past : shorter ≤ has.index * covered (suc has.pointer.level)

-- Each tree has the same blocks as before, except tree x, which has those that it had below its new size.
pub record ResizesBlocks (old new : Image) (x : ℕ) : Type 0 where
  pub back : (t b : ℕ) → IsReached old t → t ≢ x →
      HasBlock new (root_of new t) (size_of new t) b → HasBlock old (root_of old t) (size_of old t) b
  pub stay : (t b : ℕ) → IsReached old t → t ≢ x →
      HasBlock old (root_of old t) (size_of old t) b → HasBlock new (root_of new t) (size_of new t) b
  pub back_here : (b : ℕ) →
      HasBlock new (root_of new x) (size_of new x) b → HasBlock old (root_of old x) (size_of new x) b
  pub stay_here : (b : ℕ) →
      HasBlock old (root_of old x) (size_of new x) b → HasBlock new (root_of new x) (size_of new x) b
