-- The number of blocks of a tree. A set of numbers is given by a function from a number to true or false.
use Rattle.std.specs.Prelude.{◌≡◌, ℕ, length, Bool, true}
use Rattle.bp_layout.specs.Words.{Image, block_count}
use Rattle.bp_layout.specs.Tree.{HasBlock}
use Rattle.bp_layout.specs.Free.{numbers_below}

-- the set has exactly the blocks of the tree
pub record AreBlocks (image : Image) (root size : ℕ) (set : ℕ → Bool) : Type 0 where
  pub has : (b : ℕ) → set b ≡ true → HasBlock image root size b
  pub all : (b : ℕ) → HasBlock image root size b → set b ≡ true

-- The number of blocks of a tree. A node is present if it is live and no pointer on the way to it is null. In a sound
-- tree the present nodes and the blocks correspond one to one.
pub record HasBlockCount (image : Image) (root size count : ℕ) : Type 0 where
  pub set : ℕ → Bool
  pub are : AreBlocks image root size set
  pub number : length (numbers_below (block_count image) set) ≡ count
