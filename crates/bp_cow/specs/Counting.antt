-- The words of trees that count: those below the tree's size in `bound`.
use Rattle.std.specs.Prelude.{◌≡◌, ℕ, suc, ◌*◌, ◌<◌}
use Rattle.bp_limits.specs.Limits.{super_root}
use Rattle.bp_layout.specs.Inode.{root_of}
use Rattle.bp_layout.specs.Reached.{IsReached}
use Rattle.bp_layout.specs.Words.{Image, word, height_of}
use Rattle.bp_changes.specs.Forest.{tree_trail}
use Rattle.bp_changes.specs.Trail.{Trail}

-- a content word of a reachable tree that begins below the tree's size in `bound`
pub record IsTreeWord (image : Image) (bound : ℕ → ℕ) (q : Trail) : Type 0 where
  pub tree : ℕ
  pub number : ℕ
  pub reached : IsReached image tree
  pub below : 8 * number < bound tree
  pub named : tree_trail (height_of (word image super_root)) tree (suc (height_of (root_of image tree))) number ≡ q
