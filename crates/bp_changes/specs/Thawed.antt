-- Effects on an image whose trees may be in other blocks, with the same meaning: the effect of a call after blocks of
-- the snapshot were copied.
use Rattle.std.specs.Prelude.{◌≡◌, ℕ}
use Rattle.bp_layout.specs.Words.{Image, height_of}
use Rattle.bp_layout.specs.Inode.{root_of, size_of}
use Rattle.bp_layout.specs.Nodes.{TreeNode, is_present}
use Rattle.bp_layout.specs.Reached.{IsReached}
use Rattle.bp_changes.specs.SameMeaning.{SameMeaning}

-- The trees have the same meaning, heights and sizes, and the same nodes exist. So each change has the same need and
-- the same cover in both images.
pub record SameShape (old new : Image) : Type 0 where
  pub meaning : SameMeaning old new
  pub sizes : (t : ℕ) → IsReached old t → size_of new t ≡ size_of old t
  pub heights : (t : ℕ) → IsReached old t → height_of (root_of new t) ≡ height_of (root_of old t)
  pub present : (t : ℕ) → IsReached old t → (n : TreeNode) →
      is_present new (root_of new t) (size_of new t) n ≡ is_present old (root_of old t) (size_of old t) n

pub record AfterThaw (Effect : Image → Image → Type 0) (old new : Image) : Type 0 where
  pub middle : Image
  pub thawed : SameShape old middle
  pub effect : Effect middle new
