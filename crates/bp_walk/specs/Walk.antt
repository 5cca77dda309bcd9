-- The result of a walk over the pointers of one tree.
use Rattle.std.specs.Prelude.{◌≡◌, ◌≢◌, ◌⊎◌, ℕ, suc, ◌+◌, ◌*◌, ◌/◌, ◌%◌, ◌<◌, ◌≤◌, Bool, true, false}
use Rattle.bp_free.specs.Set.{Set, has, without}
use Rattle.bp_limits.specs.Limits.{block_size, block_words, greatest_height}
use Rattle.bp_layout.specs.Formatted.{version_of}
use Rattle.bp_layout.specs.Words.{Image, block_count, block_of, height_of}
use Rattle.bp_layout.specs.Tree.{tree_word, node, place_of, covered, IsLivePointer}
use Rattle.bp_layout.specs.Checks.{IsFollowed, Passes}
use Rattle.bp_layout.specs.declared.check.Check.{Check}
use Rattle.bp_layout.specs.declared.check.Check.TheVariants.{BlockTwice, Capacity, Height, Hole, PointerBits, Range}
use Rattle.bp_walk.specs.Taken.{Takes}

-- Pointer `l` at depth `e` is pointer `k` at depth `d`, or is below it.
pub data IsPointerUnder (d k : ℕ) : ℕ → ℕ → Type 0 where
  here : IsPointerUnder d k d k
  under : {e l : ℕ} → IsPointerUnder d k e (l / block_words) → IsPointerUnder d k (suc e) l

-- The place of a live pointer of a tree that is followed.
pub record IsPlace (image : Image) (at root size depth index place : ℕ) : Type 0 where
  pub live : IsLivePointer root size depth index
  pub followed : IsFollowed image root size depth index
  pub stands : place_of image at root depth index ≡ place

-- The place of such a pointer under one of the first `slots` slots of the node at depth `d` and index `k`.
pub record IsBelow (image : Image) (at root size d k slots place : ℕ) : Type 0 where
  pub slot : ℕ
  pub low : slot < slots
  pub depth : ℕ
  pub index : ℕ
  pub under : IsPointerUnder (suc d) (block_words * k + slot) depth index
  pub is : IsPlace image at root size depth index place

-- Each of these pointers passes its checks, and is not null unless `holes` allows it.
abbrev pub ArePassing : Image → ℕ → ℕ → Bool → ℕ → ℕ → ℕ → Type 0
ArePassing image root size holes d k slots = (slot e l : ℕ) → slot < slots
    → IsPointerUnder (suc d) (block_words * k + slot) e l
    → IsLivePointer root size e l → IsFollowed image root size e l →
    Passes image root e l × (holes ≡ false → node image root e l ≢ 0)

-- The pointers under the slots of a node pass, and their blocks are taken out of the set.
pub record WalksBelow (image : Image) (at root size : ℕ) (holes : Bool) (d k slots : ℕ) (old new : Set) : Type 0 where
  pub takes : Takes image (IsBelow image at root size d k slots) old new
  pub passing : ArePassing image root size holes d k slots

-- A check that fails below a node, whose own block is `block`. There are two cases of a block to which two pointers
-- point: either both pointers are below the node (`twice`), or the block was not in the set before (`taken`). In the
-- second case the pointer itself is in `block` or in a block that was in the set, so it is not one of the pointers
-- that were walked over before.
pub data FailsBelow (image : Image) (at root size : ℕ) (holes : Bool) (block : ℕ) (old : Set) : Check → ℕ → Type 0 where
  bits : {d k p : ℕ} → IsPlace image at root size (suc d) k p → tree_word image root (suc d) k % block_size ≢ 0
      → FailsBelow image at root size holes block old PointerBits p
  range : {d k p : ℕ} → IsPlace image at root size (suc d) k p → block_count image ≤ node image root (suc d) k
      → FailsBelow image at root size holes block old Range p
  hole : {d k p : ℕ} → IsPlace image at root size (suc d) k p → holes ≡ false → node image root (suc d) k ≡ 0
      → FailsBelow image at root size holes block old Hole p
  taken : {d k p : ℕ} → IsPlace image at root size (suc d) k p → node image root (suc d) k ≢ 0
      → node image root (suc d) k < block_count image → has old (node image root (suc d) k) ≡ false →
      (p / block_words ≡ block) ⊎ (has old (p / block_words) ≡ true)
      → FailsBelow image at root size holes block old BlockTwice p
  twice : {d k e l p q : ℕ} → IsPlace image at root size (suc d) k p → IsPlace image at root size (suc e) l q → p ≢ q
      → node image root (suc d) k ≢ 0 →
      node image root (suc d) k ≡ node image root (suc e) l → FailsBelow image at root size holes block old BlockTwice p

-- The place of a pointer of the tree.
pub record IsTreePlace (image : Image) (at root size place : ℕ) : Type 0 where
  pub depth : ℕ
  pub index : ℕ
  pub is : IsPlace image at root size depth index place

-- Each pointer of the tree passes, and its blocks are taken out of the set.
pub record TakesTree (image : Image) (at root size : ℕ) (holes : Bool) (old new : Set) : Type 0 where
  pub fits : size ≤ covered (suc (height_of root))
  pub takes : Takes image (IsTreePlace image at root size) old new
  pub passing : (d k : ℕ) → IsLivePointer root size d k → IsFollowed image root size d k → Passes image root d k
      × (holes ≡ false → node image root d k ≢ 0)

-- A check that fails in the tree.
pub data FailsTree (image : Image) (at root size : ℕ) (holes : Bool) (old : Set) : Check → ℕ → Type 0 where
  height : 0 < size → greatest_height (version_of image) < height_of root
      → FailsTree image at root size holes old Height at
  root_bits : 0 < size → root / 8 % 512 ≢ 0 → FailsTree image at root size holes old PointerBits at
  root_range : 0 < size → block_count image ≤ block_of root → FailsTree image at root size holes old Range at
  root_hole : 0 < size → holes ≡ false → block_of root ≡ 0 → FailsTree image at root size holes old Hole at
  root_taken : 0 < size → size ≤ covered (suc (height_of root)) → block_of root ≢ 0
      → block_of root < block_count image →
      has old (block_of root) ≡ false → FailsTree image at root size holes old BlockTwice at
  capacity : covered (suc (height_of root)) < size → FailsTree image at root size holes old Capacity (at + 1)
  below : {c : Check} {p : ℕ} → 0 < size → block_of root ≢ 0 → block_of root < block_count image
      → has old (block_of root) ≡ true →
      FailsBelow image 0 root size holes (block_of root) (without old (block_of root)) c p
      → FailsTree image at root size holes old c p
