-- The trees below the slots of a tree's topmost block.
use Rattle.std.proofs.Common.{◌≡◌, ◌≢◌, ℕ, zero, suc, ◌+◌, ◌-◌, ◌*◌, ◌/◌, ◌%◌, ◌^◌, ◌<◌, ◌≤◌, sym, ◌∙◌, ap, ap₂, arith, pow-suc, lt_of_mul-lt-mul_right}
use Rattle.std.proofs.Math.Nat.{le-div_iff_mul-le}
use Rattle.bp_layout.specs.Words.{Image, block_of, height_of, slot_word}
use Rattle.bp_layout.specs.Tree.{node, covered, span, IsSound}
use Rattle.bp_layout.specs.Pieces.{piece, child, HasChildren}
use Rattle.bp_layout.proofs.TreeLaws.{tree_word-zero, tree_word-suc, covered-suc}
use Rattle.bp_layout.proofs.Pieces.{sound_shape, splits}

pub span_some : (level : ℕ) → 0 < span level
span_some level = go (suc level)
  where
    go : (rank : ℕ) → 0 < covered rank
    go zero = omega arith
    go (suc rank) = rw (covered-suc rank) (omega (arith, go rank))

-- the slots whose first byte is below the size
pub slots_live : (size step slot : ℕ) → 0 < size → 0 < step → slot < (size - 1) / step + 1 → slot * step < size
slots_live size step slot some wide low =
    let below : slot ≤ (size - 1) / step = omega (arith, low) in
    let times : slot * step ≤ size - 1 = (le-div_iff_mul-le {k = step} {x = slot} {y = size - 1} wide).0 below in
    omega (arith, times, some)

pub slots_all : (size step slot : ℕ) → 0 < step → slot * step < size → slot < (size - 1) / step + 1
slots_all size step slot wide live =
    let times : slot * step ≤ size - 1 = omega (arith, live) in
    let below : slot ≤ (size - 1) / step = (le-div_iff_mul-le {k = step} {x = slot} {y = size - 1} wide).1 times in
    omega (arith, below)

-- what the walks know of a tree that is higher than a leaf
pub record HasBelow (image : Image) (root size level slot : ℕ) : Type 0 where
  pub shape : HasChildren image root size level
  pub low : slot < 512
  pub bits : slot_word image (block_of root) slot % 4096 ≡ 0
  pub sound : IsSound image (child image (block_of root) level slot) (piece size level slot)
  pub height : height_of (child image (block_of root) level slot) ≡ level

pub below : (image : Image) (root size level slot : ℕ) → IsSound image root size → height_of root ≡ suc level → block_of root ≢ 0 → slot * span level < size → HasBelow image root size level slot
below image root size level slot sound height present live =
    let some : 0 < size = omega (arith, live) in
    let shape : HasChildren image root size level = sound_shape image root size level sound some height in
    let bits : slot_word image (block_of root) slot % 4096 ≡ 0 = shape.words slot live in
    let s : ℕ = span level in
    let wide : span (suc level) ≡ 512 * s = covered-suc (suc level) in
    let less : slot * s < 512 * s = omega (arith, live, shape.fits, wide) in
    record {
      shape = shape;
      low = lt_of_mul-lt-mul_right s less;
      bits = bits;
      sound = (splits image root size level shape sound some present).sound slot live;
      height = omega (arith, bits, shape.low);
    }

-- below a null there are nulls
pub null_below : (image : Image) (root : ℕ) → block_of root ≡ 0 → (d k : ℕ) → node image root d k ≡ 0
null_below image root null zero k = ap block_of (tree_word-zero image root k) ∙ null
null_below image root null (suc d) k =
    ap block_of (tree_word-suc image root d k ∙ ap (λ b. slot_word image b (k % 512)) (null_below image root null d (k / 512)))

-- a node in a slot's tree
pub node_below : (image : Image) (root size level slot : ℕ) → HasBelow image root size level slot →
    (d k : ℕ) → k < 512 ^ d → node image root (suc d) (slot * 512 ^ d + k) ≡ node image (child image (block_of root) level slot) d k
node_below image root size level slot has zero k low =
    let first : slot * 512 ^ 0 + k ≡ slot = omega (arith, low) in
    let column : slot % 512 ≡ slot = omega (arith, has.low) in
    let block : block_of (child image (block_of root) level slot) ≡ block_of (slot_word image (block_of root) slot) = omega (arith, has.bits, has.shape.low) in
    ap (node image root 1) first
    ∙ ap block_of (tree_word-suc image root 0 slot ∙ ap₂ (slot_word image) (ap block_of (tree_word-zero image root (slot / 512))) column)
    ∙ sym block
    ∙ ap block_of (sym (tree_word-zero image (child image (block_of root) level slot) k))
node_below image root size level slot has (suc d) k low =
    let many : 512 ^ suc d ≡ 512 * 512 ^ d = rw pow-suc (omega arith) in
    let q : ℕ = 512 ^ d in
    let whole : slot * 512 ^ suc d ≡ slot * (512 * q) = ap (λ n. slot * n) many in
    let split : slot * (512 * q) ≡ 512 * (slot * q) = omega arith in
    let row : (slot * 512 ^ suc d + k) / 512 ≡ slot * 512 ^ d + k / 512 = omega (arith, whole, split) in
    let column : (slot * 512 ^ suc d + k) % 512 ≡ k % 512 = omega (arith, whole, split) in
    let fewer : k / 512 < 512 ^ d = omega (arith, low, many) in
    ap block_of (tree_word-suc image root (suc d) (slot * 512 ^ suc d + k)
    ∙ ap₂ (slot_word image) (ap (node image root (suc d)) row ∙ node_below image root size level slot has d (k / 512) fewer) column
    ∙ sym (tree_word-suc image (child image (block_of root) level slot) d k))
