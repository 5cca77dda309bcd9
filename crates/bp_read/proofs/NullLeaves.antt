-- The first null of a tree, from those of the trees below its topmost block.
use Rattle.std.proofs.Common.{◌≡◌, ◌≢◌, ◌⊎◌, ℕ, zero, suc, ◌+◌, ◌-◌, ◌*◌, ◌/◌, ◌^◌, ◌<◌, ◌≤◌, sym, ◌∙◌, ap, subst, arith, inl, inr, pow-suc}
use Rattle.std.proofs.Math.Nat.{div-lt_iff_lt-mul, div-mul-le_self, lt-div-mul-add}
use Rattle.std.proofs.lemmas.Bool.{cases_lt}
use Rattle.bp_layout.specs.Words.{Image, block_of, height_of}
use Rattle.bp_layout.specs.Tree.{node, span, IsSound}
use Rattle.bp_layout.specs.Pieces.{piece, child}
use Rattle.bp_layout.proofs.TreeLaws.{tree_word-zero, span-is}
use Rattle.bp_read.specs.Nulls.{HasNoNullLeaf, IsFirstNullLeaf}
use Rattle.bp_read.proofs.Below.{HasBelow, below, node_below, null_below}

pub null_root : (image : Image) (root size : ℕ) → 0 < size → block_of root ≡ 0 → IsFirstNullLeaf image root size 0
null_root image root size some null = (omega (arith, some), null_below image root null (height_of root) 0, λ other low. absurd (omega (arith, low)))

pub leaf_root : (image : Image) (root size : ℕ) → IsSound image root size → height_of root ≡ 0 → block_of root ≢ 0 → HasNoNullLeaf image root size
leaf_root image root size sound flat present leaf live null =
    let fits : size ≤ span 0 = subst (λ h. size ≤ span h) flat sound.fits in
    let only : leaf ≡ 0 = omega (arith, live, fits) in
    present (sym (ap block_of (tree_word-zero image root 0)) ∙ sym (ap (λ h. node image root h 0) flat) ∙ sym (ap (node image root (height_of root)) only) ∙ null)

-- no leaf below the slots before one is null
abbrev pub NoNullBefore : Image → ℕ → ℕ → ℕ → ℕ → Type 0
NoNullBefore image root size level slot = (leaf : ℕ) → leaf / 512 ^ level < slot → 4096 * leaf < size → node image root (height_of root) leaf ≢ 0

pub power_some : (d : ℕ) → 0 < 512 ^ d
power_some zero = omega arith
power_some (suc d) = rw pow-suc (omega (arith, power_some d))

module _ (image : Image) (root size level slot : ℕ) (has : HasBelow image root size level slot) (sub part : ℕ) (root_is : sub ≡ child image (block_of root) level slot) (size_is : part ≡ piece size level slot) where
  -- a leaf of the slot's tree
  pub leaf_in : (k : ℕ) → k < 512 ^ level → node image root (height_of root) (slot * 512 ^ level + k) ≡ node image sub (height_of sub) k
  leaf_in k low =
      let height : height_of sub ≡ level = ap height_of root_is ∙ has.height in
      ap (λ h. node image root h (slot * 512 ^ level + k)) has.shape.height
      ∙ node_below image root size level slot has level k low
      ∙ sym (ap (λ h. node image sub h k) height ∙ ap (λ r. node image r level k) root_is)

  -- the bytes before it
  pub before : slot * span level ≡ 4096 * (slot * 512 ^ level)
  before = let q : ℕ = 512 ^ level in ap (λ s. slot * s) (span-is level) ∙ omega arith

  pub low_in : (k : ℕ) → 4096 * k < part → k < 512 ^ level
  low_in k live = omega (arith, live, size_is, span-is level)

  pub live_out : (k : ℕ) → 4096 * k < part → 4096 * (slot * 512 ^ level + k) < size
  live_out k live = omega (arith, live, size_is, before)

  pub live_back : (k : ℕ) → k < 512 ^ level → 4096 * (slot * 512 ^ level + k) < size → 4096 * k < part
  live_back k low live = omega (arith, low, live, size_is, before, span-is level)

  pub null_in : NoNullBefore image root size level slot → (leaf : ℕ) → IsFirstNullLeaf image sub part leaf → IsFirstNullLeaf image root size (slot * 512 ^ level + leaf)
  null_in none leaf found = (live_out leaf found.0, leaf_in leaf (low_in leaf found.0) ∙ found.1, first)
    where
      first : (other : ℕ) → other < slot * 512 ^ level + leaf → node image root (height_of root) other ≢ 0
      first other low null = go (cases_lt other (slot * 512 ^ level))
        where
          go : (other < slot * 512 ^ level) ⊎ (slot * 512 ^ level ≤ other) → ⊥
          go (inl under) =
              none other ((div-lt_iff_lt-mul {k = 512 ^ level} {x = other} {y = slot} (power_some level)).1 under) (omega (arith, low, live_out leaf found.0)) null
          go (inr over) =
              let k : ℕ = other - slot * 512 ^ level in
              let is : other ≡ slot * 512 ^ level + (other - slot * 512 ^ level) = omega (arith, over) in
              let less : other - slot * 512 ^ level < leaf = omega (arith, over, low) in
              found.2 (other - slot * 512 ^ level) less
              (sym (leaf_in (other - slot * 512 ^ level) (omega (arith, less, low_in leaf found.0))) ∙ sym (ap (node image root (height_of root)) is) ∙ null)

  pub none_in : NoNullBefore image root size level slot → HasNoNullLeaf image sub part → NoNullBefore image root size level (slot + 1)
  none_in none clear leaf low live null = go (cases_lt (leaf / 512 ^ level) slot)
    where
      go : (leaf / 512 ^ level < slot) ⊎ (slot ≤ leaf / 512 ^ level) → ⊥
      go (inl under) = none leaf under live null
      go (inr over) =
          let here : leaf / 512 ^ level ≡ slot = omega (arith, over, low) in
          let from : leaf / 512 ^ level * 512 ^ level ≡ slot * 512 ^ level = ap (λ n. n * 512 ^ level) here in
          let floor : leaf / 512 ^ level * 512 ^ level ≤ leaf = div-mul-le_self leaf (512 ^ level) in
          let ceiling : leaf < leaf / 512 ^ level * 512 ^ level + 512 ^ level = lt-div-mul-add {a = leaf} {b = 512 ^ level} (power_some level) in
          let is : leaf ≡ slot * 512 ^ level + (leaf - slot * 512 ^ level) = omega (arith, from, floor) in
          let less : leaf - slot * 512 ^ level < 512 ^ level = omega (arith, from, floor, ceiling) in
          clear (leaf - slot * 512 ^ level) (live_back (leaf - slot * 512 ^ level) less (subst (λ n. 4096 * n < size) is live))
          (sym (leaf_in (leaf - slot * 512 ^ level) less) ∙ sym (ap (node image root (height_of root)) is) ∙ null)

-- each live leaf is below a live slot
pub none_left : (image : Image) (root size level slots : ℕ) → NoNullBefore image root size level slots → ((slot : ℕ) → slot * span level < size → slot < slots) → HasNoNullLeaf image root size
none_left image root size level slots none all leaf live =
    let q : ℕ = 512 ^ level in
    let floor : leaf / 512 ^ level * 512 ^ level ≤ leaf = div-mul-le_self leaf (512 ^ level) in
    let c : ℕ = leaf / 512 ^ level in
    let wide : c * span level ≡ 4096 * (c * q) = ap (λ s. c * s) (span-is level) ∙ omega arith in
    none leaf (all (leaf / 512 ^ level) (omega (arith, live, floor, wide))) live

-- the same as the walks have it
pub found_below : (image : Image) (root size level slot step sub part leaf : ℕ) → IsSound image root size → height_of root ≡ suc level → block_of root ≢ 0 → slot * span level < size →
    sub ≡ child image (block_of root) level slot → part ≡ piece size level slot → step ≡ 4096 * 512 ^ level → NoNullBefore image root size level slot → IsFirstNullLeaf image sub part leaf →
    IsFirstNullLeaf image root size (slot * (step / 4096) + leaf)
found_below image root size level slot step sub part leaf sound height present live root_is size_is step_is none found =
    let leaves : 512 ^ level ≡ step / 4096 = omega (arith, step_is) in
    subst (λ q. IsFirstNullLeaf image root size (slot * q + leaf)) leaves
    (null_in image root size level slot (below image root size level slot sound height present live) sub part root_is size_is none leaf found)

pub none_below : (image : Image) (root size level slot sub part : ℕ) → IsSound image root size → height_of root ≡ suc level → block_of root ≢ 0 → slot * span level < size →
    sub ≡ child image (block_of root) level slot → part ≡ piece size level slot → NoNullBefore image root size level slot → HasNoNullLeaf image sub part → NoNullBefore image root size level (slot + 1)
none_below image root size level slot sub part sound height present live root_is size_is =
    none_in image root size level slot (below image root size level slot sound height present live) sub part root_is size_is
