-- How many words of a block of a tree count, reported on trails.
use Rattle.std.proofs.Common.{◌≡◌, ◌⊎◌, ℕ, zero, suc, ◌+◌, ◌-◌, ◌*◌, ◌/◌, ◌%◌, ◌^◌, ◌<◌, ◌≤◌, ◌∷◌, ap, subst, arith, inl, inr}
use Rattle.std.proofs.Math.Nat.{le-div_iff_mul-le, one-le-pow}
use Rattle.bp_layout.specs.Inode.{root_of}
use Rattle.bp_layout.specs.Reached.{IsReached}
use Rattle.bp_layout.specs.Reached.IsReached.{inode_file}
use Rattle.bp_layout.specs.Tree.{IsLivePointer, covered}
use Rattle.bp_layout.specs.Words.{Image, word, height_of}
use Rattle.bp_layout.proofs.TreeLaws.{live_above, live_content, live_pointer_word}
use Rattle.bp_changes.specs.Forest.{tree_trail, IsForest, IsTreePointer}
use Rattle.bp_changes.specs.Trail.{Trail}
use Rattle.bp_changes.proofs.ForestLaws.{HasFewDigits, same_trail, same_pointer, short}
use Rattle.bp_cow.specs.Counting.{IsTreeWord}
use Rattle.bp_cow.specs.Touched.{level_live}

-- a word of a block that begins below the size counts
below_size : (block slot power bound size : ℕ) → 1 ≤ power → (512 * block + slot) * (8 * power) < bound → bound ≤ size → slot < suc ((size - 1) / (8 * power)) - 512 * block
below_size block slot power bound size some below within =
    let positive : 0 < 8 * power = omega (arith, some) in
    let last : (512 * block + slot) * (8 * power) ≤ size - 1 = omega (arith, below, within) in
    let quotient : 512 * block + slot ≤ (size - 1) / (8 * power) = (le-div_iff_mul-le positive).1 last in
    omega (arith, quotient)

module _ (old : Image) (bound : ℕ → ℕ) (forest : IsForest old bound) (tree : ℕ) (reached : IsReached old tree) where
  -- a pointer on a trail of the tree is live in it
  pub trail-live : (depth index : ℕ) → HasFewDigits depth index → depth ≤ height_of (root_of old tree) → IsTreePointer old bound (tree_trail (height_of (word old 2)) tree depth index) →
      IsLivePointer (root_of old tree) (bound tree) depth index
  trail-live depth index few low one =
      let deep : one.depth ≤ height_of (root_of old one.tree) = omega (arith, one.live.height) in
      let all : (one.tree ≡ tree) × (one.depth ≡ depth) × (one.index ≡ index) =
      same_trail old bound forest one.tree one.depth one.index tree depth index one.reached reached
      (short old bound forest one.tree one.depth one.index one.reached one.live) few (omega (arith, deep)) (omega (arith, low))
      (λ _ f _. absurd (omega (arith, deep, f))) (λ _ f _. absurd (omega (arith, low, f))) one.named in
      subst (λ (t : ℕ). IsLivePointer (root_of old t) (bound t) depth index) all.0
      (subst (λ d. IsLivePointer (root_of old one.tree) (bound one.tree) d index) all.1
      (subst (λ k. IsLivePointer (root_of old one.tree) (bound one.tree) one.depth k) all.2 one.live))

  module _ (down block level size : ℕ) (height : down + level ≡ height_of (root_of old tree)) (live : IsLivePointer (root_of old tree) (bound tree) down block) (counts : bound tree ≤ size) where
    abbrev here : Trail
    here = tree_trail (height_of (word old 2)) tree down block

    -- a pointer to this block is that one
    same-block : (t d k : ℕ) → IsReached old t → IsLivePointer (root_of old t) (bound t) d k → tree_trail (height_of (word old 2)) t d k ≡ here → (t ≡ tree) × (d ≡ down) × (k ≡ block)
    same-block t d k r also named = same_pointer old bound forest t d k tree down block r reached also live named

    tail : (slot first : ℕ) (p : Trail) → first ∷ p ≡ slot ∷ here → p ≡ here
    tail slot first p e = cc

    head : (slot first : ℕ) (p : Trail) → first ∷ p ≡ slot ∷ here → first ≡ slot
    head slot first p e = cc

    -- the words of a leaf
    word-counts : (slot : ℕ) → IsTreeWord old bound (slot ∷ here) → slot < level_live size level block
    word-counts slot one =
        let leaf : IsLivePointer (root_of old one.tree) (bound one.tree) (height_of (root_of old one.tree)) (one.number / 512) =
        live_above _ _ _ _ (live_content (root_of old one.tree) (bound one.tree) one.number one.below) in
        let all : (one.tree ≡ tree) × (height_of (root_of old one.tree) ≡ down) × (one.number / 512 ≡ block) =
        same-block one.tree (height_of (root_of old one.tree)) (one.number / 512) one.reached leaf (tail slot (one.number % 512) _ one.named) in
        let first : one.number % 512 ≡ slot = head slot (one.number % 512) _ one.named in
        let deep : height_of (root_of old one.tree) ≡ height_of (root_of old tree) = ap (λ (t : ℕ). height_of (root_of old t)) all.0 in
        let none : 0 ≡ level = omega (arith, all.1, deep, height) in
        let below : 8 * one.number < bound tree = subst (λ (t : ℕ). 8 * one.number < bound t) all.0 one.below in
        subst (λ l. slot < level_live size l block) none
        (below_size block slot 1 (bound tree) size (omega arith) (omega (arith, below, all.2, first)) counts)

    -- and the pointers of a node; a root word in a leaf of the inode file is a word of that too
    pointer-counts : (slot t d k : ℕ) → IsReached old t → IsLivePointer (root_of old t) (bound t) d k → tree_trail (height_of (word old 2)) t d k ≡ slot ∷ here → slot < level_live size level block
    pointer-counts slot zero zero k r also named = absurd (cc)
    pointer-counts slot (suc i) zero k r also named =
        let inside : 64 * suc i + 64 ≤ bound 0 = forest.in_file i r in
        word-counts slot (record { tree = 0; number = 8 * suc i + 1; reached = inode_file; below = omega (arith, inside); named = named })
    pointer-counts slot t (suc d) k r also named =
        let up : IsLivePointer (root_of old t) (bound t) d (k / 512) = live_above _ _ d k (live_pointer_word _ _ (suc d) k also) in
        let all : (t ≡ tree) × (d ≡ down) × (k / 512 ≡ block) = same-block t d (k / 512) r up (tail slot (k % 512) _ named) in
        let first : k % 512 ≡ slot = head slot (k % 512) _ named in
        let deep : height_of (root_of old t) ≡ height_of (root_of old tree) = ap (λ (u : ℕ). height_of (root_of old u)) all.0 in
        let same : suc also.level ≡ level = omega (arith, also.height, all.1, deep, height) in
        let number : k ≡ 512 * block + slot = omega (arith, all.2, first) in
        let below : k * covered (suc also.level) < bound tree = subst (λ (u : ℕ). k * covered (suc also.level) < bound u) all.0 also.live in
        subst (λ l. slot < level_live size l block) same
        (below_size block slot (512 ^ suc also.level) (bound tree) size (one-le-pow (suc also.level) 512 (omega arith)) (subst (λ n. n * covered (suc also.level) < bound tree) number below) counts)

    pub block-counts : (slot : ℕ) → IsTreePointer old bound (slot ∷ here) ⊎ IsTreeWord old bound (slot ∷ here) → slot < level_live size level block
    block-counts slot (inl one) = pointer-counts slot one.tree one.depth one.index one.reached one.live one.named
    block-counts slot (inr one) = word-counts slot one
