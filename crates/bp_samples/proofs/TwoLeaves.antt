-- The tree of two leaves, with a null between them, is sound.
use Rattle.std.proofs.Common.{◌≡◌, ◌≢◌, ◌⊎◌, ℕ, zero, suc, ◌+◌, ◌-◌, ◌*◌, ◌%◌, ◌<◌, ◌≤◌, length, min, lit<, lit≤, refl, sym, ◌∙◌, ap, inl, inr, arith}
use Rattle.bp_layout.specs.Words.{Image, word, block_of, slot_word}
use Rattle.bp_layout.specs.Tree.{tree_word, node, covered, IsLivePointer, IsSound}
use Rattle.bp_layout.proofs.TreeLaws.{tree_word-zero, tree_word-suc}
use Rattle.bp_layout.proofs.LastValue.{AllWithinImage, last_value}
use Rattle.bp_samples.specs.Laid.{laid_image}
use Rattle.bp_samples.specs.declared.images.TheConstants.{TWO_LEAVES}
use Rattle.bp_samples.proofs.LaidLaws.{length-laid, word-laid}

-- the pointers of the topmost block
pointer : ℕ → ℕ
pointer zero = 16384
pointer (suc zero) = 0
pointer (suc (suc k)) = 20480

live_at : (d k : ℕ) → IsLivePointer 12289 8200 d k → ((d ≡ 0) × (k ≡ 0)) ⊎ ((d ≡ 1) × (k ≤ 2))
live_at d k live = go live.level live.height live.live
  where
    go : (level : ℕ) → d + level ≡ 1 → k * covered (suc level) < 8200 → ((d ≡ 0) × (k ≡ 0)) ⊎ ((d ≡ 1) × (k ≤ 2))
    go zero e low = inr (omega (arith, e), omega (arith, low))
    go (suc zero) e low = inl (omega (arith, e), omega (arith, low))
    go (suc (suc l)) e low = absurd (omega (arith, e))

-- where a block stands, by its number
record At (d k block : ℕ) : Type 0 where
  low : block < 8
  depth : block ≢ 0 → d ≡ min (block - 3) 1
  index : block ≢ 0 → k ≡ 2 * (block - 4)

module _ (image : Image) (first : word image 1536 ≡ 16384) (second : word image 1537 ≡ 0) (third : word image 1538 ≡ 20480) where
  child_is : (k : ℕ) → k ≤ 2 → tree_word image 12289 1 k ≡ pointer k
  unfolding pointer
  child_is zero low = tree_word-suc image 12289 0 0 ∙ ap (λ w. slot_word image (block_of w) 0) (tree_word-zero image 12289 0) ∙ first
  child_is (suc zero) low = tree_word-suc image 12289 0 1 ∙ ap (λ w. slot_word image (block_of w) 1) (tree_word-zero image 12289 0) ∙ second
  child_is (suc (suc zero)) low = tree_word-suc image 12289 0 2 ∙ ap (λ w. slot_word image (block_of w) 2) (tree_word-zero image 12289 0) ∙ third
  child_is (suc (suc (suc k))) low = absurd (omega (arith, low))

  child_at : (k : ℕ) → k ≤ 2 → At 1 k (block_of (pointer k))
  unfolding pointer
  child_at zero low = record { low = lit< tt; depth = λ _. refl; index = λ _. refl }
  child_at (suc zero) low = record { low = lit< tt; depth = λ some. absurd (some refl); index = λ some. absurd (some refl) }
  child_at (suc (suc zero)) low = record { low = lit< tt; depth = λ _. refl; index = λ _. refl }
  child_at (suc (suc (suc k))) low = absurd (omega (arith, low))

  whole_pointer : (k : ℕ) → k ≤ 2 → pointer k % 4096 ≡ 0
  unfolding pointer
  whole_pointer zero low = refl
  whole_pointer (suc zero) low = refl
  whole_pointer (suc (suc k)) low = refl

  node_at : (d k : ℕ) → IsLivePointer 12289 8200 d k → At d k (node image 12289 d k)
  node_at d k live = go (live_at d k live)
    where
      go : ((d ≡ 0) × (k ≡ 0)) ⊎ ((d ≡ 1) × (k ≤ 2)) → At d k (node image 12289 d k)
      go (inl top) =
          rw (top.0, top.1, tree_word-zero image 12289 0) (record { low = lit< tt; depth = λ _. refl; index = λ _. refl })
      go (inr below) = rw (below.0, child_is k below.1) (child_at k below.1)

  two_leaves : length image ≡ 4096 → IsSound image 12289 8200
  two_leaves whole = record {
    low = λ _. lit≤ tt;
    root_bits = λ _. refl;
    pointer_bits = λ d k live. deeper d k (live_at (suc d) k live);
    in_range = λ d k live. let at = node_at d k live in omega (arith, at.low, whole);
    once = λ d k e l live also present same.
        let one = node_at d k live in
        let two = node_at e l also in
        let there : node image 12289 e l ≢ 0 = λ null. present (same ∙ null) in
        (one.depth present ∙ ap (λ b. min (b - 3) 1) same ∙ sym (two.depth there), one.index present ∙ ap (λ b. 2 * (b - 4)) same ∙ sym (two.index there));
    fits = lit≤ tt;
  }
    where
      deeper : (d k : ℕ) → ((suc d ≡ 0) × (k ≡ 0)) ⊎ ((suc d ≡ 1) × (k ≤ 2)) → tree_word image 12289 (suc d) k % 4096 ≡ 0
      deeper d k (inl top) = absurd (omega (arith, top.0))
      deeper d k (inr below) = rw (below.0, child_is k below.1) (whole_pointer k below.1)

pub two_leaves_word : (place : ℕ) → place < 4096 → word (laid_image TWO_LEAVES) place ≡ last_value TWO_LEAVES place 0
two_leaves_word place low = let within : AllWithinImage 4096 TWO_LEAVES = omega arith in word-laid TWO_LEAVES place low within

pub two_leaves_sound : IsSound (laid_image TWO_LEAVES) 12289 8200
two_leaves_sound =
    two_leaves (laid_image TWO_LEAVES) (two_leaves_word 1536 (omega arith)) (two_leaves_word 1537 (omega arith)) (two_leaves_word 1538 (omega arith)) (length-laid TWO_LEAVES)
