-- The trail of a content word reports its tree and its number.
use Rattle.std.proofs.Common.{◌≡◌, ℕ, zero, suc, ◌+◌, ◌*◌, ◌/◌, ◌<◌, [], length, refl, sym, ap, arith}
use Rattle.bp_layout.specs.Inode.{root_of}
use Rattle.bp_layout.specs.Reached.{IsReached}
use Rattle.bp_layout.specs.Tree.{IsLivePointer}
use Rattle.bp_layout.specs.Words.{Image, word, height_of}
use Rattle.bp_layout.proofs.TreeLaws.{live_above, live_content}
use Rattle.bp_changes.specs.Forest.{IsForest, along, root_trail, tree_trail}
use Rattle.bp_changes.specs.Trail.{Trail}
use Rattle.bp_changes.proofs.ForestLaws.{same_along, same_trail, short}

-- the trail of word k of tree t
abbrev pub word_trail : Image → ℕ → ℕ → Trail
word_trail image t k = tree_trail (height_of (word image 2)) t (suc (height_of (root_of image t))) k

long_along : (base : Trail) (depth index : ℕ) → length (along base depth index) ≡ depth + length base
long_along base zero index = omega arith
long_along base (suc depth) index = omega (arith, long_along base depth (index / 512))

module _ (image : Image) (bound : ℕ → ℕ) (forest : IsForest image bound) where
  -- a word of the inode file is on a shorter trail than those of an inode's tree
  other_tree : (k m l : ℕ) → word_trail image 0 k ≡ word_trail image (suc m) l → ⊥
  other_tree k m l same =
      omega (
        arith,
        ap (λ (x : Trail). length x) same,
        long_along [] (suc (height_of (root_of image 0))) k,
        long_along (root_trail (height_of (word image 2)) (suc m)) (suc (height_of (root_of image (suc m)))) l,
        long_along [] (suc (height_of (word image 2))) (8 * suc m + 1),
      )

  leaf : (t k : ℕ) → 8 * k < bound t → IsLivePointer (root_of image t) (bound t) (height_of (root_of image t)) (k / 512)
  leaf t k low = live_above _ _ _ _ (live_content (root_of image t) (bound t) k low)

  pub same_word : (t k u l : ℕ) → IsReached image t → IsReached image u → 8 * k < bound t → 8 * l < bound u → word_trail image t k ≡ word_trail image u l → (t ≡ u) × (k ≡ l)
  same_word zero k zero l one two low few same =
      let all = same_along [] [] (suc (height_of (root_of image 0))) k l
      (short image bound forest 0 (height_of (root_of image 0)) (k / 512) one (leaf 0 k low)) (short image bound forest 0 (height_of (root_of image 0)) (l / 512) two (leaf 0 l few)) same in
      (refl, all.1)
  same_word zero k (suc m) l one two low few same = absurd (other_tree k m l same)
  same_word (suc n) k zero l one two low few same = absurd (other_tree l n k (sym same))
  same_word (suc n) k (suc m) l one two low few same =
      let all = same_trail image bound forest (suc n) (suc (height_of (root_of image (suc n)))) k (suc m) (suc (height_of (root_of image (suc m)))) l one two
      (short image bound forest (suc n) (height_of (root_of image (suc n))) (k / 512) one (leaf (suc n) k low))
      (short image bound forest (suc m) (height_of (root_of image (suc m))) (l / 512) two (leaf (suc m) l few))
      (omega arith) (omega arith) (λ e _ _. absurd (omega (arith, e))) (λ e _ _. absurd (omega (arith, e))) same in
      (all.0, all.2)
