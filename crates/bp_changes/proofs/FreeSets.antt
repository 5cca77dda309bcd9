-- What a well-formed image gives under the sizes that it has: its free blocks by pointers, and the word paths of content words.
use Rattle.std.proofs.Common.{◌≡◌, ◌≢◌, ◌⊎◌, ℕ, zero, suc, ◌*◌, ◌/◌, ◌%◌, ◌<◌, ◌≤◌, List, sym, ◌∙◌, ap, subst, arith, inl, inr}
use Rattle.std.proofs.lemmas.Bool.{cases_eq}
use Rattle.bp_layout.specs.Words.{Image, word, height_of}
use Rattle.bp_layout.specs.Tree.{IsLivePointer}
use Rattle.bp_layout.proofs.TreeLaws.{live_above, live_content}
use Rattle.bp_changes.specs.Trail.{trail_of}
use Rattle.bp_layout.specs.Inode.{root_of, size_of, inode_count}
use Rattle.bp_layout.specs.Reached.{IsReached}
use Rattle.bp_layout.specs.WellFormed.{IsWellFormed}
use Rattle.bp_layout.proofs.Reached.{reached-in_file}
use Rattle.bp_changes.specs.Forest.{IsForest, IsTreePointer, tree_trail}
use Rattle.bp_changes.proofs.ForestLaws.{pointers, same_trail, short}

pub wf_forest : (image : Image) → IsWellFormed image → IsForest image (size_of image)
wf_forest image wf =
    let some : 4096 ≤ size_of image 0 = wf.some_inodes in
    record {
      some = omega (arith, some);
      in_file = λ i reached. let low : suc i < inode_count image = reached-in_file image wf (suc i) reached in omega (arith, low);
      sound = wf.sound;
      low = wf.low;
      apart = wf.apart;
    }

-- ---- what the path of a content word gives a caller

module _ (image : Image) (bound : ℕ → ℕ) (forest : IsForest image bound) (path : List ℕ) where
  -- the prefixes of a prefix that is a pointer
  pub pointer_prefixes : (count d : ℕ) → d ≤ count → IsTreePointer image bound (trail_of path count) → IsTreePointer image bound (trail_of path d)
  pointer_prefixes zero zero low live = live
  pointer_prefixes zero (suc d) low live = absurd (omega (arith, low))
  pointer_prefixes (suc count) d low live = go (cases_eq d (suc count)) (λ less. pointer_prefixes count d less ((pointers image bound forest).above _ _ live))
    where
      go : (d ≡ suc count) ⊎ (d ≡ suc count → ⊥) → (d ≤ count → IsTreePointer image bound (trail_of path d)) → IsTreePointer image bound (trail_of path d)
      go (inl e) rest = subst (λ x. IsTreePointer image bound (trail_of path x)) (sym e) live
      go (inr n) rest = rest (omega (arith, low, n))

  module _ (count t k : ℕ) (reached : IsReached image t) (below : 8 * k < bound t) (is : trail_of path (suc count) ≡ tree_trail (height_of (word image 2)) t (suc (height_of (root_of image t))) k) where
    leaf : IsLivePointer (root_of image t) (bound t) (height_of (root_of image t)) (k / 512)
    leaf = live_above _ _ _ _ (live_content (root_of image t) (bound t) k below)

    pub content_prefixes : (d : ℕ) → d ≤ count → IsTreePointer image bound (trail_of path d)
    content_prefixes d low =
        let up : trail_of path count ≡ tree_trail (height_of (word image 2)) t (height_of (root_of image t)) (k / 512) = cc in
        pointer_prefixes count d low (record { tree = t; depth = height_of (root_of image t); index = k / 512; reached = reached; live = leaf; named = sym up })

    pub content_no_pointer : (t ≡ 0 → k % 8 ≢ 1) → IsTreePointer image bound (trail_of path (suc count)) → ⊥
    content_no_pointer no_root one =
        let deep : one.depth ≤ height_of (root_of image one.tree) = omega (arith, one.live.height) in
        let all : (one.tree ≡ t) × (one.depth ≡ suc (height_of (root_of image t))) × (one.index ≡ k) =
        same_trail image bound forest one.tree one.depth one.index t (suc (height_of (root_of image t))) k one.reached reached
        (short image bound forest one.tree one.depth one.index one.reached one.live) (short image bound forest t (height_of (root_of image t)) (k / 512) reached leaf)
        (omega (arith, deep)) (omega arith) (λ _ f _. absurd (omega (arith, deep, f))) (λ z _. no_root z) (one.named ∙ is) in
        let height : height_of (root_of image one.tree) ≡ height_of (root_of image t) = ap (λ (x : ℕ). height_of (root_of image x)) all.0 in
        omega (arith, deep, all.1, height)
