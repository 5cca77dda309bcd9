-- How many words count of a block on the way to a word, where trees are given with their sizes.
use Rattle.std.proofs.Common.{◌≡◌, ◌⊎◌, ℕ, zero, suc, ◌+◌, ◌-◌, ◌*◌, ◌/◌, ◌%◌, ◌^◌, ◌<◌, ◌≤◌, List, [], ◌∷◌, length, Bool, true, false, refl, sym, ◌∙◌, ap, subst, arith, inl, inr}
use Rattle.std.specs.Prelude.{slice_index, nat_eq}
use Rattle.std.proofs.Math.Nat.{pow-le-pow_right}
use Rattle.std.specs.Bool.{Decides}
use Rattle.std.proofs.lemmas.Bool.Decides.{Decides-and}
use Rattle.std.proofs.lemmas.Bool.{leb-true, le-leb, eq-eqb, eqb-true}
use Rattle.std.proofs.lemmas.Slice.Eq.{bytes_eq-Decides}
use Rattle.bp_layout.specs.Members.{Has}
use Rattle.bp_layout.specs.WordPaths.{WordPath}
use Rattle.bp_layout.specs.Words.{Image, word, height_of}
use Rattle.bp_changes.specs.Forest.{along, tree_trail, IsForest, IsTreePointer}
use Rattle.bp_changes.specs.Trail.{Trail, trail_of}
use Rattle.bp_changes.proofs.ForestLaws.{HasFewDigits}
use Rattle.bp_cow.specs.declared.touched.TreeSize.{TreeSize}
use Rattle.bp_cow.specs.CanCommit.{IsTreeIn}
use Rattle.bp_cow.specs.Counting.{IsTreeWord}
use Rattle.bp_cow.specs.Touched.{has_block, slots_number, tree_live, word_live}
use Rattle.bp_cow.proofs.SharedLaws.{AreAlike, alike-most}
use Rattle.bp_cow.proofs.NodeLive.{block-counts, trail-live}

cons : {s u : ℕ} {p q : Trail} → s ≡ u → p ≡ q → s ∷ p ≡ u ∷ q
cons e f = cc

-- a number of at most five slots
pub number-low : (n count : ℕ) → n < 512 ^ count → count ≤ 5 → n < 2 ^ 45
number-low n count low few = let most : 512 ^ count ≤ 512 ^ 5 = pow-le-pow_right {n = 512} (omega arith) few in omega (arith, low, most)

module _ (path : WordPath) (from : ℕ) where
  -- the trail of a prefix by the number that its slots make
  slots-along : (count : ℕ) → ((d : ℕ) → d < from + count → slice_index path d < 512) → trail_of path (from + count) ≡ along (trail_of path from) count (slots_number path from count)
  slots-along zero small = let here : from + 0 ≡ from = omega arith in ap (trail_of path) here
  slots-along (suc count) small =
      let next : from + suc count ≡ suc (from + count) = omega arith in
      let low : slice_index path (from + count) < 512 = small (from + count) (omega arith) in
      let up : (512 * slots_number path from count + slice_index path (from + count)) / 512 ≡ slots_number path from count = omega (arith, low) in
      let last : (512 * slots_number path from count + slice_index path (from + count)) % 512 ≡ slice_index path (from + count) = omega (arith, low) in
      ap (trail_of path) next ∙ cons (sym last) (slots-along count (λ d less. small d (omega (arith, less))) ∙ ap (along (trail_of path from) count) (sym up))

  slots-few : (count : ℕ) → ((d : ℕ) → d < from + count → slice_index path d < 512) → HasFewDigits count (slots_number path from count)
  slots-few zero small = refl
  slots-few (suc count) small =
      let low : slice_index path (from + count) < 512 = small (from + count) (omega arith) in
      let up : (512 * slots_number path from count + slice_index path (from + count)) / 512 ≡ slots_number path from count = omega (arith, low) in
      subst (HasFewDigits count) (sym up) (slots-few count (λ d less. small d (omega (arith, less))))

-- where a block is one of a tree
pub record IsBlockAt (tree : TreeSize) (path : WordPath) (depth : ℕ) : Type 0 where
  pub past : length tree.root.items ≤ depth
  pub under : depth ≤ length tree.root.items + tree.height
  pub root : trail_of path (length tree.root.items) ≡ trail_of tree.root.items (length tree.root.items)

module _ (tree : TreeSize) (path : WordPath) (depth : ℕ) where
  abbrev above : ℕ
  above = length tree.root.items

  decided : Decides (has_block tree path depth) (((above ≤ depth) × (depth ≤ above + tree.height)) × (trail_of path above ≡ trail_of tree.root.items above))
  decided =
      Decides-and _ _
      (Decides-and _ _ (leb-true above depth, le-leb above depth) (leb-true depth (above + tree.height), le-leb depth (above + tree.height)))
      (bytes_eq-Decides (trail_of path above) (trail_of tree.root.items above))

  pub block-at : has_block tree path depth ≡ true → IsBlockAt tree path depth
  block-at is = let all = decided.0 is in record { past = all.0.0; under = all.0.1; root = all.1 }

  pub at-block : IsBlockAt tree path depth → has_block tree path depth ≡ true
  at-block is = decided.1 ((is.past, is.under), is.root)

-- whether it is one there, by how many slots the way and the path of the tree's root word have alike
pub block-by-alike : (tree : TreeSize) (path : WordPath) (depth n : ℕ) → depth ≤ length path → length tree.root.items ≤ depth → depth ≤ length tree.root.items + tree.height → AreAlike path tree.root.items n →
    nat_eq n (length tree.root.items) ≡ has_block tree path depth
block-by-alike tree path depth n low past under is = go (has_block tree path depth) refl
  where
    go : (x : Bool) → has_block tree path depth ≡ x → nat_eq n (length tree.root.items) ≡ has_block tree path depth
    go true e =
        let most : length tree.root.items ≤ n = alike-most path tree.root.items n (length tree.root.items) is (omega (arith, low, past)) (omega arith) (block-at tree path depth e).root in
        let there : n ≤ length tree.root.items = is.there in
        eq-eqb n (length tree.root.items) (omega (arith, most, there)) ∙ sym e
    go false e = other (nat_eq n (length tree.root.items)) refl ∙ sym e
      where
        other : (y : Bool) → nat_eq n (length tree.root.items) ≡ y → nat_eq n (length tree.root.items) ≡ false
        other false f = f
        other true f =
            let same : n ≡ length tree.root.items = eqb-true n (length tree.root.items) f in
            let is_node = at-block tree path depth (record { past = past; under = under; root = subst (λ m. trail_of path m ≡ trail_of tree.root.items m) same is.same }) in
            absurd (cc)

module _ (old : Image) (bound : ℕ → ℕ) (forest : IsForest old bound) (path : WordPath) (depth : ℕ) (slots : (d : ℕ) → d < depth → slice_index path d < 512) (here : IsTreePointer old bound (trail_of path depth)) (slot : ℕ) (small : slot < 512)
    (any : IsTreePointer old bound (slot ∷ trail_of path depth) ⊎ IsTreeWord old bound (slot ∷ trail_of path depth)) where
  tree-counts : (tree : TreeSize) → IsTreeIn old bound tree → IsBlockAt tree path depth → slot < tree_live tree path depth
  tree-counts tree at is =
      block-counts old bound forest at.number at.reached down block level tree.size (omega (arith, is.past, is.under, at.height))
      (trail-live old bound forest at.number at.reached down block (slots-few path (length tree.root.items) down few) (omega (arith, is.past, is.under, at.height)) (subst (IsTreePointer old bound) trail here))
      at.counts slot (subst (λ q. IsTreePointer old bound (slot ∷ q) ⊎ IsTreeWord old bound (slot ∷ q)) trail any)
    where
      down : ℕ
      down = depth - length tree.root.items

      level : ℕ
      level = length tree.root.items + tree.height - depth

      block : ℕ
      block = slots_number path (length tree.root.items) down

      whole : depth ≡ length tree.root.items + down
      whole = omega (arith, is.past)

      few : (d : ℕ) → d < length tree.root.items + down → slice_index path d < 512
      few d less = slots d (omega (arith, less, whole))

      trail : trail_of path depth ≡ tree_trail (height_of (word old 2)) at.number down block
      trail = ap (trail_of path) whole ∙ slots-along path (length tree.root.items) down few ∙ ap (λ b. along b down block) (is.root ∙ at.root)

  pub word-counts : (trees : List TreeSize) → ((tree : TreeSize) → Has trees tree → IsTreeIn old bound tree) → slot < word_live trees path depth
  word-counts [] at = small
  word-counts (tree ∷ trees) at = go (has_block tree path depth) refl (word-counts trees (λ t has. at t (inr has)))
    where
      go : (x : Bool) → has_block tree path depth ≡ x → slot < word_live trees path depth → slot < word_live (tree ∷ trees) path depth
      go false e rest = rw e rest
      go true e rest = rw e (tree-counts tree (at tree (inl refl)) (block-at tree path depth e))
