-- How many words count of a block on the way to a leaf of a run: those below the size of its tree.
use Rattle.std.proofs.Common.{◌≡◌, ◌⊎◌, ℕ, suc, ◌+◌, ◌-◌, ◌*◌, ◌/◌, ◌^◌, ◌<◌, ◌≤◌, ◌∷◌, length, Bool, true, false, refl, ◌∙◌, ap, subst, arith, pow-suc}
use Rattle.std.specs.Prelude.{nat_le}
use Rattle.std.proofs.lemmas.Bool.{le-leb, leb-true}
use Rattle.std.proofs.Math.Nat.{div-mul-le_self}
use Rattle.bp_layout.specs.Inode.{root_of}
use Rattle.bp_layout.specs.Tree.{IsLivePointer}
use Rattle.bp_layout.specs.Words.{Image, word, height_of}
use Rattle.bp_changes.specs.Forest.{along, tree_trail, IsForest, IsTreePointer}
use Rattle.bp_changes.specs.Trail.{trail_of}
use Rattle.bp_cow.specs.declared.touched.Run.{Run}
use Rattle.bp_cow.specs.CanCommit.{IsRunIn}
use Rattle.bp_cow.specs.Counting.{IsTreeWord}
use Rattle.bp_cow.specs.Touched.{leaf_live, run_live, run_way}
use Rattle.bp_cow.proofs.NodeLive.{block-counts}
use Rattle.bp_cow.proofs.RunPrefixes.{prefix-digits}

-- what begins below a block's leaf begins below the size
scaled : (node power leaf size : ℕ) → node * power ≤ leaf → 4096 * leaf < size → node * (8 * (power * 512)) < size
scaled node power leaf size low below = omega (arith, low, below)

module _ (old : Image) (bound : ℕ → ℕ) (forest : IsForest old bound) (run : Run) (at : IsRunIn old bound run) (j : ℕ) (low : 4096 * (run.offset / 4096 + j) < bound (suc at.inode)) where
  abbrev tree : ℕ
  tree = suc at.inode

  abbrev leaf : ℕ
  leaf = run.offset / 4096 + j

  -- a block, by how many levels it stands below the root
  module _ (down : ℕ) (few : down ≤ run.height) where
    abbrev level : ℕ
    level = run.height - down

    abbrev block : ℕ
    block = leaf / 512 ^ level

    block-trail : trail_of (run_way run j) (length run.root.items + down) ≡ tree_trail (height_of (word old 2)) tree down block
    block-trail = prefix-digits run.root.items run.height leaf down (omega (arith, few)) ∙ ap (λ b. along b down block) at.root

    block-live : IsLivePointer (root_of old tree) (bound tree) down block
    block-live = record {
      level = level;
      height = omega (arith, few, at.height);
      live = rw pow-suc (scaled block (512 ^ level) leaf (bound tree) (div-mul-le_self leaf (512 ^ level)) low);
    }

    run-block-counts : (slot : ℕ) →
        IsTreePointer old bound (slot ∷ trail_of (run_way run j) (length run.root.items + down)) ⊎ IsTreeWord old bound (slot ∷ trail_of (run_way run j) (length run.root.items + down)) →
        slot < leaf_live run.size level leaf
    run-block-counts slot any =
        block-counts old bound forest tree at.reached down block level run.size (omega (arith, few, at.height)) block-live at.counts slot
        (subst (λ q. IsTreePointer old bound (slot ∷ q) ⊎ IsTreeWord old bound (slot ∷ q)) block-trail any)

  -- at each depth of the way
  pub run-counts : (depth slot : ℕ) → slot < 512 → IsTreePointer old bound (slot ∷ trail_of (run_way run j) depth) ⊎ IsTreeWord old bound (slot ∷ trail_of (run_way run j) depth) → slot < run_live run j depth
  run-counts depth slot small any = go (nat_le (length run.root.items) depth) refl (nat_le depth (length run.root.items + run.height)) refl
    where
      go : (x : Bool) → nat_le (length run.root.items) depth ≡ x → (y : Bool) → nat_le depth (length run.root.items + run.height) ≡ y → slot < run_live run j depth
      go false e y f = rw e small
      go true e false f = rw (e, f) small
      go true e true f =
          let past : length run.root.items ≤ depth = leb-true (length run.root.items) depth e in
          let under : depth ≤ length run.root.items + run.height = leb-true depth (length run.root.items + run.height) f in
          let down : ℕ = depth - length run.root.items in
          let at_depth : depth ≡ length run.root.items + down = omega (arith, past) in
          let up : run.height - down ≡ length run.root.items + run.height - depth = omega (arith, past, under) in
          rw (e, f)
          (subst (λ l. slot < leaf_live run.size l leaf) up
          (run-block-counts down (omega (arith, past, under)) slot
          (subst (λ d. IsTreePointer old bound (slot ∷ trail_of (run_way run j) d) ⊎ IsTreeWord old bound (slot ∷ trail_of (run_way run j) d)) at_depth any)))

-- a block of the tree on the way to a leaf
pub live-level : (run : Run) (j depth : ℕ) → length run.root.items ≤ depth → depth ≤ length run.root.items + run.height → run_live run j depth ≡ leaf_live run.size (length run.root.items + run.height - depth) (run.offset / 4096 + j)
live-level run j depth past under =
    let first : nat_le (length run.root.items) depth ≡ true = le-leb (length run.root.items) depth past in
    let second : nat_le depth (length run.root.items + run.height) ≡ true = le-leb depth (length run.root.items + run.height) under in
    rw (first, second) refl
