-- Over a preparation of one tree each other tree keeps its blocks.
use Rattle.std.proofs.Common.{◌≡◌, ◌≢◌, ℕ, zero, suc, List, sym, ◌∙◌, ap, subst₂, arith}
use Rattle.bp_layout.specs.Words.{Image, block_of, height_of}
use Rattle.bp_layout.specs.Tree.{node, HasBlock, IsLivePointer}
use Rattle.bp_layout.specs.Inode.{root_of, size_of}
use Rattle.bp_layout.specs.Reached.{IsReached}
use Rattle.bp_layout.proofs.TreeLaws.{tree_word-zero, live_pointer_word}
use Rattle.bp_append.specs.Prepared.{Prepares}

module _ (old new : Image) (t from to : ℕ) (bytes taken : List ℕ) (ready : Prepares old new t from to bytes taken) (u : ℕ) (reached : IsReached old u)
    (away : u ≢ t) where
  -- no pointer of it changes
  pub node_stays : (d k : ℕ) → IsLivePointer (root_of old u) (size_of old u) d k → node new (root_of new u) d k ≡ node old (root_of old u) d k
  node_stays zero k live = ap block_of (tree_word-zero new (root_of new u) k ∙ ready.roots u reached away ∙ sym (tree_word-zero old (root_of old u) k))
  node_stays (suc d) k live =
      ap block_of (ready.others u d k reached away (live_pointer_word _ _ (suc d) k live)
      (λ zero depth index. let same : height_of (root_of old u) ≡ height_of (root_of old 0) = ap (λ v. height_of (root_of old v)) zero in omega (arith, live.height, same, depth)))

  here : (d k : ℕ) → IsLivePointer (root_of new u) (size_of new u) d k → IsLivePointer (root_of old u) (size_of old u) d k
  here d k live = subst₂ (λ r s. IsLivePointer r s d k) (ready.roots u reached away) (ready.sizes u reached) live

  pub other_block_back : (b : ℕ) → HasBlock new (root_of new u) (size_of new u) b → HasBlock old (root_of old u) (size_of old u) b
  other_block_back b has = record {
    depth = has.depth;
    index = has.index;
    pointer = here has.depth has.index has.pointer;
    named = sym (node_stays has.depth has.index (here has.depth has.index has.pointer)) ∙ has.named;
    not_null = has.not_null;
  }

  pub other_block_on : (b : ℕ) → HasBlock old (root_of old u) (size_of old u) b → HasBlock new (root_of new u) (size_of new u) b
  other_block_on b has = record {
    depth = has.depth;
    index = has.index;
    pointer = subst₂ (λ r s. IsLivePointer r s has.depth has.index) (sym (ready.roots u reached away)) (sym (ready.sizes u reached)) has.pointer;
    named = node_stays has.depth has.index has.pointer ∙ has.named;
    not_null = has.not_null;
  }
