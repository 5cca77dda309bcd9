-- Trees with no live block, and with one.
use Rattle.std.proofs.Common.{◌≡◌, ◌≢◌, ℕ, suc, ◌*◌, ◌%◌, ◌<◌, ◌≤◌, refl, sym, ◌∙◌, subst, suc-ne-zero, arith}
use Rattle.bp_layout.specs.Words.{Image, block_count, block_of, height_of, slot_word}
use Rattle.bp_layout.specs.Tree.{tree_word, node, content_word, covered, IsLivePointer, HasBlock, IsSound, IsFull}

-- no pointer is live at size 0
pub none_live : (root d k : ℕ) → IsLivePointer root 0 d k → ⊥
none_live root d k live = omega (arith, live.live)

pub empty_sound : (image : Image) (root : ℕ) → IsSound image root 0
empty_sound image root = record {
  low = λ h. absurd (omega (arith, h));
  root_bits = λ h. absurd (omega (arith, h));
  pointer_bits = λ d k live. absurd (none_live root (suc d) k live);
  in_range = λ d k live. absurd (none_live root d k live);
  once = λ d k e l live also present same. absurd (none_live root d k live);
  fits = omega arith;
}

pub empty_has_none : (image : Image) (root b : ℕ) → HasBlock image root 0 b → ⊥
empty_has_none image root b has = none_live root has.depth has.index has.pointer

-- a tree of one leaf has one live pointer
pub one_live : (root size d k : ℕ) → height_of root ≡ 0 → size ≤ 4096 → IsLivePointer root size d k → (d ≡ 0) × (k ≡ 0)
one_live root size d k flat small live =
    let at : live.level ≡ 0 = omega (arith, live.height) in
    let first : k * covered (suc 0) < size = subst (λ l. k * covered (suc l) < size) at live.live in
    (omega (arith, live.height), omega (arith, first))

-- the node of the root pointer
pub node-zero : (image : Image) (root d k : ℕ) → d ≡ 0 → node image root d k ≡ block_of root
unfolding tree_word
node-zero image root d k at = rw at refl

pub leaf_sound : (image : Image) (root size : ℕ) → root % 4096 ≡ 0 → block_of root < block_count image → size ≤ 4096 → IsSound image root size
leaf_sound image root size whole in_range small =
    let flat : height_of root ≡ 0 = omega arith in
    record {
      low = λ h. omega arith;
      root_bits = λ h. omega arith;
      pointer_bits = λ d k live. absurd (suc-ne-zero d (one_live root size (suc d) k flat small live).0);
      in_range = λ d k live. rw (node-zero image root d k (one_live root size d k flat small live).0) in_range;
      once = λ d k e l live also present same.
          let at = one_live root size d k flat small live in
          let also_at = one_live root size e l flat small also in
          (at.0 ∙ sym also_at.0, at.1 ∙ sym also_at.1);
      fits = rw flat small;
    }

pub leaf_full : (image : Image) (root size : ℕ) → root % 4096 ≡ 0 → block_of root ≢ 0 → size ≤ 4096 → IsFull image root size
leaf_full image root size whole present small d k live null =
    present (sym (node-zero image root d k (one_live root size d k (omega arith) small live).0) ∙ null)

-- a content word of a tree of height 0
pub content_word-leaf : (image : Image) (root k : ℕ) → height_of root ≡ 0 → content_word image root k ≡ slot_word image (block_of root) (k % 512)
unfolding tree_word
content_word-leaf image root k flat = rw flat refl
