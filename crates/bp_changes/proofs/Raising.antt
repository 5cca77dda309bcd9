-- A higher root over the same bytes.
use Rattle.std.proofs.Common.{◌≡◌, ℕ, zero, suc, ◌*◌, ◌/◌, ◌%◌, ◌<◌, ◌≤◌, sym, ◌∙◌, ap, arith}
use Rattle.bp_layout.specs.Words.{Image, block_of, height_of, slot_word}
use Rattle.bp_layout.specs.Tree.{tree_word, node, content_word, covered, IsLivePointer}
use Rattle.bp_layout.proofs.TreeLaws.{KeepsPointers, live_above, live_pointer_word, live_content, tree_word-suc}
use Rattle.bp_layout.proofs.TreeLaws.{first_index}

-- the new top's first slot holds the old root's block, and the words of the old tree stay
pub record Raises (old new : Image) (root other size : ℕ) : Type 0 where
  pub taller : height_of other ≡ suc (height_of root)
  pub slot : slot_word new (block_of other) 0 ≡ 4096 * block_of root
  pub keeps : KeepsPointers old new root size
  pub fits : size ≤ covered (suc (height_of root))

module _ (old new : Image) (root other size : ℕ) (raises : Raises old new root other size) where
  pub node-raised : (d k : ℕ) → IsLivePointer root size d k → node new other (suc d) k ≡ node new root d k
  unfolding tree_word
  node-raised zero k live =
      let first : k ≡ 0 = first_index root size k raises.fits live in
      let column : k % 512 ≡ 0 = omega (arith, first) in
      rw column (omega (arith, raises.slot))
  node-raised (suc d) k live =
      let above : node new other (suc d) (k / 512) ≡ node new root d (k / 512) = node-raised d (k / 512) (live_above root size d k (live_pointer_word root size (suc d) k live)) in
      ap (λ b. block_of (slot_word new b (k % 512))) above

  -- the bytes are the old ones
  pub content-raised : (k : ℕ) → 8 * k < size → content_word new other k ≡ content_word new root k
  content-raised k below =
      ap (λ h. tree_word new other (suc h) k) raises.taller
      ∙ tree_word-suc new other (suc (height_of root)) k
      ∙ ap (λ b. slot_word new b (k % 512)) (node-raised (height_of root) (k / 512) (live_above root size (height_of root) k (live_content root size k below)))
      ∙ sym (tree_word-suc new root (height_of root) k)

  -- the new tree's live pointers are the new root and the old ones
  pub live_lowered : (d k : ℕ) → IsLivePointer other size (suc d) k → IsLivePointer root size d k
  live_lowered d k live = record { level = live.level; height = omega (arith, live.height, raises.taller); live = live.live }
