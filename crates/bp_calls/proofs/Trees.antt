-- An image whose reached trees stand where those of another stand.
use Rattle.std.proofs.Common.{◌≡◌, ◌⊎◌, ℕ, ◌+◌, ◌*◌, ◌/◌, ◌%◌, ◌<◌, sym, ◌∙◌, ap, arith, inl, inr}
use Rattle.bp_changes.specs.Harmless.{IsHarmless, Agrees}
use Rattle.bp_layout.specs.Inode.{ContentStandsAt, root_of, size_of}
use Rattle.bp_layout.specs.Reached.{IsReached}
use Rattle.bp_layout.specs.Tree.{node, content_word, HasBlock, IsLivePointer}
use Rattle.bp_layout.specs.WellFormed.{IsWellFormed}
use Rattle.bp_layout.specs.Words.{Image, word, height_of, slot_word}
use Rattle.bp_changes.proofs.Frame as frame
use Rattle.bp_changes.proofs.Stores.{harmless_here}
use Rattle.pm_epochs.specs.May.{AnyAt, EachMay}
use Rattle.bp_calls.specs.Spare.{IsSpare}
use Rattle.bp_layout.proofs.TreeLaws.{KeepsPointers, node-kept, slot_word-at, tree_word-suc}
use Rattle.bp_calls.proofs.AfterLaws.{IsPrepared, agrees_prepared}

-- The second image means the same, and its trees stand where those of the first stand. A tree without bytes may have another root word.
pub record SameTrees (old new : Image) : Type 0 where
  pub prepared : IsPrepared old new
  pub root : (t : ℕ) → IsReached old t → 0 < size_of old t → root_of new t ≡ root_of old t
  pub keeps : (t : ℕ) → IsReached old t → KeepsPointers old new (root_of old t) (size_of old t)

-- stores of values that may stand
pub agreed_trees : (old new : Image) → IsWellFormed old → Agrees old new → SameTrees old new
agreed_trees old new wf agrees = record {
  prepared = agrees_prepared old new wf agrees;
  root = frame.root-same old new wf agrees;
  keeps = frame.keeps old new wf agrees;
}

-- stores of any values at places that nobody reads
pub spare_trees : (old new : Image) → IsWellFormed old → EachMay (AnyAt (IsSpare old)) old new → SameTrees old new
spare_trees old new wf all = agreed_trees old new wf (record { whole = all.size; each = λ place. go place (all.each place) })
  where
    go : (place : ℕ) → (word new place ≡ word old place) ⊎ AnyAt (IsSpare old) place (word new place) → IsHarmless old place (word new place)
    go place (inl same) = rw same (harmless_here old place)
    go place (inr any) = any (word new place)

-- ---- what stands at the places of the first image

-- a leaf that begins below the size is live
pub live_leaf : (root size leaf : ℕ) → 4096 * leaf < size → IsLivePointer root size (height_of root) leaf
live_leaf root size leaf below = record { level = 0; height = omega arith; live = omega (arith, below) }

-- a block stays where the size grows
pub has_more : (image : Image) (root size more b : ℕ) → HasBlock image root size b → HasBlock image root (size + more) b
has_more image root size more b has = record {
  depth = has.depth;
  index = has.index;
  pointer = record { level = has.pointer.level; height = has.pointer.height; live = omega (arith, has.pointer.live) };
  named = has.named;
  not_null = has.not_null;
}

module _ (old new : Image) (trees : SameTrees old new) (t k place : ℕ) (reached : IsReached old t) (below : 4096 * (k / 512) < size_of old t) (stands : ContentStandsAt old t k place) where
  some : 0 < size_of old t
  some = omega (arith, below)

  leaf_stays : node new (root_of old t) (height_of (root_of old t)) (k / 512) ≡ node old (root_of old t) (height_of (root_of old t)) (k / 512)
  leaf_stays = node-kept old new (root_of old t) (size_of old t) (trees.keeps t reached) (height_of (root_of old t)) (k / 512) (live_leaf (root_of old t) (size_of old t) (k / 512) below)

  pub word_kept : content_word new (root_of new t) k ≡ word new place
  word_kept =
      rw (trees.root t reached some)
      (tree_word-suc new (root_of old t) (height_of (root_of old t)) k
      ∙ ap (λ b. slot_word new b (k % 512)) leaf_stays
      ∙ slot_word-at new _ (k % 512) stands.present
      ∙ ap (word new) stands.at)

  pub stands_kept : ContentStandsAt new t k place
  stands_kept =
      let leaf : node new (root_of new t) (height_of (root_of new t)) (k / 512) ≡ node old (root_of old t) (height_of (root_of old t)) (k / 512) =
      ap (λ r. node new r (height_of r) (k / 512)) (trees.root t reached some) ∙ leaf_stays in
      record { present = λ null. stands.present (sym leaf ∙ null); at = ap (λ b. 512 * b + k % 512) leaf ∙ stands.at }
