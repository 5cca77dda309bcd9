-- The blocks to which pointers lead are those that trees have, so the sets that are exact for the one are exact for the other.
use Rattle.std.proofs.Common.{◌≡◌, ℕ, Bool, true, false, refl, sym, ◌∙◌, ap}
use Rattle.bp_layout.specs.Free.{AreUnheld}
use Rattle.bp_layout.specs.Reached.{IsReached, HoldsBlock}
use Rattle.bp_layout.specs.Words.{Image}
use Rattle.bp_changes.specs.Forest.{IsExactSet, IsForest, IsTreePointer}
use Rattle.bp_changes.specs.Trail.{Trail, LeadsTo, block_on}
use Rattle.bp_changes.proofs.ForestLaws.{block-tree}

clash : (b : Bool) → b ≡ true → b ≡ false → ⊥
clash b one two = absurd (cc)

module _ (image : Image) (Pointer : Trail → Type 0) (Tree : ℕ → Type 0) (bound : ℕ → ℕ) (in_snapshot set : ℕ → Bool) where
  pub exact-unheld : ((b : ℕ) → HoldsBlock image Tree bound b → LeadsTo image Pointer b) → ((b : ℕ) → LeadsTo image Pointer b → HoldsBlock image Tree bound b) →
      IsExactSet image Pointer in_snapshot set → AreUnheld image Tree bound in_snapshot set
  exact-unheld led held exact = record {
    free = λ b is. let range = exact.in_range b is in record { low = range.0; high = range.1; free = λ has. clash (set b) is (exact.live b (led b has)); loose = exact.loose b is };
    all = λ b open_block. exact.dead b open_block.low open_block.high (λ has. open_block.free (held b has)) open_block.loose;
  }

  pub unheld-exact : ((b : ℕ) → HoldsBlock image Tree bound b → LeadsTo image Pointer b) → ((b : ℕ) → LeadsTo image Pointer b → HoldsBlock image Tree bound b) →
      AreUnheld image Tree bound in_snapshot set → IsExactSet image Pointer in_snapshot set
  unheld-exact led held unheld = record {
    live = λ b has. go b (set b) refl has;
    dead = λ b low high none loose. unheld.all b (record { low = low; high = high; free = λ has. none (led b has); loose = loose });
    in_range = λ b is. let free = unheld.free b is in (free.low, free.high);
    loose = λ b is. (unheld.free b is).loose;
  }
    where
      go : (b : ℕ) (x : Bool) → set b ≡ x → LeadsTo image Pointer b → set b ≡ false
      go b false e has = e
      go b true e has = absurd ((unheld.free b e).free (held b has))

-- under sizes under which the reached trees are sound
module _ (image : Image) (bound : ℕ → ℕ) (forest : IsForest image bound) where
  pub led_held : (b : ℕ) → LeadsTo image (IsTreePointer image bound) b → HoldsBlock image (IsReached image) bound b
  led_held b has = record {
    tree = has.pointer.tree;
    reached = has.pointer.reached;
    has = record {
      depth = has.pointer.depth;
      index = has.pointer.index;
      pointer = has.pointer.live;
      named = sym (block-tree image bound forest has.pointer.tree has.pointer.depth has.pointer.index) ∙ ap (block_on image) has.pointer.named ∙ has.named;
      not_null = has.not_null;
    };
  }

  pub held_led : (b : ℕ) → HoldsBlock image (IsReached image) bound b → LeadsTo image (IsTreePointer image bound) b
  held_led b has = record {
    trail = _;
    pointer = record { tree = has.tree; depth = has.has.depth; index = has.has.index; reached = has.reached; live = has.has.pointer; named = refl };
    named = block-tree image bound forest has.tree has.has.depth has.has.index ∙ has.has.named;
    not_null = has.has.not_null;
  }

  pub unheld_exact : (in_snapshot set : ℕ → Bool) → AreUnheld image (IsReached image) bound in_snapshot set → IsExactSet image (IsTreePointer image bound) in_snapshot set
  unheld_exact in_snapshot set unheld = unheld-exact image (IsTreePointer image bound) (IsReached image) bound in_snapshot set held_led led_held unheld
