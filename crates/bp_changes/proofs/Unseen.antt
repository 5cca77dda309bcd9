-- Words of free blocks may be any.
use Rattle.std.proofs.Common.{◌≡◌, ℕ, ◌+◌, ◌*◌, ◌/◌, ◌%◌, ◌≤◌, length, Bool, true, false, refl, ◌∙◌, subst, arith, lt_of_lt_of_le}
use Rattle.bp_layout.specs.Words.{Image, word}
use Rattle.bp_layout.specs.Inode.{size_of}
use Rattle.bp_layout.specs.Reached.{IsReached, IsLiveBlock}
use Rattle.bp_layout.specs.WellFormed.{IsWellFormed}
use Rattle.bp_layout.specs.Same.{Same}
use Rattle.bp_changes.specs.Harmless.{IsHarmless}
use Rattle.bp_changes.proofs.Frame.{same-by_agreement}
use Rattle.bp_layout.proofs.SameLaws.{same_symmetric}
use Rattle.bp_changes.proofs.Stores.{harmless_here}
use Rattle.bp_changes.proofs.Separation.{free-harmless}
use Rattle.bp_changes.specs.Trail.{LeadsTo}
use Rattle.bp_changes.specs.Forest.{IsExactSet, IsForest, IsTreePointer}
use Rattle.bp_changes.proofs.ForestLaws.{block-tree}

pub live_leads : (old : Image) (bound : ℕ → ℕ) → IsForest old bound → ((t : ℕ) → IsReached old t → size_of old t ≤ bound t) → (b : ℕ) → IsLiveBlock old b → LeadsTo old (IsTreePointer old bound) b
live_leads old bound forest sizes b one = record {
  trail = _;
  pointer = record {
    tree = one.tree;
    depth = one.has.depth;
    index = one.has.index;
    reached = one.reached;
    live = record { level = one.has.pointer.level; height = one.has.pointer.height; live = lt_of_lt_of_le one.has.pointer.live (sizes one.tree one.reached) };
    named = refl;
  };
  named = block-tree old bound forest one.tree one.has.depth one.has.index ∙ one.has.named;
  not_null = one.has.not_null;
}

pub same_unseen : (old : Image) (bound : ℕ → ℕ) (in_snapshot free : ℕ → Bool) → IsWellFormed old → IsForest old bound → ((t : ℕ) → IsReached old t → size_of old t ≤ bound t) →
    IsExactSet old (IsTreePointer old bound) in_snapshot free → (image : Image) → length image ≡ length old → ((place : ℕ) → free (place / 512) ≡ false → word image place ≡ word old place) → Same image old
same_unseen old bound in_snapshot free wf forest sizes exact image size others =
    let same : Same old image = same-by_agreement old image wf (record { whole = size; each = λ place. each place (free (place / 512)) refl }) in
    same_symmetric old image same
  where
    still : (place : ℕ) → word image place ≡ word old place → IsHarmless old place (word image place)
    still place e = rw e (harmless_here old place)

    each : (place : ℕ) → (x : Bool) → free (place / 512) ≡ x → IsHarmless old place (word image place)
    each place true is =
        let range = exact.in_range (place / 512) is in
        let at : 512 * (place / 512) + place % 512 ≡ place = omega arith in
        subst (λ p. IsHarmless old p (word image place)) at
        (free-harmless old wf (place / 512) (place % 512) (word image place) range.0 (omega arith)
        (λ live. let used : free (place / 512) ≡ false = exact.live (place / 512) (live_leads old bound forest sizes (place / 512) live) in absurd (cc)))
    each place false is = still place (others place is)
