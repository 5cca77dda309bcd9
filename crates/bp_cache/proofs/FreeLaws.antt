-- What the slots that may be empty describe those that are.
use Rattle.std.proofs.Common.{◌≡◌, ◌≢◌, ℕ, ◌/◌, ◌<◌, ◌≤◌, ◌==◌, true, false, ◌⊎◌, inl, inr, [], length, None, Some, sym, ◌∙◌, ap, arith}
use Rattle.std.proofs.Math.ListN.{length-set}
use Rattle.std.proofs.lemmas.Bool.{eqb-true, eq-eqb, false_from_ne_true, cases_eq, both_ways}
use Rattle.bp_free.specs.Set.{Set, has, members, without, IsLeast}
use Rattle.bp_free.proofs.Members.{has_without_other, taken_least}
use Rattle.bp_free.proofs.Summary.{none_in}
use Rattle.bp_layout.specs.Words.{Image}
use Rattle.bp_layout.specs.Directory.{ino_in, empty_slot_in}
use Rattle.bp_layout.proofs.Finding.{find-first, find-nothing}
use Rattle.bp_cache.specs.declared.index.Index.{Index}
use Rattle.bp_cache.specs.Index.{IsIndexOf}

-- one slot fewer is left where the least was taken out
pub fewer_left : (old new : Set) (slot : ℕ) → IsLeast old slot → new ≡ without old slot → length (members new) < length (members old)
fewer_left old new slot least out = omega (arith, (taken_least old new slot least out).count)

module _ (image : Image) (root size : ℕ) (index : Index) (right : IsIndexOf image root size index) where
  -- a slot that is not among those that may be empty is not
  taken_slot : (slot : ℕ) → slot < size / 256 → has index.empties slot ≡ false → (ino_in image root slot == 0) ≡ false
  taken_slot slot live out = false_from_ne_true _ (λ none. both_ways (has index.empties slot) out ((right.each slot live).empty (eqb-true _ _ none)))

  pub none_empty : members index.empties ≡ [] → None ≡ empty_slot_in image root size
  none_empty none = sym (find-nothing (λ slot. ino_in image root slot == 0) 0 (size / 256) (λ r low high. taken_slot r (omega (arith, high)) (none_in index.empties none r)))

  module _ (slot : ℕ) (least : IsLeast index.empties slot) where
    pub none_below : size / 256 ≤ slot → None ≡ empty_slot_in image root size
    none_below past = sym (find-nothing (λ r. ino_in image root r == 0) 0 (size / 256) (λ r low high. taken_slot r (omega (arith, high)) (least.first r (omega (arith, high, past)))))

    pub first_empty : slot < size / 256 → ino_in image root slot ≡ 0 → Some slot ≡ empty_slot_in image root size
    first_empty live none =
        sym (find-first (λ r. ino_in image root r == 0) 0 (size / 256) slot (omega arith) (omega (arith, live)) (eq-eqb _ _ none)
        (λ r low high. taken_slot r (omega (arith, high, live)) (least.first r high)))

    -- the index is right without a slot that is not empty after all
    pub right_without : (slot < size / 256 → ino_in image root slot ≢ 0) → (empties : Set) → empties ≡ without index.empties slot → IsIndexOf image root size (record index { empties = empties })
    right_without taken empties is = record {
      each = λ other live. record {
        room = omega (arith, (right.each other live).room, ap length is, length-set index.empties slot false);
        named = λ some. let led = (right.each other live).named some in record { first = led.first; table = led.table; here = led.here };
        empty = λ none. ap (λ s. has s other) is ∙ still other live none (cases_eq other slot);
      };
    }
      where
        still : (other : ℕ) → other < size / 256 → ino_in image root other ≡ 0 → (other ≡ slot) ⊎ (other ≡ slot → ⊥) → has (without index.empties slot) other ≡ true
        still other live none (inl here) = absurd (taken (omega (arith, here, live)) (ap (ino_in image root) (sym here) ∙ none))
        still other live none (inr apart) = has_without_other index.empties slot other apart ∙ (right.each other live).empty none
