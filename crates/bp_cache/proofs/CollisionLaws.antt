-- Lists of slots with their hashes.
use Rattle.std.proofs.Common.{◌≡◌, ◌≢◌, ◌⊎◌, ℕ, ◌+◌, ◌-◌, ◌<◌, ◌≤◌, min, List, length, Bool, true, false, nat_lt, Option, None, Some, slice_index_or, refl, sym, ◌∙◌, ap, subst, inl, inr, arith}
use Rattle.std.specs.Prelude.{IfNone, IfSome}
use Rattle.std.proofs.lemmas.Bool.{cases_eq, ltb-false, ltb-true}
use Rattle.std.proofs.lemmas.List.{get_or_read}
use Rattle.bp_layout.specs.Paths.{Name}
use Rattle.bp_layout.specs.Words.{Image}
use Rattle.bp_read.specs.declared.spot.Found.{Found}
use Rattle.bp_cache.specs.declared.collisions.HashedSlot.{HashedSlot}
use Rattle.bp_cache.specs.Collisions.{CollidesBelow, IsLeastNamed, hashed, lesser_found}
use Rattle.bp_cache.specs.Entries.{IsEntryAt, IsNotAt}

-- the least slot with a hash, among the first `bound`
pub record IsLeastBelow (items : List HashedSlot) (bound hash : ℕ) (result : Option ℕ) : Type 0 where
  pub some : IfSome result (CollidesBelow items bound hash)
  pub least : IfSome result (λ it. (slot : ℕ) → CollidesBelow items bound hash slot → it ≤ slot)
  pub none : IfNone result ((slot : ℕ) → CollidesBelow items bound hash slot → ⊥)

module _ (items : List HashedSlot) (k : ℕ) where
  -- one place more has one slot more
  below_more : (hash slot : ℕ) → CollidesBelow items (k + 1) hash slot → CollidesBelow items k hash slot ⊎ (slice_index_or items k (hashed hash slot) ≡ hashed hash slot)
  below_more hash slot (j, below, is) = go (cases_eq j k)
    where
      go : (j ≡ k) ⊎ (j ≡ k → ⊥) → CollidesBelow items k hash slot ⊎ (slice_index_or items k (hashed hash slot) ≡ hashed hash slot)
      go (inl here) = inr (subst (λ i. slice_index_or items i (hashed hash slot) ≡ hashed hash slot) here is)
      go (inr apart) = inl (j, omega (arith, below, apart), is)

  module _ (item : HashedSlot) (within : k < length items) (is_item : item ≡ slice_index_or items k item) where
    reads : (d : HashedSlot) → slice_index_or items k d ≡ item
    reads d = sym (get_or_read items k item within is_item d)

    -- the slot at this place, if its hash is another
    below_other : (hash slot : ℕ) → item.hash ≢ hash → CollidesBelow items (k + 1) hash slot → CollidesBelow items k hash slot
    below_other hash slot differs more = go (below_more hash slot more)
      where
        go : CollidesBelow items k hash slot ⊎ (slice_index_or items k (hashed hash slot) ≡ hashed hash slot) → CollidesBelow items k hash slot
        go (inl below) = below
        go (inr here) = absurd (differs (ap (λ (it : HashedSlot). it.hash) (sym (reads (hashed hash slot)) ∙ here)))

    -- the slot at this place, or one before it
    below_here : (hash slot : ℕ) → CollidesBelow items (k + 1) hash slot → CollidesBelow items k hash slot ⊎ (slot ≡ item.slot)
    below_here hash slot more = go (below_more hash slot more)
      where
        go : CollidesBelow items k hash slot ⊎ (slice_index_or items k (hashed hash slot) ≡ hashed hash slot) → CollidesBelow items k hash slot ⊎ (slot ≡ item.slot)
        go (inl below) = inl below
        go (inr here) = inr (sym (ap (λ (it : HashedSlot). it.slot) (sym (reads (hashed hash slot)) ∙ here)))

    -- the slot at this place is one of the first
    below_last : (hash : ℕ) → item.hash ≡ hash → CollidesBelow items (k + 1) hash item.slot
    below_last hash same = (k, omega arith, subst (λ h. slice_index_or items k (hashed h item.slot) ≡ hashed h item.slot) same (reads (hashed item.hash item.slot)))

    below_longer : (hash slot : ℕ) → CollidesBelow items k hash slot → CollidesBelow items (k + 1) hash slot
    below_longer hash slot (j, below, is) = (j, omega (arith, below), is)

    -- ---- the least slot

    pub least_other : (hash : ℕ) (least : Option ℕ) → item.hash ≢ hash → IsLeastBelow items k hash least → IsLeastBelow items (k + 1) hash least
    least_other hash None differs is = record { some = tt; least = tt; none = λ slot more. is.none slot (below_other hash slot differs more) }
    least_other hash (Some it) differs is = record {
      some = below_longer hash it is.some;
      least = λ slot more. is.least slot (below_other hash slot differs more);
      none = tt;
    }

    pub least_here : (hash : ℕ) (least : Option ℕ) (lesser : ℕ) → item.hash ≡ hash → IfSome least (λ it. lesser ≡ min it item.slot) → IfNone least (lesser ≡ item.slot) →
        IsLeastBelow items k hash least → IsLeastBelow items (k + 1) hash (Some lesser)
    least_here hash None lesser same some none is = record {
      some = subst (CollidesBelow items (k + 1) hash) (sym none) (below_last hash same);
      least = λ slot more. elim (below_here hash slot more) [
        | inl below ↦ absurd (is.none slot below)
        | inr here ↦ omega (arith, here, none)
      ];
      none = tt;
    }
    least_here hash (Some it) lesser same some none is = record {
      some = elim (cases_eq lesser it) [
        | inl first ↦ subst (CollidesBelow items (k + 1) hash) (sym first) (below_longer hash it is.some)
        | inr differs ↦
            let last : lesser ≡ item.slot = omega (arith, some, differs) in
            subst (CollidesBelow items (k + 1) hash) (sym last) (below_last hash same)
      ];
      least = λ slot more. elim (below_here hash slot more) [
        | inl below ↦ let bound = is.least slot below in omega (arith, bound, some)
        | inr here ↦ omega (arith, here, some)
      ];
      none = tt;
    }

    -- ---- the entry with a name in the least slot

    module _ (image : Image) (root size : ℕ) (name : Name) where
      pub named_other : (hash : ℕ) (least : Option Found) → item.hash ≢ hash → IsLeastNamed image root size name (CollidesBelow items k hash) least →
          IsLeastNamed image root size name (CollidesBelow items (k + 1) hash) least
      named_other hash None differs is = record { some = tt; least = tt; none = λ slot more. is.none slot (below_other hash slot differs more) }
      named_other hash (Some it) differs is = record {
        some = is.some;
        least = λ slot more. is.least slot (below_other hash slot differs more);
        none = tt;
      }

      pub named_here : (hash : ℕ) (least found : Option Found) → IfSome found (IsEntryAt image root size name item.slot) → IfNone found (IsNotAt image root size name item.slot) →
          IsLeastNamed image root size name (CollidesBelow items k hash) least →
          IsLeastNamed image root size name (CollidesBelow items (k + 1) hash) (lesser_found least found)
      named_here hash None None some none is = record {
        some = tt;
        least = tt;
        none = λ slot more. elim (below_here hash slot more) [
          | inl below ↦ is.none slot below
          | inr here ↦ subst (IsNotAt image root size name) (sym here) none
        ];
      }
      named_here hash None (Some it) some none is = record {
        some = subst (λ s. IsEntryAt image root size name s it) (sym some.slot_is) some;
        least = λ slot more less. elim (below_here hash slot more) [
          | inl below ↦ is.none slot below
          | inr here ↦ absurd (omega (arith, here, less, some.slot_is))
        ];
        none = tt;
      }
      named_here hash (Some one) None some none is = record {
        some = is.some;
        least = λ slot more less. elim (below_here hash slot more) [
          | inl below ↦ is.least slot below less
          | inr here ↦ subst (IsNotAt image root size name) (sym here) none
        ];
        none = tt;
      }
      named_here hash (Some one) (Some other) some none is = go (nat_lt other.slot one.slot) refl
        where
          go : (b : Bool) → nat_lt other.slot one.slot ≡ b → IsLeastNamed image root size name (CollidesBelow items (k + 1) hash) (lesser_found (Some one) (Some other))
          go true at = rw at (record {
            some = subst (λ s. IsEntryAt image root size name s other) (sym some.slot_is) some;
            least = λ slot more less. elim (below_here hash slot more) [
              | inl below ↦ is.least slot below (omega (arith, less, ltb-true _ _ at))
              | inr here ↦ absurd (omega (arith, here, less, some.slot_is))
            ];
            none = tt;
          })
          go false at = rw at (record {
            some = is.some;
            least = λ slot more less. elim (below_here hash slot more) [
              | inl below ↦ is.least slot below less
              | inr here ↦ absurd (omega (arith, here, less, ltb-false _ _ at, some.slot_is))
            ];
            none = tt;
          })
