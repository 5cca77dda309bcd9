-- What the hash of a name tells of the slot that has it.
use Rattle.std.proofs.Common.{◌≡◌, ◌≢◌, ℕ, ◌/◌, ◌<◌, Bool, true, false, nat_eq, Option, None, Some, bytes_eq, refl, sym, ◌∙◌, ap, subst, ◌⊎◌, inl, inr, arith}
use Rattle.std.specs.HashMap.{get}
use Rattle.std.specs.Cmp.Lexicographic.{same_text}
use Rattle.bp_read.specs.Spots.{found_slot}
use Rattle.bp_read.specs.declared.spot.Found.{Found}
use Rattle.bp_layout.specs.Words.{Image}
use Rattle.bp_layout.specs.Directory.{ino_in, name_in, is_named_in, slot_named_in}
use Rattle.bp_layout.specs.Paths.{Name}
use Rattle.bp_layout.proofs.Finding.{find-first, find-nothing}
use Rattle.bp_layout.proofs.View.{named_true}
use Rattle.bp_cache.specs.declared.index.Index.{Index}
use Rattle.bp_cache.specs.Collisions.{Collides, IsLeastNamed}
use Rattle.bp_cache.specs.Entries.{IsEntryAt, IsNotAt}
use Rattle.bp_cache.specs.Hashes.{hash_of}
use Rattle.bp_cache.specs.Index.{IsIndexOf, Leads}
use Rattle.bp_cache.proofs.LeadLaws.{never_none, one_first}

module _ (image : Image) (root size : ℕ) (name : Name) (index : Index) (right : IsIndexOf image root size index) where
  -- the hash of a name leads to each slot that has it
  leads_there : (slot : ℕ) → slot < size / 256 → is_named_in image root name slot ≡ true → Leads index (hash_of name) slot
  leads_there slot live named =
      let parts : (ino_in image root slot ≢ 0) × (bytes_eq (name_in image root slot) name ≡ true) = named_true _ _ named in
      let spelled : name_in image root slot ≡ name = same_text _ _ (sym parts.1) in
      subst (λ n. Leads index (hash_of n) slot) spelled ((right.each slot live).named parts.0)

  -- a slot to which it does not lead has another name
  named_other : (slot : ℕ) → slot < size / 256 → (Leads index (hash_of name) slot → is_named_in image root name slot ≡ false) → is_named_in image root name slot ≡ false
  named_other slot live other = go (is_named_in image root name slot) refl
    where
      go : (b : Bool) → is_named_in image root name slot ≡ b → is_named_in image root name slot ≡ false
      go true at = other (leads_there slot live at)
      go false at = at

  pub nowhere : get nat_eq index.slots (hash_of name) ≡ None → None ≡ slot_named_in image root size name
  nowhere none =
      sym (find-nothing (is_named_in image root name) 0 (size / 256)
      (λ r low high. named_other r (omega (arith, high)) (λ leads. absurd (never_none index (hash_of name) r none leads))))

  module _ (slot : ℕ) (table : get nat_eq index.slots (hash_of name) ≡ Some slot) where
    pub found_first : (found : Found) → IsEntryAt image root size name slot found → Some found.slot ≡ slot_named_in image root size name
    found_first found is =
        ap Some is.slot_is
        ∙ sym (find-first (is_named_in image root name) 0 (size / 256) slot (omega arith) (omega (arith, is.live)) is.named
        (λ r low high. named_other r (omega (arith, is.live, high)) (λ leads. absurd (not_below r high leads))))
      where
        not_below : (r : ℕ) → r < slot → Leads index (hash_of name) r → ⊥
        not_below r below leads = elim leads.here [
          | inl here ↦ omega (arith, here, below, one_first index (hash_of name) r slot table leads)
          | inr (above, was) ↦ omega (arith, above, below, one_first index (hash_of name) r slot table leads)
        ]

    -- a slot to which the hash leads is the one of the table or another
    first_or_other : (r : ℕ) → Leads index (hash_of name) r → (r ≡ slot) ⊎ Collides index.collisions (hash_of name) r
    first_or_other r leads = elim leads.here [
      | inl here ↦ inl (here ∙ one_first index (hash_of name) r slot table leads)
      | inr (above, was) ↦ inr was
    ]

    pub found_other : IsNotAt image root size name slot → (found : Option Found) → IsLeastNamed image root size name (Collides index.collisions (hash_of name)) found →
        found_slot found ≡ slot_named_in image root size name
    found_other none None is = sym (find-nothing (is_named_in image root name) 0 (size / 256) (λ r low high. named_other r (omega (arith, high)) (λ leads. go r (omega (arith, high)) (first_or_other r leads))))
      where
        go : (r : ℕ) → r < size / 256 → (r ≡ slot) ⊎ Collides index.collisions (hash_of name) r → is_named_in image root name r ≡ false
        go r live (inl here) = subst (IsNotAt image root size name) (sym here) none live
        go r live (inr was) = is.none r was live
    found_other none (Some found) is =
        sym (find-first (is_named_in image root name) 0 (size / 256) found.slot (omega arith) (omega (arith, is.some.live)) is.some.named
        (λ r low high. named_other r (omega (arith, is.some.live, high)) (λ leads. go r high (omega (arith, is.some.live, high)) (first_or_other r leads))))
      where
        go : (r : ℕ) → r < found.slot → r < size / 256 → (r ≡ slot) ⊎ Collides index.collisions (hash_of name) r → is_named_in image root name r ≡ false
        go r below live (inl here) = subst (IsNotAt image root size name) (sym here) none live
        go r below live (inr was) = is.least r was below live
