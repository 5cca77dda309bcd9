-- One store turns one word, also after any stores to a block to which no pointer leads.
use Rattle.std.proofs.Common.{◌≡◌, ◌≢◌, ◌⊎◌, ℕ, ◌+◌, ◌*◌, ◌/◌, ◌<◌, set, [], ◌∷◌, length, refl, sym, ◌∙◌, ap, arith, inl, inr, get_or-set_other, get_or-set_same}
use Rattle.std.proofs.lemmas.Bool.{cases_eq}
use Rattle.std.proofs.lemmas.List.{length-set}
use Rattle.bp_layout.specs.Words.{Image, word, block_count, block_of, slot_word}
use Rattle.bp_layout.proofs.TreeLaws.{slot_word-at, slot_word-same}
use Rattle.bp_layout.specs.Stores.{EqualBut}
use Rattle.bp_changes.specs.Trail.{IsPlaced, Trail, word_on, block_on, place_on, ArePointers, IsSkeleton}
use Rattle.bp_changes.specs.Trail.IsPlaced.{at_top, in_block}
use Rattle.bp_changes.proofs.TrailLaws.{word_on-top, word_on-slot, Turns}

module _ (old mid : Image) (Pointer : Trail → Type 0) (pointers : ArePointers Pointer) (skeleton : IsSkeleton old Pointer) (some : 0 < block_count old) (copy : ℕ) (equal : EqualBut copy old mid) (not_null : copy ≢ 0) (unnamed : (p : Trail) → Pointer p → block_on old p ≢ copy) where
  low_place : (here : Trail) → IsPlaced old Pointer here → place_on old here < length mid
  low_place _ at_top = let whole : length old ≡ 512 * block_count old = skeleton.whole in omega (arith, some, whole, equal.whole)
  low_place _ (in_block slot p live present low) =
      let whole : length old ≡ 512 * block_count old = skeleton.whole in
      let range : block_on old p < block_count old = skeleton.in_range p live in
      omega (arith, low, whole, range, equal.whole)

  -- the words elsewhere
  beside : (here : Trail) (value : ℕ) → IsPlaced old Pointer here → (p : Trail) (slot : ℕ) → Pointer p → block_on old p ≢ 0 → slot < 512 → slot ∷ p ≢ here →
      slot_word (set mid (place_on old here) value) (block_on old p) slot ≡ slot_word old (block_on old p) slot
  beside here value placed p slot live present low other =
      slot_word-same old (set mid (place_on old here) value) (block_on old p) slot
      (λ _. get_or-set_other mid (place_on old here) (512 * block_on old p + slot) value 0 (λ same. apart here placed same other)
      ∙ equal.others (512 * block_on old p + slot) (λ e. unnamed p live (sym (block_is (block_on old p) slot low) ∙ e)))
    where
      block_is : (b s : ℕ) → s < 512 → (512 * b + s) / 512 ≡ b
      block_is b s small = omega (arith, small)

      apart : (here : Trail) → IsPlaced old Pointer here → 512 * block_on old p + slot ≡ place_on old here → slot ∷ p ≢ here → ⊥
      apart _ at_top same n = present (omega (arith, same))
      apart _ (in_block s q also there small) same n =
          let blocks : block_on old p ≡ block_on old q = omega (arith, same, low, small) in
          let slots : slot ≡ s = omega (arith, same, low, small) in
          let trails : p ≡ q = skeleton.once p q live also present blocks in
          n (cc)

  -- a pointer above
  above-kept : (here : Trail) (value : ℕ) → IsPlaced old Pointer here → (p : Trail) → Pointer p → length p < length here → word_on (set mid (place_on old here) value) p ≡ word_on old p
  above-kept here value placed [] live short = word_on-top _ ∙ top here placed short ∙ sym (word_on-top old)
    where
      not_two : copy ≢ 0 → 2 / 512 ≢ copy
      not_two n e = n (omega (arith, e))

      top : (here : Trail) → IsPlaced old Pointer here → 0 < length here → word (set mid (place_on old here) value) 2 ≡ word old 2
      top _ at_top s = absurd (omega (arith, s))
      top _ (in_block slot p l present low) s =
          get_or-set_other mid (512 * block_on old p + slot) 2 value 0 (λ e. present (omega (arith, e))) ∙ equal.others 2 (not_two not_null)
  above-kept here value placed (slot ∷ p) live short =
      word_on-slot _ slot p
      ∙ ap (λ w. slot_word (set mid (place_on old here) value) (block_of w) slot) (above-kept here value placed p (pointers.above slot p live) (omega (arith, short)))
      ∙ either (cases_eq (block_on old p) 0)
      ∙ sym (word_on-slot old slot p)
    where
      different : slot ∷ p ≢ here
      different e = absurd (omega (arith, ap (λ (q : Trail). length q) e, short))

      either : (block_on old p ≡ 0) ⊎ (block_on old p ≡ 0 → ⊥) → slot_word (set mid (place_on old here) value) (block_on old p) slot ≡ slot_word old (block_on old p) slot
      either (inl null) = rw null refl
      either (inr present) = beside here value placed p slot (pointers.above slot p live) present (pointers.slots slot p live) different

  turned : (here : Trail) (value : ℕ) → IsPlaced old Pointer here → word_on (set mid (place_on old here) value) here ≡ value
  turned _ value at_top = word_on-top _ ∙ get_or-set_same mid 2 value 0 (low_place [] at_top)
  turned _ value (in_block slot p live present low) =
      word_on-slot _ slot p
      ∙ ap (λ w. slot_word (set mid (512 * block_on old p + slot) value) (block_of w) slot) (above-kept (slot ∷ p) value (in_block slot p live present low) p live (omega arith))
      ∙ slot_word-at (set mid (512 * block_on old p + slot) value) (block_on old p) slot present
      ∙ get_or-set_same mid (512 * block_on old p + slot) value 0 (low_place (slot ∷ p) (in_block slot p live present low))

  pub store_turns : (here : Trail) (value : ℕ) → IsPlaced old Pointer here →
      (Pointer here → (slot : ℕ) → Pointer (slot ∷ here) → slot_word (set mid (place_on old here) value) (block_of value) slot ≡ word_on old (slot ∷ here)) →
      Turns old (set mid (place_on old here) value) Pointer here value
  store_turns here value placed below = record {
    whole = length-set mid (place_on old here) value ∙ equal.whole;
    superblock = super here placed;
    top = top here placed;
    others = λ p slot live present low other. beside here value placed p slot live present low other;
    turned = turned here value placed;
    below = below;
  }
    where
      not_two : copy ≢ 0 → 2 / 512 ≢ copy
      not_two n e = n (omega (arith, e))

      super : (here : Trail) → IsPlaced old Pointer here → (place : ℕ) → place < 512 → place ≢ 2 → word (set mid (place_on old here) value) place ≡ word old place
      super _ at_top place low other = get_or-set_other mid 2 place value 0 other ∙ equal.others place (λ e. not_null (omega (arith, low, e)))
      super _ (in_block slot p live present few) place low other =
          get_or-set_other mid (512 * block_on old p + slot) place value 0 (λ e. present (omega (arith, low, e))) ∙ equal.others place (λ e. not_null (omega (arith, low, e)))

      top : (here : Trail) → IsPlaced old Pointer here → [] ≢ here → word (set mid (place_on old here) value) 2 ≡ word old 2
      top _ at_top other = absurd (other refl)
      top _ (in_block slot p live present low) other =
          get_or-set_other mid (512 * block_on old p + slot) 2 value 0 (λ e. present (omega (arith, e))) ∙ equal.others 2 (not_two not_null)

  -- a word of the copy, after the store
  pub copy-kept : (here : Trail) (value slot : ℕ) → IsPlaced old Pointer here → slot < 512 → slot_word (set mid (place_on old here) value) copy slot ≡ slot_word mid copy slot
  copy-kept here value slot placed low =
      slot_word-same mid (set mid (place_on old here) value) copy slot (λ _. get_or-set_other mid (place_on old here) (512 * copy + slot) value 0 (λ e. apart here placed e))
    where
      apart : (here : Trail) → IsPlaced old Pointer here → 512 * copy + slot ≡ place_on old here → ⊥
      apart _ at_top same = not_null (omega (arith, same))
      apart _ (in_block s q also there small) same = unnamed q also (omega (arith, same, low, small))
