-- Whichever of the pointers to copies are stored, the image has the words that it had.
use Rattle.std.proofs.Common.{◌≡◌, ◌≢◌, ◌⊎◌, ℕ, zero, suc, ◌*◌, ◌/◌, ◌%◌, ◌<◌, [], ◌∷◌, Bool, true, false, Option, None, Some, refl, sym, ◌∙◌, ap, subst, arith, inl, inr, true≢false}
use Rattle.bp_layout.specs.Words.{Image, word, block_of, block_count, slot_word}
use Rattle.bp_layout.proofs.TreeLaws.{slot_word-at}
use Rattle.bp_changes.specs.Trail.{Trail, word_on, block_on, place_on, ArePointers, IsSkeleton, LeadsTo}
use Rattle.bp_cow.specs.Committed.{IsCommitted}
use Rattle.bp_cow.specs.Copies.{pointing_to}
use Rattle.bp_thaw.specs.Linked.{AreCopies, AreThawing, copied_word, is_turned}

module _ (old now : Image) (Pointer : Trail → Type 0) (copy : Trail → Option ℕ) (stored : Trail → Bool)
    (are : ArePointers Pointer) (skeleton : IsSkeleton old Pointer) (copies : AreCopies old Pointer copy) (thawing : AreThawing old now Pointer copy stored) where
  abbrev Turned : Trail → Type 0
  Turned p = is_turned copy stored p ≡ true

  -- the word of a trail, whether it is turned
  abbrev new_word : Bool → Option ℕ → ℕ → ℕ
  new_word true (Some c) w = pointing_to w c
  new_word turned c w = w

  word_of_slot : (image : Image) (slot : ℕ) (p : Trail) → word_on image (slot ∷ p) ≡ slot_word image (block_on image p) slot
  unfolding word_on
  word_of_slot image slot p = refl

  block_of_pointing : (w c : ℕ) → block_of (pointing_to w c) ≡ c
  block_of_pointing w c = omega arith

  some_none : (c : ℕ) → ◌≡◌ {A = Option ℕ} (Some c) None → ⊥
  some_none c e = absurd (cc)

  -- a slot below a null has no copy
  null_below : (slot : ℕ) (p : Trail) (c : ℕ) → copy (slot ∷ p) ≡ Some c → block_on old p ≡ 0 → ⊥
  null_below slot p c e null = copies.present (slot ∷ p) c e (ap block_of (word_of_slot old slot p ∙ ap (λ b. slot_word old b slot) null))

  old_slot : (slot : ℕ) (p : Trail) → block_on old p ≢ 0 → word old (place_on old (slot ∷ p)) ≡ word_on old (slot ∷ p)
  old_slot slot p present = sym (slot_word-at old (block_on old p) slot present) ∙ sym (word_of_slot old slot p)

  has_copy : (p : Trail) → Turned p → (c : ℕ) × (copy p ≡ Some c)
  has_copy [] t = go (copy []) refl t
    where
      go : (x : Option ℕ) → copy [] ≡ x → is_turned copy stored [] ≡ true → (c : ℕ) × (copy [] ≡ Some c)
      go None e t = absurd (true≢false (sym t ∙ rw e refl))
      go (Some c) e t = (c, e)
  has_copy (slot ∷ p) t = go (copy (slot ∷ p)) refl t
    where
      go : (x : Option ℕ) → copy (slot ∷ p) ≡ x → is_turned copy stored (slot ∷ p) ≡ true → (c : ℕ) × (copy (slot ∷ p) ≡ Some c)
      go None e t = absurd (true≢false (sym t ∙ rw e refl))
      go (Some c) e t = (c, e)

  abbrev IsNew : Trail → Type 0
  IsNew q = word_on now q ≡ new_word (is_turned copy stored q) (copy q) (word_on old q)

  -- below a pointer
  below : (slot : ℕ) (p : Trail) → Pointer p → slot < 512 → (x : Option ℕ) → copy p ≡ x → (t : Bool) → is_turned copy stored p ≡ t → IsNew p → IsNew (slot ∷ p)
  below slot p pointer low (Some c) e true t new =
      let here : block_on now p ≡ c = ap block_of (new ∙ (λ i. new_word (t i) (e i) (word_on old p))) ∙ block_of_pointing (word_on old p) c in
      word_of_slot now slot p ∙ ap (λ b. slot_word now b slot) here ∙ slot_word-at now c slot (copies.not_null p c e) ∙ thawing.copied p c slot e low
      ∙ go (copy (slot ∷ p)) refl
    where
      go : (y : Option ℕ) → copy (slot ∷ p) ≡ y → copied_word old (copy (slot ∷ p)) (slot ∷ p) ≡ new_word (is_turned copy stored (slot ∷ p)) (copy (slot ∷ p)) (word_on old (slot ∷ p))
      go None f = rw f refl
      go (Some d) f = rw (f, e, t) refl
  below slot p pointer low None e true t new = let has : (c : ℕ) × (copy p ≡ Some c) = has_copy p t in absurd (some_none has.0 (sym has.1 ∙ e))
  below slot p pointer low x e false t new = by_null (block_on old p) refl
    where
      here : block_on now p ≡ block_on old p
      here = ap block_of (new ∙ ap (λ b. new_word b (copy p) (word_on old p)) t)

      by_null : (b : ℕ) → block_on old p ≡ b → IsNew (slot ∷ p)
      by_null zero null =
          let at : word_on now (slot ∷ p) ≡ word_on old (slot ∷ p) = word_of_slot now slot p ∙ ap (λ b. slot_word now b slot) here ∙ ap (λ b. slot_word now b slot) null ∙ sym (ap (λ b. slot_word old b slot) null) ∙ sym (word_of_slot old slot p) in
          at ∙ none (copy (slot ∷ p)) refl
        where
          none : (y : Option ℕ) → copy (slot ∷ p) ≡ y → word_on old (slot ∷ p) ≡ new_word (is_turned copy stored (slot ∷ p)) (copy (slot ∷ p)) (word_on old (slot ∷ p))
          none None f = rw f refl
          none (Some d) f = absurd (null_below slot p d f null)
      by_null (suc b) some =
          let present : block_on old p ≢ 0 = λ null. suc_zero b (sym some ∙ null) in
          word_of_slot now slot p ∙ ap (λ b. slot_word now b slot) here ∙ slot_word-at now (block_on old p) slot present ∙ at present (copy (slot ∷ p)) refl x e (stored (slot ∷ p)) refl
        where
          suc_zero : (n : ℕ) → suc n ≡ 0 → ⊥
          suc_zero n f = omega (arith, f)

          at : block_on old p ≢ 0 → (y : Option ℕ) → copy (slot ∷ p) ≡ y → (z : Option ℕ) → copy p ≡ z → (s : Bool) → stored (slot ∷ p) ≡ s →
              word now (place_on old (slot ∷ p)) ≡ new_word (is_turned copy stored (slot ∷ p)) (copy (slot ∷ p)) (word_on old (slot ∷ p))
          at present None f z g s h = thawing.others p slot pointer present low (rw f refl) ∙ old_slot slot p present ∙ rw f refl
          at present (Some d) f (Some c) g s h = thawing.others p slot pointer present low (rw (f, g) refl) ∙ old_slot slot p present ∙ rw (f, g, t) refl
          at present (Some d) f None g true h = thawing.links (slot ∷ p) d (rw (f, g) refl) f h ∙ rw (f, g, h) refl
          at present (Some d) f None g false h =
              thawing.unstored (slot ∷ p) (copies.pointer (slot ∷ p) d f) (rw (f, g) refl) h ∙ old_slot slot p present ∙ rw (f, g, h) refl

  at_root : (x : Option ℕ) → copy [] ≡ x → (s : Bool) → stored [] ≡ s → IsNew []
  unfolding word_on
  at_root None e s h = thawing.root (rw e refl) ∙ rw e refl
  at_root (Some c) e true h = thawing.links [] c (rw e refl) e h ∙ rw (e, h) refl
  at_root (Some c) e false h = thawing.unstored [] (copies.pointer [] c e) (rw e refl) h ∙ rw (e, h) refl

  pub words_now : (p : Trail) → Pointer p → IsNew p
  words_now [] pointer = at_root (copy []) refl (stored []) refl
  words_now (slot ∷ p) pointer =
      let above : Pointer p = are.above slot p pointer in
      below slot p above (are.slots slot p pointer) (copy p) refl (is_turned copy stored p) refl (words_now p above)

  pub content_now : (slot : ℕ) (p : Trail) → Pointer p → slot < 512 → IsNew (slot ∷ p)
  content_now slot p pointer low = below slot p pointer low (copy p) refl (is_turned copy stored p) refl (words_now p pointer)

  -- what is turned has a copy
  data Shape (p : Trail) : Type 0 where
    turned : (c : ℕ) → copy p ≡ Some c → Turned p → block_on now p ≡ c → Shape p
    same : (Turned p → ⊥) → word_on now p ≡ word_on old p → Shape p

  shape : (p : Trail) → IsNew p → Shape p
  shape p new = go (is_turned copy stored p) refl
    where
      go : (t : Bool) → is_turned copy stored p ≡ t → Shape p
      go true t =
          let has : (c : ℕ) × (copy p ≡ Some c) = has_copy p t in
          turned has.0 has.1 t (ap block_of (new ∙ (λ i. new_word (t i) (has.1 i) (word_on old p))) ∙ block_of_pointing (word_on old p) has.0)
      go false t = same (λ f. true≢false (sym f ∙ t)) (new ∙ ap (λ b. new_word b (copy p) (word_on old p)) t)

  pub thawed_words : (Counts : Trail → Type 0) → IsCommitted old now Pointer Counts Turned (word_on old)
  thawed_words Counts = record {
    whole = thawing.whole;
    superblock = thawing.superblock;
    skeleton = record {
      whole = thawing.whole ∙ skeleton.whole ∙ ap (λ n. 512 * (n / 512)) (sym thawing.whole);
      in_range = λ p pointer. rw (ap (λ n. n / 512) thawing.whole) (inside p pointer (shape p (words_now p pointer)));
      once = λ p q a b some e. one p q a b (shape p (words_now p a)) (shape q (words_now q b)) some e;
    };
    kept = λ p pointer other. unturned p other (shape p (words_now p pointer));
    bits = λ p pointer. bits p (words_now p pointer) (is_turned copy stored p) refl (copy p) refl;
    fresh = λ p pointer t. fresh p t (shape p (words_now p pointer));
    words = λ p slot pointer low other _. unturned (slot ∷ p) other (shape (slot ∷ p) (content_now slot p pointer low));
    decide = λ p. decide (is_turned copy stored p);
    pointers = λ p t. let has : (c : ℕ) × (copy p ≡ Some c) = has_copy p t in copies.pointer p has.0 has.1;
  }
    where
      unturned : (p : Trail) → (Turned p → ⊥) → Shape p → word_on now p ≡ word_on old p
      unturned p other (turned c e t at) = absurd (other t)
      unturned p other (same apart e) = e

      inside : (p : Trail) → Pointer p → Shape p → block_on now p < block_count old
      inside p pointer (turned c e t at) = rw at (copies.in_range p c e)
      inside p pointer (same apart e) = subst (λ w. block_of w < block_count old) (sym e) (skeleton.in_range p pointer)

      led : (p : Trail) → Pointer p → (b : ℕ) → block_on old p ≡ b → b ≢ 0 → LeadsTo old Pointer b
      led p pointer b e some = record { trail = p; pointer = pointer; named = e; not_null = some }

      one : (p q : Trail) → Pointer p → Pointer q → Shape p → Shape q → block_on now p ≢ 0 → block_on now p ≡ block_on now q → p ≡ q
      one p q a b (turned c e t at) (turned d f u to) some same_block = copies.once p q c e (f ∙ ap Some (sym to ∙ sym same_block ∙ at))
      one p q a b (turned c e t at) (same apart f) some same_block =
          absurd (copies.unled p c e (led q b c (ap block_of (sym f) ∙ sym same_block ∙ at) (copies.not_null p c e)))
      one p q a b (same apart e) (turned d f u to) some same_block =
          absurd (copies.unled q d f (led p a d (ap block_of (sym e) ∙ same_block ∙ to) (copies.not_null q d f)))
      one p q a b (same apart e) (same also f) some same_block =
          skeleton.once p q a b (λ null. some (ap block_of e ∙ null)) (ap block_of (sym e) ∙ same_block ∙ ap block_of f)

      bits : (p : Trail) → IsNew p → (t : Bool) → is_turned copy stored p ≡ t → (x : Option ℕ) → copy p ≡ x → word_on now p % 4096 ≡ word_on old p % 4096
      bits p new true t None e = ap (λ w. w % 4096) (new ∙ (λ i. new_word (t i) (e i) (word_on old p)))
      bits p new true t (Some c) e =
          let w : ℕ = word_on old p in
          ap (λ w. w % 4096) (new ∙ (λ i. new_word (t i) (e i) (word_on old p))) ∙ omega arith
      bits p new false t x e = ap (λ w. w % 4096) (new ∙ ap (λ b. new_word b (copy p) (word_on old p)) t)

      fresh : (p : Trail) → Turned p → Shape p → (block_on now p ≢ 0) × (LeadsTo old Pointer (block_on now p) → ⊥)
      fresh p t (turned c e u at) = (rw at (copies.not_null p c e), rw at (copies.unled p c e))
      fresh p t (same apart e) = absurd (apart t)

      decide : (b : Bool) → (b ≡ true) ⊎ (b ≡ true → ⊥)
      decide true = inl refl
      decide false = inr (λ e. true≢false (sym e))
