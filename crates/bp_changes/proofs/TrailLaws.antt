-- What one store does to the words on the trails of an image.
use Rattle.std.proofs.Common.{◌≡◌, ◌≢◌, ◌⊎◌, ℕ, ◌*◌, ◌/◌, ◌<◌, [], ◌∷◌, length, refl, sym, ◌∙◌, ap, subst, inl, inr}
use Rattle.std.proofs.lemmas.Bool.{cases_eq}
use Rattle.bp_layout.specs.Words.{Image, word, block_count, block_of, slot_word}
use Rattle.bp_changes.specs.Trail.{Trail, word_on, block_on, ArePointers, IsSkeleton}

pub word_on-top : (image : Image) → word_on image [] ≡ word image 2
unfolding word_on
word_on-top image = refl

pub word_on-slot : (image : Image) (slot : ℕ) (above : Trail) → word_on image (slot ∷ above) ≡ slot_word image (block_on image above) slot
unfolding word_on
word_on-slot image slot above = refl

-- trails are equal or not
pub cases_trail : (p q : Trail) → (p ≡ q) ⊎ (p ≢ q)
cases_trail [] [] = inl refl
cases_trail [] (s ∷ q) = inr (λ e. absurd (cc))
cases_trail (s ∷ p) [] = inr (λ e. absurd (cc))
cases_trail (s ∷ p) (t ∷ q) = go (cases_eq s t) (cases_trail p q)
  where
    go : (s ≡ t) ⊎ (s ≡ t → ⊥) → (p ≡ q) ⊎ (p ≢ q) → (s ∷ p ≡ t ∷ q) ⊎ (s ∷ p ≢ t ∷ q)
    go (inl e) (inl f) = inl (cc)
    go (inl e) (inr f) = inr (λ g. f (cc))
    go (inr e) f = inr (λ g. e (cc))

-- One word of the old image, that at the end of a trail, is another in the new one; the words of blocks that no pointer names may be any.
-- Where it is a pointer, the pointers in its new block are those in its old one.
pub record Turns (old new : Image) (Pointer : Trail → Type 0) (here : Trail) (value : ℕ) : Type 0 where
  pub whole : length new ≡ length old
  pub superblock : (place : ℕ) → place < 512 → place ≢ 2 → word new place ≡ word old place
  pub top : [] ≢ here → word new 2 ≡ word old 2
  pub others : (p : Trail) (slot : ℕ) → Pointer p → block_on old p ≢ 0 → slot < 512 → slot ∷ p ≢ here →
      slot_word new (block_on old p) slot ≡ slot_word old (block_on old p) slot
  pub turned : word_on new here ≡ value
  pub below : Pointer here → (slot : ℕ) → Pointer (slot ∷ here) → slot_word new (block_of value) slot ≡ word_on old (slot ∷ here)

module _ (old new : Image) (Pointer : Trail → Type 0) (pointers : ArePointers Pointer) (here : Trail) (value : ℕ) (turns : Turns old new Pointer here value) where
  beside : (p : Trail) (slot : ℕ) → Pointer p → slot < 512 → slot ∷ p ≢ here → slot_word new (block_on old p) slot ≡ slot_word old (block_on old p) slot
  beside p slot live low other = go (cases_eq (block_on old p) 0)
    where
      go : (block_on old p ≡ 0) ⊎ (block_on old p ≡ 0 → ⊥) → slot_word new (block_on old p) slot ≡ slot_word old (block_on old p) slot
      go (inl null) = rw null refl
      go (inr present) = turns.others p slot live present low other

  -- the other pointers are as they were
  pub pointer-turned : (p : Trail) → Pointer p → p ≢ here → word_on new p ≡ word_on old p
  pointer-turned [] live other = word_on-top new ∙ turns.top other ∙ sym (word_on-top old)
  pointer-turned (slot ∷ p) live other = go (λ apart. pointer-turned p (pointers.above slot p live) apart) (cases_trail p here)
    where
      up : Pointer p
      up = pointers.above slot p live

      go : (p ≢ here → word_on new p ≡ word_on old p) → (p ≡ here) ⊎ (p ≢ here) → word_on new (slot ∷ p) ≡ word_on old (slot ∷ p)
      go above (inl e) =
          word_on-slot new slot p
          ∙ ap (λ x. slot_word new (block_of x) slot) (ap (word_on new) e ∙ turns.turned)
          ∙ turns.below (subst Pointer e up) slot (subst (λ x. Pointer (slot ∷ x)) e live)
          ∙ ap (λ x. word_on old (slot ∷ x)) (sym e)
      go above (inr apart) =
          word_on-slot new slot p
          ∙ ap (λ x. slot_word new (block_of x) slot) (above apart)
          ∙ beside p slot up (pointers.slots slot p live) other
          ∙ sym (word_on-slot old slot p)

  -- and the other words of the other blocks
  pub word-turned : (p : Trail) (slot : ℕ) → Pointer p → slot < 512 → p ≢ here → slot ∷ p ≢ here → word_on new (slot ∷ p) ≡ word_on old (slot ∷ p)
  word-turned p slot live low apart other =
      word_on-slot new slot p
      ∙ ap (λ x. slot_word new (block_of x) slot) (pointer-turned p live apart)
      ∙ beside p slot live low other
      ∙ sym (word_on-slot old slot p)

  -- the block of the word
  pub slot-turned : (slot : ℕ) → word_on new (slot ∷ here) ≡ slot_word new (block_of value) slot
  slot-turned slot = word_on-slot new slot here ∙ ap (λ x. slot_word new (block_of x) slot) turns.turned

  -- The skeleton stays, where the word is no pointer or points to a block that none names.
  pub skeleton-turned : IsSkeleton old Pointer →
      (Pointer here → (block_of value < block_count old) × ((p : Trail) → Pointer p → block_on old p ≢ block_of value)) →
      IsSkeleton new Pointer
  skeleton-turned skeleton fresh = record {
    whole = turns.whole ∙ skeleton.whole ∙ ap (λ n. 512 * n) (sym same_count);
    in_range = λ p live. rw same_count (in_range p live (cases_trail p here));
    once = λ p q live also present same. once p q live also present same (cases_trail p here) (cases_trail q here);
  }
    where
      same_count : block_count new ≡ block_count old
      same_count = ap (λ n. n / 512) turns.whole

      in_range : (p : Trail) → Pointer p → (p ≡ here) ⊎ (p ≢ here) → block_on new p < block_count old
      in_range p live (inl e) = rw (ap (word_on new) e ∙ turns.turned) (fresh (subst Pointer e live)).0
      in_range p live (inr other) = rw (pointer-turned p live other) (skeleton.in_range p live)

      once : (p q : Trail) → Pointer p → Pointer q → block_on new p ≢ 0 → block_on new p ≡ block_on new q → (p ≡ here) ⊎ (p ≢ here) → (q ≡ here) ⊎ (q ≢ here) → p ≡ q
      once p q live also present same (inl e) (inl f) = e ∙ sym f
      once p q live also present same (inl e) (inr f) =
          absurd ((fresh (subst Pointer e live)).1 q also (ap block_of (sym (pointer-turned q also f)) ∙ sym same ∙ ap block_of (ap (word_on new) e ∙ turns.turned)))
      once p q live also present same (inr e) (inl f) =
          absurd ((fresh (subst Pointer f also)).1 p live (ap block_of (sym (pointer-turned p live e)) ∙ same ∙ ap block_of (ap (word_on new) f ∙ turns.turned)))
      once p q live also present same (inr e) (inr f) =
          let one : block_on new p ≡ block_on old p = ap block_of (pointer-turned p live e) in
          let two : block_on new q ≡ block_on old q = ap block_of (pointer-turned q also f) in
          skeleton.once p q live also (λ null. present (one ∙ null)) (sym one ∙ same ∙ two)
