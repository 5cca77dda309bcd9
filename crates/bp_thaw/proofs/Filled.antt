-- The copies are made, and no pointer leads to them yet; then one more of the pointers is stored.
use Rattle.std.proofs.Common.{◌≡◌, ◌≢◌, ◌⊎◌, ℕ, ◌+◌, ◌*◌, ◌/◌, ◌<◌, [], ◌∷◌, length, Bool, true, false, ◌||◌, Option, None, Some, set, refl, sym, ◌∙◌, ap, arith, inl, inr, true≢false, get_or-set_same, get_or-set_other}
use Rattle.std.specs.Str.{bytes_eq}
use Rattle.std.proofs.lemmas.List.{length-set}
use Rattle.std.proofs.lemmas.Slice.Eq.{bytes_eq-Decides}
use Rattle.bp_layout.specs.Members.{Has}
use Rattle.bp_layout.specs.Words.{Image, word, block_count}
use Rattle.bp_changes.specs.Trail.{Trail, word_on, block_on, place_on, ArePointers, IsSkeleton, IsPlaced}
use Rattle.bp_changes.specs.Trail.IsPlaced.{at_top, in_block}
use Rattle.bp_changes.proofs.TrailLaws.{cases_trail, word_on-slot}
use Rattle.bp_layout.proofs.TreeLaws.{slot_word-at}
use Rattle.bp_cow.specs.Copies.{pointing_to}
use Rattle.bp_thaw.specs.Linked.{AreThawing, copied_word, is_top}
use Rattle.bp_thaw.specs.Copies.{Marks, copy_on, turned_to, IsMark, AreMarks, HasCopies}
use Rattle.bp_thaw.proofs.Marks.{trail_differs, has-copy_on, places_apart, copy_at-placed, mark-placed}

abbrev pub nothing_stored : Trail → Bool
nothing_stored p = false

-- the pointers stored so far, and one more
abbrev pub one_more : Trail → (Trail → Bool) → Trail → Bool
one_more p stored q = bytes_eq p q || stored q

module _ (old : Image) (Pointer : Trail → Type 0) (are : ArePointers Pointer) (skeleton : IsSkeleton old Pointer) (marks : Marks) (all : AreMarks old Pointer marks) where
  block_is : (b s : ℕ) → s < 512 → (512 * b + s) / 512 ≡ b
  block_is b s low = omega (arith, low)

  -- a pointer stands in no copy
  pub outside : (p : Trail) → Pointer p → (m : Trail × ℕ) → Has marks m → place_on old p / 512 ≢ m.1
  outside [] pointer m has e = (all.each m has).not_null (omega (arith, e))
  outside (slot ∷ p) pointer m has e =
      let led : block_on old p ≡ m.1 = sym (block_is (block_on old p) slot (are.slots slot p pointer)) ∙ e in
      (all.each m has).unled (record { trail = p; pointer = are.above slot p pointer; named = led; not_null = (all.each m has).not_null })

  -- nor does another word of a live block
  beside : (p : Trail) (slot : ℕ) → Pointer p → block_on old p ≢ 0 → slot < 512 → (m : Trail × ℕ) → Has marks m → place_on old (slot ∷ p) / 512 ≢ m.1
  beside p slot pointer present low m has e =
      let led : block_on old p ≡ m.1 = sym (block_is (block_on old p) slot low) ∙ e in
      (all.each m has).unled (record { trail = p; pointer = pointer; named = led; not_null = (all.each m has).not_null })

  no_top : (p : Trail) → is_top (copy_on marks) p ≡ true → copy_on marks p ≡ None → ⊥
  no_top [] top none = true≢false (sym top ∙ rw none refl)
  no_top (slot ∷ p) top none = true≢false (sym top ∙ rw none refl)

  pub top_has : (p : Trail) → is_top (copy_on marks) p ≡ true → (c : ℕ) × (copy_on marks p ≡ Some c)
  top_has p top = go (copy_on marks p) refl
    where
      go : (x : Option ℕ) → copy_on marks p ≡ x → (c : ℕ) × (copy_on marks p ≡ Some c)
      go None e = absurd (no_top p top e)
      go (Some c) e = (c, e)

  -- ---- the copies are made

  module _ (now : Image) (has : HasCopies old now marks) where
    copied : (p : Trail) (c slot : ℕ) → copy_on marks p ≡ Some c → slot < 512 → word now (512 * c + slot) ≡ copied_word old (copy_on marks (slot ∷ p)) (slot ∷ p)
    copied p c slot e low =
        has.copied (p, c) slot here low
        ∙ ap (λ x. turned_to x (word old (512 * block_on old p + slot)))
        (copy_at-placed old Pointer are skeleton marks (slot ∷ p) (mark-placed old Pointer are skeleton marks all) (in_block slot p mark.pointer mark.present low))
        ∙ ap (turned_to (copy_on marks (slot ∷ p))) (sym (word_on-slot old slot p ∙ slot_word-at old (block_on old p) slot mark.present))
        ∙ go (copy_on marks (slot ∷ p))
      where
        here : Has marks (p, c)
        here = has-copy_on marks p c e

        mark : IsMark old Pointer (p, c)
        mark = all.each (p, c) here

        go : (x : Option ℕ) → turned_to x (word_on old (slot ∷ p)) ≡ copied_word old x (slot ∷ p)
        go None = refl
        go (Some d) = refl

    pub filled_thawing : AreThawing old now Pointer (copy_on marks) nothing_stored
    filled_thawing = record {
      whole = has.whole;
      superblock = λ place low other. has.others place (λ m in_marks e. (all.each m in_marks).not_null (omega (arith, low, e)));
      copied = copied;
      links = λ p c top e s. absurd (true≢false (sym s));
      unstored = λ p pointer top s. has.others (place_on old p) (outside p pointer);
      root = λ top. has.others 2 (outside [] are.top);
      others = λ p slot pointer present low top. has.others (place_on old (slot ∷ p)) (beside p slot pointer present low);
    }

  -- ---- one more pointer

  module _ (now : Image) (stored : Trail → Bool) (thawing : AreThawing old now Pointer (copy_on marks) stored) (some : 0 < block_count old)
      (p : Trail) (c : ℕ) (top : is_top (copy_on marks) p ≡ true) (is : copy_on marks p ≡ Some c) where
    abbrev here : Trail × ℕ
    here = (p, c)

    in_marks : Has marks here
    in_marks = has-copy_on marks p c is

    pointed : Pointer p
    pointed = (all.each here in_marks).pointer

    at : IsPlaced old Pointer p
    at = mark-placed old Pointer are skeleton marks all here in_marks

    abbrev after : Image
    after = set now (place_on old p) (pointing_to (word_on old p) c)

    low_place : (q : Trail) → IsPlaced old Pointer q → place_on old q < length now
    low_place _ at_top = let whole : length old ≡ 512 * block_count old = skeleton.whole in omega (arith, some, whole, thawing.whole)
    low_place _ (in_block slot q live present low) =
        let whole : length old ≡ 512 * block_count old = skeleton.whole in
        let range : block_on old q < block_count old = skeleton.in_range q live in
        omega (arith, low, whole, range, thawing.whole)

    other_place : (place : ℕ) → place ≢ place_on old p → word after place ≡ word now place
    other_place place other = get_or-set_other now (place_on old p) place (pointing_to (word_on old p) c) 0 other

    this_place : word after (place_on old p) ≡ pointing_to (word_on old p) c
    this_place = get_or-set_same now (place_on old p) (pointing_to (word_on old p) c) 0 (low_place p at)

    other_trail : (q : Trail) → IsPlaced old Pointer q → q ≢ p → word after (place_on old q) ≡ word now (place_on old q)
    other_trail q there other = other_place (place_on old q) (λ e. other (places_apart old Pointer are skeleton q p there at e))

    not_low : (place : ℕ) → place < 512 → place ≢ 2 → (q : Trail) → IsPlaced old Pointer q → place ≢ place_on old q
    not_low place low other _ at_top e = other e
    not_low place low other _ (in_block slot q live present few) e = present (omega (arith, low, e))

    top_placed : (q : Trail) → is_top (copy_on marks) q ≡ true → IsPlaced old Pointer q
    top_placed q is_q =
        let found : (d : ℕ) × (copy_on marks q ≡ Some d) = top_has q is_q in
        mark-placed old Pointer are skeleton marks all (q, found.0) (has-copy_on marks q found.0 found.1)

    links : (q : Trail) (d : ℕ) → is_top (copy_on marks) q ≡ true → copy_on marks q ≡ Some d → one_more p stored q ≡ true → word after (place_on old q) ≡ pointing_to (word_on old q) d
    links q d top_q e s = go (cases_trail q p)
      where
        go : (q ≡ p) ⊎ (q ≢ p) → word after (place_on old q) ≡ pointing_to (word_on old q) d
        go (inl same) =
            let one : c ≡ d = let both : ◌≡◌ {A = Option ℕ} (Some c) (Some d) = sym is ∙ ap (copy_on marks) (sym same) ∙ e in cc in
            ap (λ x. word after (place_on old x)) same ∙ this_place ∙ ap (λ x. pointing_to (word_on old x) c) (sym same) ∙ ap (pointing_to (word_on old q)) one
        go (inr other) = other_trail q (top_placed q top_q) other ∙ thawing.links q d top_q e (rw (trail_differs p q (λ f. other (sym f))) at s)

    unstored : (q : Trail) → Pointer q → is_top (copy_on marks) q ≡ true → one_more p stored q ≡ false → word after (place_on old q) ≡ word old (place_on old q)
    unstored q pointer top_q s = go (cases_trail q p)
      where
        go : (q ≡ p) ⊎ (q ≢ p) → word after (place_on old q) ≡ word old (place_on old q)
        go (inl same) = absurd (true≢false (sym (rw ((bytes_eq-Decides p q).1 (sym same)) refl) ∙ s))
        go (inr other) = other_trail q (top_placed q top_q) other ∙ thawing.unstored q pointer top_q (rw (trail_differs p q (λ f. other (sym f))) at s)

    not_top : (q : Trail) → is_top (copy_on marks) q ≡ false → q ≢ p
    not_top q none e = true≢false (sym top ∙ ap (is_top (copy_on marks)) (sym e) ∙ none)

    pub link_thawing : AreThawing old after Pointer (copy_on marks) (one_more p stored)
    link_thawing = record {
      whole = length-set now (place_on old p) (pointing_to (word_on old p) c) ∙ thawing.whole;
      superblock = λ place low other. other_place place (not_low place low other p at) ∙ thawing.superblock place low other;
      copied = λ q d slot e low.
          other_place (512 * d + slot) (λ f. outside p pointed (q, d) (has-copy_on marks q d e) (ap (λ n. n / 512) (sym f) ∙ block_is d slot low))
          ∙ thawing.copied q d slot e low;
      links = links;
      unstored = unstored;
      root = λ none. other_trail [] at_top (not_top [] none) ∙ thawing.root none;
      others = λ q slot pointer present low none. other_trail (slot ∷ q) (in_block slot q pointer present low) (not_top (slot ∷ q) none) ∙ thawing.others q slot pointer present low none;
    }
