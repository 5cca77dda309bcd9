-- Copies by the places of pointers, and by their trails.
use Rattle.std.proofs.Common.{◌≡◌, ◌≢◌, ◌⊎◌, ℕ, [], ◌∷◌, Bool, true, false, ◌==◌, Option, None, Some, refl, sym, ◌∙◌, ap, arith, inl, inr}
use Rattle.std.specs.Str.{bytes_eq}
use Rattle.std.proofs.lemmas.Bool.{eq-eqb, ne_eqb}
use Rattle.std.proofs.lemmas.Slice.Eq.{bytes_eq-Decides}
use Rattle.bp_layout.specs.Members.{Has}
use Rattle.bp_layout.specs.Words.{Image, word, block_of, slot_word}
use Rattle.bp_layout.proofs.TreeLaws.{slot_word-at}
use Rattle.bp_changes.specs.Trail.{Trail, word_on, block_on, place_on, ArePointers, IsSkeleton, IsPlaced}
use Rattle.bp_changes.specs.Trail.IsPlaced.{at_top, in_block}
use Rattle.bp_changes.proofs.TrailLaws.{cases_trail, word_on-top, word_on-slot}
use Rattle.bp_thaw.specs.Linked.{AreCopies}
use Rattle.bp_thaw.specs.Copies.{Marks, copy_on, copy_at, placed_copies, AreMarks}

pub some_none : (c : ℕ) → ◌≡◌ {A = Option ℕ} (Some c) None → ⊥
some_none c e = absurd (cc)

pub same_some : (c d : ℕ) → ◌≡◌ {A = Option ℕ} (Some c) (Some d) → c ≡ d
same_some c d e = cc

pub trail_differs : (p q : Trail) → p ≢ q → bytes_eq p q ≡ false
trail_differs p q other = go (bytes_eq p q) refl
  where
    go : (x : Bool) → bytes_eq p q ≡ x → bytes_eq p q ≡ false
    go false e = e
    go true e = absurd (other ((bytes_eq-Decides p q).0 e))

pub trail_same : (p : Trail) → bytes_eq p p ≡ true
trail_same p = (bytes_eq-Decides p p).1 refl

pair_is : (m : Trail × ℕ) (p : Trail) (c : ℕ) → m.0 ≡ p → m.1 ≡ c → m ≡ (p, c)
pair_is (q, d) p c e f = cc

-- ---- copies by trails

pub has-copy_on : (marks : Marks) (p : Trail) (c : ℕ) → copy_on marks p ≡ Some c → Has marks (p, c)
has-copy_on [] p c e = absurd (some_none c (sym e))
has-copy_on (m ∷ marks) p c e = go (bytes_eq m.0 p) refl (λ f. has-copy_on marks p c f)
  where
    go : (x : Bool) → bytes_eq m.0 p ≡ x → (copy_on marks p ≡ Some c → Has marks (p, c)) → Has (m ∷ marks) (p, c)
    go true is rest =
        let here : m.0 ≡ p = (bytes_eq-Decides m.0 p).0 is in
        let block : m.1 ≡ c = same_some m.1 c (rw is at e) in
        inl (pair_is m p c here block)
    go false is rest = inr (rest (rw is at e))

pub copy_on-has : (marks : Marks) (m : Trail × ℕ) → ((n : Trail × ℕ) → Has marks n → n.0 ≡ m.0 → n ≡ m) → Has marks m → copy_on marks m.0 ≡ Some m.1
copy_on-has [] m once has = absurd has
copy_on-has (n ∷ marks) m once has = go (cases_trail n.0 m.0) has (λ later. copy_on-has marks m (λ k has e. once k (inr has) e) later)
  where
    go : (n.0 ≡ m.0) ⊎ (n.0 ≢ m.0) → (n ≡ m) ⊎ Has marks m → (Has marks m → copy_on marks m.0 ≡ Some m.1) → copy_on (n ∷ marks) m.0 ≡ Some m.1
    go (inl e) has rest =
        let same : n ≡ m = once n (inl refl) e in
        rw (ap (λ p. bytes_eq p m.0) e ∙ trail_same m.0) (ap (λ (x : Trail × ℕ). Some x.1) same)
    go (inr other) (inl e) rest = absurd (other (ap (λ (x : Trail × ℕ). x.0) e))
    go (inr other) (inr later) rest = rw (trail_differs n.0 m.0 other) (rest later)

-- ---- places

-- below a null there are nulls
pub block_above : (image : Image) (slot : ℕ) (p : Trail) → block_on image (slot ∷ p) ≢ 0 → block_on image p ≢ 0
block_above image slot p present null = present (ap block_of (word_on-slot image slot p ∙ ap (λ b. slot_word image b slot) null))

pub word-at_place : (image : Image) (p : Trail) → block_on image p ≢ 0 → word image (place_on image p) ≡ word_on image p
word-at_place image [] present = sym (word_on-top image)
word-at_place image (slot ∷ p) present = sym (word_on-slot image slot p ∙ slot_word-at image (block_on image p) slot (block_above image slot p present))

module _ (old : Image) (Pointer : Trail → Type 0) (are : ArePointers Pointer) (skeleton : IsSkeleton old Pointer) where
  pub placed : (p : Trail) → Pointer p → block_on old p ≢ 0 → IsPlaced old Pointer p
  placed [] pointer present = at_top
  placed (slot ∷ p) pointer present = in_block slot p (are.above slot p pointer) (block_above old slot p present) (are.slots slot p pointer)

  -- no two words stand at one place
  pub places_apart : (p q : Trail) → IsPlaced old Pointer p → IsPlaced old Pointer q → place_on old p ≡ place_on old q → p ≡ q
  places_apart _ _ at_top at_top same = refl
  places_apart _ _ at_top (in_block slot q pointer present low) same = absurd (present (omega (arith, same)))
  places_apart _ _ (in_block slot p pointer present low) at_top same = absurd (present (omega (arith, same)))
  places_apart _ _ (in_block s p a there low) (in_block t q b also few) same =
      let blocks : block_on old p ≡ block_on old q = omega (arith, same, low, few) in
      let slots : s ≡ t = omega (arith, same, low, few) in
      let trails : p ≡ q = skeleton.once p q a b there blocks in
      cc

  -- so a copy is the same by its place and by its trail
  pub copy_at-placed : (marks : Marks) (q : Trail) → ((m : Trail × ℕ) → Has marks m → IsPlaced old Pointer m.0) → IsPlaced old Pointer q → copy_at (placed_copies old marks) (place_on old q) ≡ copy_on marks q
  copy_at-placed [] q each there = refl
  copy_at-placed (m ∷ marks) q each there = go (cases_trail m.0 q) (copy_at-placed marks q (λ n has. each n (inr has)) there)
    where
      go : (m.0 ≡ q) ⊎ (m.0 ≢ q) → copy_at (placed_copies old marks) (place_on old q) ≡ copy_on marks q → copy_at (placed_copies old (m ∷ marks)) (place_on old q) ≡ copy_on (m ∷ marks) q
      go (inl e) rest =
          let same : (place_on old m.0 == place_on old q) ≡ true = eq-eqb (place_on old m.0) (place_on old q) (ap (place_on old) e) in
          let also : bytes_eq m.0 q ≡ true = (bytes_eq-Decides m.0 q).1 e in
          rw (same, also) refl
      go (inr other) rest =
          let apart : (place_on old m.0 == place_on old q) ≡ false = ne_eqb (place_on old m.0) (place_on old q) (λ f. other (places_apart m.0 q (each m (inl refl)) there f)) in
          rw (apart, trail_differs m.0 q other) rest

  module _ (marks : Marks) (all : AreMarks old Pointer marks) where
    pub mark-placed : (m : Trail × ℕ) → Has marks m → IsPlaced old Pointer m.0
    mark-placed m has = placed m.0 (all.each m has).pointer (all.each m has).present

    pub are_copies : AreCopies old Pointer (copy_on marks)
    are_copies = record {
      pointer = λ p c e. (all.each (p, c) (has-copy_on marks p c e)).pointer;
      present = λ p c e. (all.each (p, c) (has-copy_on marks p c e)).present;
      not_null = λ p c e. (all.each (p, c) (has-copy_on marks p c e)).not_null;
      in_range = λ p c e. (all.each (p, c) (has-copy_on marks p c e)).in_range;
      unled = λ p c e. (all.each (p, c) (has-copy_on marks p c e)).unled;
      once = λ p q c e f. ap (λ (m : Trail × ℕ). m.0) (all.blocks (p, c) (q, c) (has-copy_on marks p c e) (has-copy_on marks q c f) refl);
    }
