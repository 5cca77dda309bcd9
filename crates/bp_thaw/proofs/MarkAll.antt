-- The trails of pointers and the copies of their blocks, in one order.
use Rattle.std.proofs.Common.{◌≡◌, ℕ, suc, List, [], ◌∷◌, map, length, refl, sym, ◌∙◌, ap, inl, inr}
use Rattle.bp_layout.specs.Members.{AreApart, Has}
use Rattle.bp_layout.proofs.MemberLaws.{apart-first}
use Rattle.bp_layout.specs.Words.{Image}
use Rattle.bp_changes.specs.Trail.{Trail, place_on}
use Rattle.bp_thaw.specs.Copies.{Copies, Marks, blocks_of, placed_copies, places_of}

abbrev pub mark_all : List Trail → Copies → Marks
mark_all [] copies = []
mark_all (t ∷ trails) [] = []
mark_all (t ∷ trails) (c ∷ copies) = (t, c.1) ∷ mark_all trails copies

pair_as : (c : ℕ × ℕ) (a : ℕ) → c.0 ≡ a → (a, c.1) ≡ c
pair_as (b, d) a e = cc

-- no item more or less
module _ (image : Image) where
  pub copies_marked : (trails : List Trail) (copies : Copies) → places_of copies ≡ map (place_on image) trails → placed_copies image (mark_all trails copies) ≡ copies
  copies_marked [] [] at = refl
  copies_marked [] (c ∷ copies) at = absurd (cc)
  copies_marked (t ∷ trails) [] at = absurd (cc)
  copies_marked (t ∷ trails) (c ∷ copies) at =
      let head : c.0 ≡ place_on image t = cc in
      let tail : places_of copies ≡ map (place_on image) trails = cc in
      let one : (place_on image t, c.1) ≡ c = pair_as c (place_on image t) head in
      let rest : placed_copies image (mark_all trails copies) ≡ copies = copies_marked trails copies tail in
      cc

  pub number-marked : (trails : List Trail) (copies : Copies) → places_of copies ≡ map (place_on image) trails → length (blocks_of copies) ≡ length trails
  number-marked [] [] at = refl
  number-marked [] (c ∷ copies) at = absurd (cc)
  number-marked (t ∷ trails) [] at = absurd (cc)
  number-marked (t ∷ trails) (c ∷ copies) at = let tail : places_of copies ≡ map (place_on image) trails = cc in ap suc (number-marked trails copies tail)

  pub trail-marked : (trails : List Trail) (copies : Copies) → places_of copies ≡ map (place_on image) trails → (t : Trail) → Has trails t → (b : ℕ) × Has (mark_all trails copies) (t, b)
  trail-marked [] copies at t has = absurd has
  trail-marked (p ∷ trails) [] at t has = absurd (cc)
  trail-marked (p ∷ trails) (c ∷ copies) at t (inl e) = (c.1, inl (ap (λ (x : Trail). (x, c.1)) e))
  trail-marked (p ∷ trails) (c ∷ copies) at t (inr later) =
      let tail : places_of copies ≡ map (place_on image) trails = cc in
      let rest = trail-marked trails copies tail t later in
      (rest.0, inr rest.1)

  pub block-marked : (trails : List Trail) (copies : Copies) → places_of copies ≡ map (place_on image) trails → (b : ℕ) → Has (blocks_of copies) b → (t : Trail) × Has (mark_all trails copies) (t, b)
  block-marked [] [] at b has = absurd has
  block-marked [] (c ∷ copies) at b has = absurd (cc)
  block-marked (t ∷ trails) [] at b has = absurd has
  block-marked (t ∷ trails) (c ∷ copies) at b (inl e) = (t, inl (ap (λ (x : ℕ). (t, x)) e))
  block-marked (t ∷ trails) (c ∷ copies) at b (inr later) =
      let tail : places_of copies ≡ map (place_on image) trails = cc in
      let rest = block-marked trails copies tail b later in
      (rest.0, inr rest.1)

pub mark-from : (trails : List Trail) (copies : Copies) (m : Trail × ℕ) → Has (mark_all trails copies) m → Has trails m.0 × Has (blocks_of copies) m.1
mark-from [] copies m has = absurd has
mark-from (t ∷ trails) [] m has = absurd has
mark-from (t ∷ trails) (c ∷ copies) m (inl e) = (inl (ap (λ (x : Trail × ℕ). x.0) e), inl (ap (λ (x : Trail × ℕ). x.1) e))
mark-from (t ∷ trails) (c ∷ copies) m (inr later) = let rest = mark-from trails copies m later in (inr rest.0, inr rest.1)

pub has-mapped : {A B : Type 0} (f : A → B) (xs : List A) (x : A) (b : B) → Has xs x → f x ≡ b → Has (map f xs) b
has-mapped f [] x b has e = absurd has
has-mapped f (y ∷ xs) x b (inl same) e = inl (ap f same ∙ e)
has-mapped f (y ∷ xs) x b (inr later) e = inr (has-mapped f xs x b later e)

-- what is distinguished by a value
pub once_by : {A B : Type 0} (f : A → B) (xs : List A) → AreApart (map f xs) → (x y : A) → Has xs x → Has xs y → f x ≡ f y → x ≡ y
once_by f [] apart x y one two e = absurd one
once_by f (z ∷ xs) apart x y (inl a) (inl b) e = sym a ∙ b
once_by f (z ∷ xs) apart x y (inl a) (inr b) e = absurd (apart-first (f z) (map f xs) apart (has-mapped f xs y (f z) b (sym e ∙ ap f (sym a))))
once_by f (z ∷ xs) apart x y (inr a) (inl b) e = absurd (apart-first (f z) (map f xs) apart (has-mapped f xs x (f z) a (e ∙ ap f (sym b))))
once_by f (z ∷ xs) apart x y (inr a) (inr b) e = once_by f xs apart.1 x y a b e
