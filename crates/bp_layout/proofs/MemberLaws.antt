-- Members of lists, what each of them has, and lists in which none stands twice.
use Rattle.std.proofs.Common.{◌≡◌, ◌≢◌, ◌⊎◌, ℕ, zero, suc, ◌+◌, ◌<◌, ◌≤◌, List, [], ◌∷◌, ◌++◌, map, filter, length, Bool, true, false, refl, sym, ◌∙◌, ap, subst, arith, inl, inr}
use Rattle.std.specs.List.{range_with_len, flat_map}
use Rattle.std.proofs.lemmas.Bool.{cases_eq}
use Rattle.bp_layout.specs.Members.{Has, Each, AreApart}

-- ---- members

pub has-prefix : {A : Type 0} (xs ys : List A) (x : A) → Has xs x → Has (xs ++ ys) x
has-prefix [] ys x has = absurd has
has-prefix (y ∷ xs) ys x (inl e) = inl e
has-prefix (y ∷ xs) ys x (inr later) = inr (has-prefix xs ys x later)

pub has-after : {A : Type 0} (xs ys : List A) (x : A) → Has ys x → Has (xs ++ ys) x
has-after [] ys x has = has
has-after (y ∷ xs) ys x has = inr (has-after xs ys x has)

pub has-either : {A : Type 0} (xs ys : List A) (x : A) → Has (xs ++ ys) x → Has xs x ⊎ Has ys x
has-either [] ys x has = inr has
has-either (y ∷ xs) ys x (inl e) = inl (inl e)
has-either (y ∷ xs) ys x (inr later) = go (has-either xs ys x later)
  where
    go : Has xs x ⊎ Has ys x → Has (y ∷ xs) x ⊎ Has ys x
    go (inl one) = inl (inr one)
    go (inr two) = inr two

pub has-map : {A B : Type 0} (f : A → B) (xs : List A) (x : A) → Has xs x → Has (map f xs) (f x)
has-map f [] x has = absurd has
has-map f (y ∷ xs) x (inl e) = inl (ap f e)
has-map f (y ∷ xs) x (inr later) = inr (has-map f xs x later)

pub has-flat_map : {A B : Type 0} (f : A → List B) (xs : List A) (x : A) (y : B) → Has xs x → Has (f x) y → Has (flat_map f xs) y
has-flat_map f [] x y has inside = absurd has
has-flat_map f (z ∷ xs) x y (inl e) inside = has-prefix (f z) (flat_map f xs) y (subst (λ w. Has (f w) y) (sym e) inside)
has-flat_map f (z ∷ xs) x y (inr later) inside = has-after (f z) (flat_map f xs) y (has-flat_map f xs x y later inside)

pub has-filter : {A : Type 0} (p : A → Bool) (xs : List A) (x : A) → Has xs x → p x ≡ true → Has (filter p xs) x
has-filter p [] x has passes = absurd has
has-filter p (y ∷ xs) x (inl e) passes = rw (ap p e ∙ passes) (inl e)
has-filter p (y ∷ xs) x (inr later) passes = go (p y) refl (has-filter p xs x later passes)
  where
    go : (keep : Bool) → p y ≡ keep → Has (filter p xs) x → Has (filter p (y ∷ xs)) x
    go true is rest = rw is (inr rest)
    go false is rest = rw is rest

-- what a filter leaves
pub filter-has : {A : Type 0} (p : A → Bool) (xs : List A) (x : A) → Has (filter p xs) x → Has xs x × (p x ≡ true)
filter-has p [] x has = absurd has
filter-has p (y ∷ xs) x has = go (p y) refl has (λ later. filter-has p xs x later)
  where
    first : p y ≡ true → (y ≡ x) ⊎ Has (filter p xs) x → (Has (filter p xs) x → Has xs x × (p x ≡ true)) → Has (y ∷ xs) x × (p x ≡ true)
    first is (inl e) rest = (inl e, ap p (sym e) ∙ is)
    first is (inr later) rest = let r = rest later in (inr r.0, r.1)

    go : (keep : Bool) → p y ≡ keep → Has (filter p (y ∷ xs)) x → (Has (filter p xs) x → Has xs x × (p x ≡ true)) → Has (y ∷ xs) x × (p x ≡ true)
    go true is found rest = first is (rw is at found) rest
    go false is found rest = let r = rest (rw is at found) in (inr r.0, r.1)

pub has-range : (a n k : ℕ) → a ≤ k → k < a + n → Has (range_with_len a n) k
has-range a zero k low high = absurd (omega (arith, low, high))
has-range a (suc n) k low high = elim (cases_eq a k) [ inl e ↦ inl e | inr other ↦ inr (has-range (a + 1) n k (omega (arith, low, other)) (omega (arith, high))) ]

range-low : (a n k : ℕ) → Has (range_with_len a n) k → a ≤ k
range-low a zero k has = absurd has
range-low a (suc n) k (inl e) = omega (arith, e)
range-low a (suc n) k (inr later) = let low : a + 1 ≤ k = range-low (a + 1) n k later in omega (arith, low)

-- ---- what each has

pub each-append : {A : Type 0} (P : A → Type 0) (xs ys : List A) → Each P xs → Each P ys → Each P (xs ++ ys)
each-append P [] ys one two = two
each-append P (x ∷ xs) ys one two = (one.0, each-append P xs ys one.1 two)

pub each-as : {A : Type 0} (P Q : A → Type 0) → ((x : A) → P x → Q x) → (xs : List A) → Each P xs → Each Q xs
each-as P Q so [] all = tt
each-as P Q so (x ∷ xs) all = (so x all.0, each-as P Q so xs all.1)

pub each-has : {A : Type 0} (P : A → Type 0) (xs : List A) (x : A) → Each P xs → Has xs x → P x
each-has P [] x all has = absurd has
each-has P (y ∷ xs) x all (inl e) = subst P e all.0
each-has P (y ∷ xs) x all (inr later) = each-has P xs x all.1 later

pub each-of : {A : Type 0} (P : A → Type 0) (xs : List A) → ((x : A) → Has xs x → P x) → Each P xs
each-of P [] all = tt
each-of P (x ∷ xs) all = (all x (inl refl), each-of P xs (λ y later. all y (inr later)))

-- ---- lists in which none stands twice

pub apart-more : {A : Type 0} (x : A) (xs : List A) → (Has xs x → ⊥) → AreApart xs → AreApart (x ∷ xs)
apart-more x xs new apart = (each-of (λ y. y ≢ x) xs (λ y has e. new (subst (Has xs) e has)), apart)

pub apart-first : {A : Type 0} (x : A) (xs : List A) → AreApart (x ∷ xs) → Has xs x → ⊥
apart-first x xs apart has = each-has (λ y. y ≢ x) xs x apart.0 has refl

pub apart-append : {A : Type 0} (xs ys : List A) → AreApart xs → AreApart ys → ((x : A) → Has xs x → Has ys x → ⊥) → AreApart (xs ++ ys)
apart-append [] ys one two none = two
apart-append (x ∷ xs) ys one two none = (
  each-append (λ y. y ≢ x) xs ys one.0 (each-of (λ y. y ≢ x) ys (λ y has e. none x (inl refl) (subst (Has ys) e has))),
  apart-append xs ys one.1 two (λ y first second. none y (inr first) second),
)

pub apart-filter : {A : Type 0} (p : A → Bool) (xs : List A) → AreApart xs → AreApart (filter p xs)
apart-filter p [] apart = tt
apart-filter p (x ∷ xs) apart = go (p x) refl (apart-filter p xs apart.1)
  where
    go : (keep : Bool) → p x ≡ keep → AreApart (filter p xs) → AreApart (filter p (x ∷ xs))
    go true is rest = rw is (apart-more x (filter p xs) (λ has. apart-first x xs apart (filter-has p xs x has).0) rest)
    go false is rest = rw is rest

pub apart-range : (a n : ℕ) → AreApart (range_with_len a n)
apart-range a zero = tt
apart-range a (suc n) = apart-more a (range_with_len (a + 1) n) (λ has. let low : a + 1 ≤ a = range-low (a + 1) n a has in omega (arith, low)) (apart-range (a + 1) n)

-- what is taken out of a list
without_one : {A : Type 0} (ys : List A) (x : A) → Has ys x → (rest : List A) × (length ys ≡ suc (length rest)) × ((y : A) → Has ys y → y ≢ x → Has rest y)
without_one [] x has = absurd has
without_one (y ∷ ys) x (inl e) = (ys, refl, λ z has other. elim has [ inl f ↦ absurd (other (sym f ∙ e)) | inr later ↦ later ])
without_one (y ∷ ys) x (inr later) =
    let less = without_one ys x later in
    (y ∷ less.0, ap suc less.1, λ z has other. elim has [ inl f ↦ inl f | inr more ↦ inr (less.2 z more other) ])

-- a list without repeats whose members are all in another is no longer
pub apart-within : {A : Type 0} (xs ys : List A) → AreApart xs → ((x : A) → Has xs x → Has ys x) → length xs ≤ length ys
apart-within [] ys apart all = omega arith
apart-within (x ∷ xs) ys apart all =
    let less = without_one ys x (all x (inl refl)) in
    let few : length xs ≤ length less.0 = apart-within xs less.0 apart.1 (λ y has. less.2 y (all y (inr has)) (each-has (λ z. z ≢ x) xs y apart.0 has)) in
    omega (arith, few, less.1)
