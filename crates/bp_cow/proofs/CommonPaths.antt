-- With what some paths begin, and how far it exists.
use Rattle.std.proofs.Common.{◌≡◌, ℕ, zero, suc, ◌<◌, ◌≤◌, List, [], ◌∷◌, ◌++◌, length, take, Bool, true, false, refl, sym, ◌∙◌, ap, subst, arith, inl, inr, append_assoc}
use Rattle.std.specs.List.{fold}
use Rattle.std.specs.Prelude.{◌==◌}
use Rattle.std.proofs.lemmas.Bool.{eq-eqb, eqb-true}
use Rattle.std.proofs.lemmas.List.{append-nil, take-take}
use Rattle.bp_layout.specs.Members.{Has}
use Rattle.bp_layout.specs.Need.{existing_from, common, common_all}
use Rattle.bp_layout.specs.WordPaths.{WordPath}

-- the other path begins with this one
pub record Begins (prefix path : WordPath) : Type 0 where
  pub long : length prefix ≤ length path
  pub same : take (length prefix) path ≡ prefix

pub begins-self : (p : WordPath) → Begins p p
begins-self [] = record { long = omega arith; same = refl }
begins-self (x ∷ p) = let rest = begins-self p in record { long = omega arith; same = ap (λ q. x ∷ q) rest.same }

pub begins-then : (p q r : WordPath) → Begins p q → Begins q r → Begins p r
begins-then p q r one two = record {
  long = omega (arith, one.long, two.long);
  same = sym (take-take (length p) (length q) r one.long) ∙ ap (take (length p)) two.same ∙ one.same;
}

-- ---- with what two paths begin

none-begins-any : (p : WordPath) → Begins [] p
none-begins-any p = record { long = omega arith; same = refl }

next-begins : (x : ℕ) (p q : WordPath) → Begins p q → Begins (x ∷ p) (x ∷ q)
next-begins x p q is = record { long = omega (arith, is.long); same = ap (λ r. x ∷ r) is.same }

common-left : (p q : WordPath) → Begins (common p q) p
common-left [] q = none-begins-any []
common-left (x ∷ p) [] = none-begins-any (x ∷ p)
common-left (x ∷ p) (y ∷ q) = go (x == y) refl (common-left p q)
  where
    go : (b : Bool) → (x == y) ≡ b → Begins (common p q) p → Begins (common (x ∷ p) (y ∷ q)) (x ∷ p)
    go true e rest = rw e (next-begins x (common p q) p rest)
    go false e rest = rw e (none-begins-any (x ∷ p))

common-right : (p q : WordPath) → Begins (common p q) q
common-right [] q = none-begins-any q
common-right (x ∷ p) [] = none-begins-any []
common-right (x ∷ p) (y ∷ q) = go (x == y) refl (common-right p q)
  where
    go : (b : Bool) → (x == y) ≡ b → Begins (common p q) q → Begins (common (x ∷ p) (y ∷ q)) (y ∷ q)
    go true e rest = rw e (subst (λ z. Begins (z ∷ common p q) (y ∷ q)) (sym (eqb-true x y e)) (next-begins y (common p q) q rest))
    go false e rest = rw e (none-begins-any (y ∷ q))

common-most : (r p q : WordPath) → Begins r p → Begins r q → Begins r (common p q)
common-most [] p q one two = none-begins-any (common p q)
common-most (z ∷ r) [] q one two = absurd (omega (arith, one.long))
common-most (z ∷ r) (x ∷ p) [] one two = absurd (omega (arith, two.long))
common-most (z ∷ r) (x ∷ p) (y ∷ q) one two =
    let first : x ∷ take (length r) p ≡ z ∷ r = one.same in
    let second : y ∷ take (length r) q ≡ z ∷ r = two.same in
    let left : x ≡ z = cc in
    let right : y ≡ z = cc in
    let same : (x == y) ≡ true = eq-eqb x y (left ∙ sym right) in
    let rest : Begins r (common p q) = common-most r p q (record { long = omega (arith, one.long); same = cc }) (record { long = omega (arith, two.long); same = cc }) in
    rw same (subst (λ w. Begins (w ∷ r) (x ∷ common p q)) left (next-begins x r (common p q) rest))

-- ---- with what all begin

fold-first : (p : WordPath) (paths : List WordPath) → Begins (fold common p paths) p
fold-first p [] = begins-self p
fold-first p (q ∷ paths) = begins-then (fold common (common p q) paths) (common p q) p (fold-first (common p q) paths) (common-left p q)

fold-each : (p : WordPath) (paths : List WordPath) (r : WordPath) → Has paths r → Begins (fold common p paths) r
fold-each p [] r has = absurd has
fold-each p (q ∷ paths) r (inl e) = subst (Begins (fold common (common p q) paths)) e (begins-then (fold common (common p q) paths) (common p q) q (fold-first (common p q) paths) (common-right p q))
fold-each p (q ∷ paths) r (inr more) = fold-each (common p q) paths r more

fold-most : (r p : WordPath) (paths : List WordPath) → Begins r p → ((q : WordPath) → Has paths q → Begins r q) → Begins r (fold common p paths)
fold-most r p [] one all = one
fold-most r p (q ∷ paths) one all = fold-most r (common p q) paths (common-most r p q one (all q (inl refl))) (λ s has. all s (inr has))

pub all-begin : (paths : List WordPath) (p : WordPath) → Has paths p → Begins (common_all paths) p
all-begin [] p has = absurd has
all-begin (q ∷ paths) p (inl e) = subst (Begins (fold common q paths)) e (fold-first q paths)
all-begin (q ∷ paths) p (inr more) = fold-each q paths p more

pub all-most : (paths : List WordPath) (r p : WordPath) → Has paths p → ((q : WordPath) → Has paths q → Begins r q) → Begins r (common_all paths)
all-most [] r p has all = absurd has
all-most (q ∷ paths) r p has all = fold-most r q paths (all q (inl refl)) (λ s more. all s (inr more))

-- ---- how far it exists

-- as many slots of a path after a part: each proper prefix is there, and where the path is longer the whole of them is not
pub record IsFarAs (there : WordPath → Bool) (here path : WordPath) (count : ℕ) : Type 0 where
  pub low : count ≤ length path
  pub exists : (d : ℕ) → d < count → there (here ++ take d path) ≡ true
  pub ends : count < length path → there (here ++ take count path) ≡ false

pub record HasExistingPrefix (there : WordPath → Bool) (here path : WordPath) : Type 0 where
  pub count : ℕ
  pub far : IsFarAs there here path count
  pub is : existing_from there here path ≡ here ++ take count path

pub existing : (there : WordPath → Bool) (here path : WordPath) → HasExistingPrefix there here path
existing there here [] = record {
  count = 0;
  far = record { low = omega arith; exists = λ d low. absurd (omega (arith, low)); ends = λ low. absurd (omega (arith, low)) };
  is = sym (append-nil here);
}
existing there here (slot ∷ path) = go (there here) refl (existing there (here ++ slot ∷ []) path)
  where
    part : (d : ℕ) → (here ++ slot ∷ []) ++ take d path ≡ here ++ take (suc d) (slot ∷ path)
    part d = append_assoc here (slot ∷ []) (take d path)

    go : (b : Bool) → there here ≡ b → HasExistingPrefix there (here ++ slot ∷ []) path → HasExistingPrefix there here (slot ∷ path)
    go true e rest = record {
      count = suc rest.count;
      far = record {
        low = omega (arith, rest.far.low);
        exists = exists;
        ends = λ low. ap there (sym (part rest.count)) ∙ rest.far.ends (omega (arith, low));
      };
      is = rw e (rest.is ∙ part rest.count);
    }
      where
        exists : (d : ℕ) → d < suc rest.count → there (here ++ take d (slot ∷ path)) ≡ true
        exists zero low = ap there (append-nil here) ∙ e
        exists (suc d) low = ap there (sym (part d)) ∙ rest.far.exists d (omega (arith, low))
    go false e rest = record {
      count = 0;
      far = record { low = omega arith; exists = λ d low. absurd (omega (arith, low)); ends = λ low. ap there (append-nil here) ∙ e };
      is = rw e (sym (append-nil here));
    }

-- two tests that agree as far as the path exists find the same
pub existing_same : (there other : WordPath → Bool) (here path : WordPath) →
    ((d : ℕ) → d < length path → ((e : ℕ) → e < d → other (here ++ take e path) ≡ true) → there (here ++ take d path) ≡ other (here ++ take d path)) →
    existing_from there here path ≡ existing_from other here path
existing_same there other here [] agree = refl
existing_same there other here (slot ∷ path) agree = go (other here) refl (λ pointed. existing_same there other (here ++ slot ∷ []) path (deeper pointed))
  where
    part : (d : ℕ) → (here ++ slot ∷ []) ++ take d path ≡ here ++ take (suc d) (slot ∷ path)
    part d = append_assoc here (slot ∷ []) (take d path)

    first : there here ≡ other here
    first = ap there (sym (append-nil here)) ∙ agree 0 (omega arith) (λ e low. absurd (omega (arith, low))) ∙ ap other (append-nil here)

    deeper : other here ≡ true → (d : ℕ) → d < length path → ((e : ℕ) → e < d → other ((here ++ slot ∷ []) ++ take e path) ≡ true) →
        there ((here ++ slot ∷ []) ++ take d path) ≡ other ((here ++ slot ∷ []) ++ take d path)
    deeper pointed d low above = ap there (part d) ∙ agree (suc d) (omega (arith, low)) all ∙ ap other (sym (part d))
      where
        all : (e : ℕ) → e < suc d → other (here ++ take e (slot ∷ path)) ≡ true
        all zero few = ap other (append-nil here) ∙ pointed
        all (suc e) few = ap other (sym (part e)) ∙ above e (omega (arith, few))

    go : (b : Bool) → other here ≡ b → (other here ≡ true → existing_from there (here ++ slot ∷ []) path ≡ existing_from other (here ++ slot ∷ []) path) →
        existing_from there here (slot ∷ path) ≡ existing_from other here (slot ∷ path)
    go true e rest = let same : there here ≡ true = first ∙ e in rw (same, e) (rest e)
    go false e rest = let same : there here ≡ false = first ∙ e in rw (same, e) refl
