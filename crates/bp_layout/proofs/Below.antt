-- Paths below a path.
use Rattle.std.proofs.Common.{◌≡◌, ◌⊎◌, [], ◌∷◌, ◌++◌, Bool, true, false, Option, None, Some, bytes_eq, refl, sym, ◌∙◌, ap, ap₂, inl, inr, true≢false}
use Rattle.std.specs.Cmp.Lexicographic.{same_text}
use Rattle.std.proofs.lemmas.Slice.Eq.{bytes_eq-Decides}
use Rattle.bp_layout.specs.Paths.{Name, Path, same_path, rest_below}

pub bytes_eq_self : (n : Name) → bytes_eq n n ≡ true
bytes_eq_self n = (bytes_eq-Decides n n).1 refl

pub rest_below-append : (p r : Path) → rest_below p (p ++ r) ≡ Some r
rest_below-append [] r = refl
rest_below-append (n ∷ p) r = rw (bytes_eq_self n) (rest_below-append p r)

pub rest_below-is : (p path r : Path) → rest_below p path ≡ Some r → path ≡ p ++ r
rest_below-is [] path r e = cc
rest_below-is (n ∷ p) [] r e = absurd (cc)
rest_below-is (n ∷ p) (m ∷ path) r e = go (λ f. rest_below-is p path r f) (bytes_eq n m) refl
  where
    go : (rest_below p path ≡ Some r → path ≡ p ++ r) → (b : Bool) → bytes_eq n m ≡ b → m ∷ path ≡ n ∷ (p ++ r)
    go rest true at = ap₂ (λ x xs. x ∷ xs) (sym (same_text n m (sym at))) (rest (rw at at e))
    go rest false at = let none : ◌≡◌ {A = Option Path} None (Some r) = rw at at e in absurd (cc)

pub same_path-self : (p : Path) → same_path p p ≡ true
same_path-self [] = refl
same_path-self (n ∷ p) = rw (bytes_eq_self n) (same_path-self p)

pub same_path-is : (p q : Path) → same_path p q ≡ true → p ≡ q
same_path-is [] [] e = refl
same_path-is [] (m ∷ q) e = absurd (true≢false (sym e))
same_path-is (n ∷ p) [] e = absurd (true≢false (sym e))
same_path-is (n ∷ p) (m ∷ q) e = go (λ f. same_path-is p q f) (bytes_eq n m) refl
  where
    go : (same_path p q ≡ true → p ≡ q) → (b : Bool) → bytes_eq n m ≡ b → n ∷ p ≡ m ∷ q
    go rest true at = ap₂ (λ x xs. x ∷ xs) (same_text n m (sym at)) (rest (rw at at e))
    go rest false at = absurd (true≢false (sym (rw at at e)))

pub path_case : (a b : Path) → (a ≡ b) ⊎ (a ≡ b → ⊥)
path_case a b = go (same_path a b) refl
  where
    go : (c : Bool) → same_path a b ≡ c → (a ≡ b) ⊎ (a ≡ b → ⊥)
    go true e = inl (same_path-is a b e)
    go false e = inr (λ f. true≢false (sym (same_path-self a) ∙ ap (same_path a) f ∙ e))
