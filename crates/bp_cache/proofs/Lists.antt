-- Lists of what is held of directories.
use Rattle.std.proofs.Common.{◌≡◌, ◌≢◌, ◌⊎◌, ℕ, Bool, true, false, nat_eq, List, [], ◌∷◌, Contains, Option, Some, None}
use Rattle.std.proofs.Common.{refl, sym, ◌∙◌, ap, subst, inl, inr, eqb-true, eq-eqb}
use Rattle.std.specs.List.{IsDistinct}
use Rattle.std.specs.Map.{keys_of, lookup, remove_entry, set_value}
use Rattle.std.proofs.lemmas.Bool.{both_ways}
use Rattle.lru.specs.LruCache.{LruCache, promoted, put_entries}
use Rattle.lru.proofs.CallerLemmas.{Contains-lookup, Contains-promoted, Contains-put_entries, Contains-remove_entry}
use Rattle.lru.proofs.Splits.{Contains-head, Contains-tail, Contains-cons, Contains-nil, all_at, all_unmap}
use Rattle.bp_layout.specs.Words.{Image}
use Rattle.bp_cache.specs.declared.held.Held.{Held}
use Rattle.bp_cache.specs.Cache.{AreHeldOf, IsHeldOf}
use Rattle.bp_cache.specs.Held.{ChangesOne}

abbrev pub Directories : Type 0
Directories = List (ℕ × Held)

-- ---- one image

module _ (image : Image) where
  pub held_promoted : (test : ℕ → Bool) (es : Directories) → AreHeldOf image es → AreHeldOf image (promoted test es)
  held_promoted test es right i held has = right i held (Contains-promoted test es (i, held) has)

  pub held_removed : (test : ℕ → Bool) (es : Directories) → AreHeldOf image es → AreHeldOf image (remove_entry test es)
  held_removed test es right i held has = right i held (Contains-remove_entry test es (i, held) has)

  pub held_put : (cache : LruCache ℕ Held) (dir : ℕ) (value : Held) → AreHeldOf image cache.entries → IsHeldOf image dir value →
      AreHeldOf image (put_entries nat_eq cache dir value)
  held_put cache dir value right is i held has = go (Contains-put_entries nat_eq cache dir value (i, held) has)
    where
      go : Contains cache.entries (i, held) ⊎ ((held ≡ value) × ((i ≡ dir) ⊎ ((w : Held) × Contains cache.entries (i, w) × (nat_eq dir i ≡ true)))) →
          IsHeldOf image i held
      go (inl was) = right i held was
      go (inr (same, inl here)) = rw (same, here) is
      go (inr (same, inr there)) = rw (same, sym (eqb-true dir i there.2)) is

  pub held_found : (dir : ℕ) (es : Directories) (held : Held) → AreHeldOf image es → lookup (nat_eq dir) es ≡ Some held → IsHeldOf image dir held
  held_found dir es held right some =
      let there = Contains-lookup (nat_eq dir) es held some in
      rw (eqb-true dir there.0 there.2) (right there.0 held there.1)

  pub held_set : (dir : ℕ) (es : Directories) (value : Held) → AreHeldOf image es → IsHeldOf image dir value → AreHeldOf image (set_value (nat_eq dir) es value)
  held_set dir [] value right is i held = λ has. right i held has
  held_set dir (e ∷ es) value right is i held =
      let rest : AreHeldOf image es = λ j other has. right j other (Contains-tail e es (j, other) has) in
      go (rest i held) (held_set dir es value rest is i held) (nat_eq dir e.0) refl
    where
      go : (Contains es (i, held) → IsHeldOf image i held) → (Contains (set_value (nat_eq dir) es value) (i, held) → IsHeldOf image i held) →
          (b : Bool) → nat_eq dir e.0 ≡ b → Contains (set_value (nat_eq dir) (e ∷ es) value) (i, held) → IsHeldOf image i held
      go following on true at has = elim (Contains-cons (e.0, value) es (i, held) (rw at at has)) [
        | inl same ↦
            let key : dir ≡ i = eqb-true dir e.0 at ∙ ap (λ p. p.0) same in
            let here : value ≡ held = ap (λ p. p.1) same in
            subst (λ h. IsHeldOf image i h) here (subst (λ j. IsHeldOf image j value) key is)
        | inr later ↦ following later
      ]
      go following on false at has = elim (Contains-cons e (set_value (nat_eq dir) es value) (i, held) (rw at at has)) [
        | inl same ↦ right i held (subst (Contains (e ∷ es)) same (Contains-head e es))
        | inr later ↦ on later
      ]

-- ---- what one directory becomes

-- what was held of directory i, where this is held now
abbrev pub Was : ℕ → (Held → Held → Type 0) → Directories → ℕ → Held → Type 0
Was dir Step es i held = (before : Held) × Contains es (i, before) × (i ≢ dir → held ≡ before) × (i ≡ dir → Step before held)

not_held : {dir : ℕ} (es : Directories) → lookup (nat_eq dir) es ≡ None → (i : ℕ) (held : Held) → Contains es (i, held) → i ≡ dir → ⊥
not_held [] none i held has same = Contains-nil (i, held) has
not_held {dir} (e ∷ es) none i held has same = go (λ less. not_held es less i held) (nat_eq dir e.0) refl
  where
    go : (lookup (nat_eq dir) es ≡ None → Contains es (i, held) → i ≡ dir → ⊥) → (b : Bool) → nat_eq dir e.0 ≡ b → ⊥
    go on true at = let never : ◌≡◌ {A = Option Held} (Some e.1) None = rw at at none in cc
    go on false at = elim (Contains-cons e es (i, held) has) [
      | inl here ↦ both_ways (nat_eq dir e.0) at (eq-eqb _ _ (sym same ∙ ap (λ p. p.0) (sym here)))
      | inr later ↦ on (rw at at none) later same
    ]

-- no key comes twice
differs : (e : ℕ × Held) (es : Directories) → IsDistinct nat_eq (keys_of (e ∷ es)) → (i : ℕ) (held : Held) → Contains es (i, held) → nat_eq e.0 i ≡ false
unfolding IsDistinct
differs e es distinct i held = all_at (λ x. nat_eq e.0 x.0 ≡ false) es (i, held) (all_unmap (λ x. x.0) (λ y. nat_eq e.0 y ≡ false) es distinct.0)

module _ (dir : ℕ) (Step : Held → Held → Type 0) where
  -- where nothing is held of the directory
  pub none_changes : (es : Directories) → lookup (nat_eq dir) es ≡ None → ChangesOne dir Step es es
  none_changes es none i held has = (held, has, λ _. refl, λ same. absurd (not_held es none i held has same))

  -- where another value is put in its place
  pub set_changes : (es : Directories) (was value : Held) → IsDistinct nat_eq (keys_of es) → lookup (nat_eq dir) es ≡ Some was → Step was value →
      ChangesOne dir Step es (set_value (nat_eq dir) es value)
  unfolding IsDistinct
  set_changes [] was value distinct some step i held = λ has. let never : ◌≡◌ {A = Option Held} None (Some was) = some in absurd (cc)
  set_changes (e ∷ es) was value distinct some step i held =
      go (λ found has. set_changes es was value distinct.1 found step i held has) (nat_eq dir e.0) refl
    where
      go : (lookup (nat_eq dir) es ≡ Some was → Contains (set_value (nat_eq dir) es value) (i, held) → Was dir Step es i held) →
          (b : Bool) → nat_eq dir e.0 ≡ b → Contains (set_value (nat_eq dir) (e ∷ es) value) (i, held) → Was dir Step (e ∷ es) i held
      go on true at has = elim (Contains-cons (e.0, value) es (i, held) (rw at at has)) [
        | inl same ↦
            let key : e.0 ≡ i = ap (λ p. p.0) same in
            let here : value ≡ held = ap (λ p. p.1) same in
            let found : Some e.1 ≡ Some was = rw at at some in
            let first : e.1 ≡ was = cc in (
              was,
              subst (λ j. Contains (e ∷ es) (j, was)) key (subst (λ h. Contains (e ∷ es) (e.0, h)) first (Contains-head e es)),
              λ apart. absurd (apart (sym key ∙ sym (eqb-true dir e.0 at))),
              λ _. subst (Step was) here step,
            )
        | inr later ↦ (
          held,
          Contains-tail e es (i, held) later,
          λ _. refl,
          λ same. absurd (both_ways (nat_eq e.0 i) (differs e es distinct i held later)
              (eq-eqb _ _ (sym (eqb-true dir e.0 at) ∙ sym same))),
        )
      ]
      go on false at has = elim (Contains-cons e (set_value (nat_eq dir) es value) (i, held) (rw at at has)) [
        | inl same ↦ (
          held,
          subst (Contains (e ∷ es)) same (Contains-head e es),
          λ _. refl,
          λ here. absurd (both_ways (nat_eq dir e.0) at (eq-eqb _ _ (sym here ∙ ap (λ p. p.0) (sym same)))),
        )
        | inr later ↦
            let was_there = on (rw at at some) later in
            (was_there.0, Contains-tail e es (i, was_there.0) was_there.1, was_there.2, was_there.3)
      ]
