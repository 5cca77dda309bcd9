-- Chains of faults, of which none is found, and tests.
use Rattle.std.proofs.Common.{◌≡◌, ◌||◌, Bool, true, false, not, cond, refl, subst, List, [], ◌∷◌, true≢false}
use Rattle.std.specs.Prelude.{Some, None, find}
use Rattle.clap.specs.Kinds.{Kinds, check_kinds, or_else}

pub both_empty : (a b : Kinds) → or_else a b ≡ [] → (a ≡ []) × (b ≡ [])
both_empty [] b e = (refl, e)
both_empty (k ∷ ks) b e = absurd (cc)

pub joined : (a b : Kinds) → a ≡ [] → b ≡ [] → or_else a b ≡ []
joined a b first second = rw first second

pub neither : (a b : Bool) → (a || b) ≡ false → (a ≡ false) × (b ≡ false)
neither true b e = absurd (true≢false e)
neither false b e = (refl, e)

pub is_true : (b : Bool) → not b ≡ false → b ≡ true
is_true true e = refl
is_true false e = absurd (true≢false e)

-- where the last checks find nothing
pub no_checks : (help wanted argument : Bool) → check_kinds help wanted argument ≡ [] → (wanted ≡ false) × (argument ≡ false)
no_checks true wanted argument e = absurd (cc)
no_checks false true argument e = absurd (cc)
no_checks false false true e = absurd (cc)
no_checks false false false e = (refl, refl)

abbrev pub Each : {X : Type 0} → (X → Type 0) → List X → Type 0
Each P [] = Unit {0}
Each P (x ∷ xs) = P x × Each P xs

pub found_is : {X : Type 0} (P : X → Type 0) (test : X → Bool) (xs : List X) (x : X) → Each P xs → find test xs ≡ Some x → P x × (test x ≡ true)
found_is P test [] x each e = absurd (let no : None ≡ Some x = e in cc)
found_is {X} P test (y ∷ xs) x each e = go (found_is P test xs x each.1) (test y) refl e
  where
    go : (find test xs ≡ Some x → P x × (test x ≡ true)) → (b : Bool) → test y ≡ b → cond b (Some y) (find test xs) ≡ Some x → P x × (test x ≡ true)
    go rest true at e = let same : y ≡ x = cc in (subst P same each.0, subst (λ (z : X). test z ≡ true) same at)
    go rest false at e = rest e
