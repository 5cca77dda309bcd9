-- `swapped` changes values at word 0 only, and is its own inverse.
use Rattle.std.proofs.Common.{◌≡◌, ℕ, ◌<◌, inl, inr, refl, sym, ◌∙◌, ap, arith}
use Rattle.std.proofs.lemmas.Bool.Decides.{eqb_tells}
use Rattle.std.proofs.lemmas.Bool.{ne_eqb}
use Rattle.bp_limits.specs.Limits.{magic}
use Rattle.bp_limits.specs.declared.version.Version.TheVariants.{Three}
use Rattle.bp_roles.specs.Roles.{exchanged, magic_of, swapped}
use Rattle.bp_roles.specs.declared.roles.Roles.{Roles}

pub exchanged-one : (one other : ℕ) → exchanged one other one ≡ other
exchanged-one one other = elim (eqb_tells one one) [
  | inl same ↦ rw same.0 refl
  | inr differ ↦ absurd (differ.1 refl)
]

exchanged-other : (one other : ℕ) → exchanged one other other ≡ one
exchanged-other one other = elim (eqb_tells other one) [
  | inl same ↦ rw same.0 same.1
  | inr differ ↦ elim (eqb_tells other other) [
    | inl here ↦ rw (differ.0, here.0) refl
    | inr never ↦ absurd (never.1 refl)
  ]
]

exchanged-else : (one other value : ℕ) → (value ≡ one → ⊥) → (value ≡ other → ⊥) → exchanged one other value ≡ value
exchanged-else one other value not_one not_other = rw (ne_eqb value one not_one, ne_eqb value other not_other) refl

exchanged-twice : (one other value : ℕ) → exchanged one other (exchanged one other value) ≡ value
exchanged-twice one other value = elim (eqb_tells value one) [
  | inl same ↦ ap (exchanged one other) (ap (exchanged one other) same.1 ∙ exchanged-one one other) ∙ exchanged-other one other ∙ sym same.1
  | inr differ ↦ elim (eqb_tells value other) [
    | inl here ↦ ap (exchanged one other) (ap (exchanged one other) here.1 ∙ exchanged-other one other) ∙ exchanged-one one other ∙ sym here.1
    | inr else ↦ ap (exchanged one other) (exchanged-else one other value differ.1 else.1) ∙ exchanged-else one other value differ.1 else.1
  ]
]

pub swapped-first : (roles : Roles) (value : ℕ) → swapped roles 0 value ≡ exchanged (magic_of roles) (magic Three) value
unfolding swapped
swapped-first roles value = refl

pub swapped-past : (roles : Roles) (word value : ℕ) → 0 < word → swapped roles word value ≡ value
unfolding swapped
swapped-past roles word value some = rw (ne_eqb word 0 (λ e. omega (arith, e))) refl

pub swapped-twice : (roles : Roles) (word value : ℕ) → swapped roles word (swapped roles word value) ≡ value
unfolding swapped
swapped-twice roles word value = elim (eqb_tells word 0) [
  | inl first ↦ rw first.0 (exchanged-twice (magic_of roles) (magic Three) value)
  | inr past ↦ rw past.0 refl
]
