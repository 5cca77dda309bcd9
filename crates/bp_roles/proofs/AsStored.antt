-- Images of versions 1 and 2, and of version 3 with its first magic number, are seen as they are stored.
use Rattle.std.proofs.Common.{◌≡◌, ◌≢◌, ℕ, zero, suc, ◌≤◌, length, refl, sym, ◌∙◌, ap, arith, inl, inr}
use Rattle.std.proofs.lemmas.Bool.Decides.{eqb_tells}
use Rattle.std.proofs.lemmas.List.{ext_get_or}
use Rattle.bp_limits.specs.Limits.{magic}
use Rattle.bp_limits.specs.declared.version.Version.TheVariants.{Three}
use Rattle.bp_layout.specs.Words.{Image, word}
use Rattle.bp_roles.specs.Mounted.{by_roles}
use Rattle.bp_roles.specs.Roles.{exchanged, magic_of, stored_at, swapped}
use Rattle.bp_roles.specs.Seen.{seen_words}
use Rattle.bp_roles.specs.declared.roles.Roles.{Roles}
use Rattle.bp_roles.specs.declared.roles.Roles.TheVariants.{OutsideA, OutsideB}
use Rattle.bp_roles.proofs.KeptLaws.{roles_other}
use Rattle.bp_roles.proofs.PlaceLaws.{by_word}
use Rattle.bp_roles.proofs.SwapLaws.{swapped-past, swapped-first}
use Rattle.bp_roles.proofs.SeenLaws.{length-seen, seen-word}

exchanged-none : (one value : ℕ) → exchanged one one value ≡ value
exchanged-none one value = elim (eqb_tells value one) [
  | inl same ↦ rw same.0 (sym same.1)
  | inr differ ↦ rw differ.0 refl
]

stored_at-a : (i : ℕ) → stored_at OutsideA i ≡ i
unfolding stored_at
stored_at-a i = by_word (λ i. stored_at OutsideA i ≡ i) refl refl refl refl refl refl refl refl (λ i. refl) i

pub swapped-same : (roles : Roles) → magic_of roles ≡ magic Three → (i value : ℕ) → swapped roles i value ≡ value
swapped-same roles three zero value = swapped-first roles value ∙ ap (λ number. exchanged number (magic Three) value) three ∙ exchanged-none (magic Three) value
swapped-same roles three (suc i) value = swapped-past roles (suc i) value (omega arith)

seen_same : (image : Image) → 8 ≤ length image → seen_words OutsideA image ≡ image
seen_same image wide = ext_get_or 0 (seen_words OutsideA image) image (length-seen OutsideA image) (λ i low.
    seen-word OutsideA image i wide ∙ swapped-same OutsideA refl i (word image (stored_at OutsideA i)) ∙ ap (word image) (stored_at-a i))

pub seen_as_stored : (image : Image) → 8 ≤ length image → word image 0 ≢ magic_of OutsideB → by_roles image ≡ image
seen_as_stored image wide other = ap (λ r. seen_words r image) (roles_other (word image 0) other) ∙ seen_same image wide
