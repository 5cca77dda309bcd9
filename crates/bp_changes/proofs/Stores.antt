-- Stores of values that may stand at their places leave an image that shows the same.
use Rattle.std.proofs.Common.{◌≡◌, ◌⊎◌, ℕ, ◌<◌, ◌≤◌, length, set, refl, sym, ◌∙◌, subst, get_or-set_same, get_or-set_other, inl, inr}
use Rattle.std.proofs.lemmas.List.{length-set, set_past}
use Rattle.std.proofs.lemmas.Bool.{cases_eq, cases_lt}
use Rattle.bp_layout.specs.Words.{Image, word}
use Rattle.bp_changes.specs.Harmless.{IsHarmless, Agrees}

-- what stands there may stand there
pub harmless_here : (image : Image) (place : ℕ) → IsHarmless image place (word image place)
harmless_here image place = record {
  superblock = λ h. refl;
  pointers = λ t d k reached live stands. refl;
  inodes = λ i f reached few read stands. refl;
  inos = λ i s reached kind in_size stands. refl;
  names = λ i s j f reached names few stands. refl;
  bytes = λ i o reached kind below stands. refl;
}

-- a store of a value that may stand in the first image
pub agrees-store : (old new : Image) (place value : ℕ) → IsHarmless old place value → Agrees old new → Agrees old (set new place value)
agrees-store old new place value harmless agrees = record {
  whole = length-set new place value ∙ agrees.whole;
  each = λ p. at_place p (cases_eq p place);
}
  where
    stored : ((place < length new) ⊎ (length new ≤ place)) → IsHarmless old place (word (set new place value) place)
    stored (inl inside) = rw (get_or-set_same new place value 0 inside) harmless
    stored (inr past) = rw (set_past new place value past) (agrees.each place)

    at_place : (p : ℕ) → ((p ≡ place) ⊎ (p ≡ place → ⊥)) → IsHarmless old p (word (set new place value) p)
    at_place p (inl here) = subst (λ q. IsHarmless old q (word (set new place value) q)) (sym here) (stored (cases_lt place (length new)))
    at_place p (inr other) = rw (get_or-set_other new place p value 0 other) (agrees.each p)
