-- A test of each byte, which computes.
use Rattle.std.proofs.Common.{◌≡◌, ◌⊎◌, ℕ, zero, suc, ◌<◌, Bool, true, false, if◌then◌else◌, refl, sym, ◌∙◌, ap, arith, inl, inr, true≢false}
use Rattle.std.proofs.lemmas.Bool.{cases_eq}

unfoldable pub all_below : (ℕ → Bool) → ℕ → Bool
all_below p zero = true
all_below p (suc n) = if p n then all_below p n else false

pub from_all_below : (p : ℕ → Bool) (n k : ℕ) → all_below p n ≡ true → k < n → p k ≡ true
unfolding all_below
from_all_below p zero k all low = absurd (omega (arith, low))
from_all_below p (suc n) k all low = go (p n) refl (cases_eq k n) (λ e. from_all_below p n k e)
  where
    go : (b : Bool) → p n ≡ b → (k ≡ n) ⊎ (k ≡ n → ⊥) → (all_below p n ≡ true → k < n → p k ≡ true) → p k ≡ true
    go true at (inl here) rest = ap p here ∙ at
    go true at (inr other) rest = rest (rw at at all) (omega (arith, low, other))
    go false at which rest = absurd (true≢false (sym (rw at at all)))
