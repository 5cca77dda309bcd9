-- What is laid over a block as it is copied: the bytes of the runs at the end of a way to a leaf, and else nothing.
use Rattle.std.proofs.Common.{◌≡◌, ◌≢◌, ◌⊎◌, ℕ, suc, ◌+◌, ◌<◌, ◌≤◌, ◌∷◌, length, Bool, true, false, ◌==◌, refl, sym, ◌∙◌, subst, arith, inl, inr, eq-eqb}
use Rattle.std.specs.Prelude.{nat_lt, slice_index}
use Rattle.std.proofs.lemmas.Bool.{cases_eq, cases_lt, eqb-true, ltb-true, lt-ltb}
use Rattle.bp_changes.specs.Trail.{Trail, word_on}
use Rattle.bp_changes.specs.Forest.{IsTreePointer}
use Rattle.bp_cow.specs.Job.{Job, ways, prefix, laid_on, patch_at, IsBegun}
use Rattle.bp_cow.specs.Plan.{Plan, CanMake}
use Rattle.bp_cow.proofs.BuildFacts.{laid-other, laid-leaf}

-- no patch but at the end of a way to a leaf
pub patch-none : (job : Job) (i d slot w : ℕ) → (i < job.leaves → d ≢ length (job.way i)) → patch_at job i d slot w ≡ w
patch-none job i d slot w other = go (nat_lt i job.leaves) refl (d == length (job.way i)) refl
  where
    go : (x : Bool) → nat_lt i job.leaves ≡ x → (y : Bool) → (d == length (job.way i)) ≡ y → patch_at job i d slot w ≡ w
    go false a y b = rw a refl
    go true a false b = rw (a, b) refl
    go true a true b = absurd (other (ltb-true i job.leaves a) (eqb-true d (length (job.way i)) b))

pub patch-leaf : (job : Job) (i d slot w : ℕ) → i < job.leaves → d ≡ length (job.way i) → patch_at job i d slot w ≡ job.patch i slot w
patch-leaf job i d slot w low end = go (nat_lt i job.leaves) refl (d == length (job.way i)) refl
  where
    go : (x : Bool) → nat_lt i job.leaves ≡ x → (y : Bool) → (d == length (job.way i)) ≡ y → patch_at job i d slot w ≡ job.patch i slot w
    go true a true b = rw (a, b) refl
    go false a y b = let yes_low : nat_lt i job.leaves ≡ true = lt-ltb i job.leaves low in absurd (cc)
    go true a false b = let yes_end : (d == length (job.way i)) ≡ true = eq-eqb d (length (job.way i)) end in absurd (cc)

module _ (plan : Plan) (from i d : ℕ) (can : CanMake plan from) (here : i < ways plan.job) (low : from ≤ d) (high : d ≤ length (plan.job.way i)) where
  pub lay_plain : (slot w : ℕ) → IsTreePointer plan.old plan.bound (slot ∷ prefix plan.job i d) → patch_at plan.job i d slot w ≡ w
  lay_plain slot w pointed = go (cases_lt i plan.job.leaves) (cases_eq d (length (plan.job.way i)))
    where
      go : (i < plan.job.leaves) ⊎ (plan.job.leaves ≤ i) → (d ≡ length (plan.job.way i)) ⊎ (d ≡ length (plan.job.way i) → ⊥) → patch_at plan.job i d slot w ≡ w
      go (inr past) any = patch-none plan.job i d slot w (λ l. absurd (omega (arith, l, past)))
      go (inl l) (inr n) = patch-none plan.job i d slot w (λ _. n)
      go (inl l) (inl e) =
          absurd (can.bare i slot l (subst (λ k. IsTreePointer plan.old plan.bound (slot ∷ prefix plan.job i k)) e pointed))

  pub lay_laid : (IsBegun plan.job from i (prefix plan.job i d) → ⊥) → (slot : ℕ) → patch_at plan.job i d slot (word_on plan.old (slot ∷ prefix plan.job i d)) ≡ laid_on plan.old plan.job (slot ∷ prefix plan.job i d)
  lay_laid none slot = go (cases_lt i plan.job.leaves) (cases_eq d (length (plan.job.way i)))
    where
      go : (i < plan.job.leaves) ⊎ (plan.job.leaves ≤ i) → (d ≡ length (plan.job.way i)) ⊎ (d ≡ length (plan.job.way i) → ⊥) → patch_at plan.job i d slot (word_on plan.old (slot ∷ prefix plan.job i d)) ≡ laid_on plan.old plan.job (slot ∷ prefix plan.job i d)
      go (inr past) any =
          patch-none plan.job i d slot _ (λ l. absurd (omega (arith, l, past)))
          ∙ sym (laid-other plan.old plan.job slot (prefix plan.job i d) (λ j small e. none (record { which = j; depth = length (plan.job.way j); early = omega (arith, small, past); low = can.below j (omega (arith, small)); high = omega arith; same = e })))
      go (inl l) (inr n) =
          patch-none plan.job i d slot _ (λ _. n)
          ∙ sym (laid-other plan.old plan.job slot (prefix plan.job i d) (λ j small e.
          let next : d + 1 ≡ suc d = omega arith in
          let pointed : IsTreePointer plan.old plan.bound (prefix plan.job i (suc d)) = subst (λ k. IsTreePointer plan.old plan.bound (prefix plan.job i k)) next (can.pointers i (d + 1) here (omega (arith, high, n))) in
          can.bare j (slice_index (plan.job.way i) d) small (subst (λ (q : Trail). IsTreePointer plan.old plan.bound (slice_index (plan.job.way i) d ∷ q)) e pointed)))
      go (inl l) (inl e) =
          patch-leaf plan.job i d slot _ l e
          ∙ subst (λ k. plan.job.patch i slot (word_on plan.old (slot ∷ prefix plan.job i k)) ≡ laid_on plan.old plan.job (slot ∷ prefix plan.job i k)) (sym e)
          (sym (laid-leaf plan.old plan.job slot i l (λ k small same w. can.agree i k l small same slot w)))
