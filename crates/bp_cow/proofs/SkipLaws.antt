-- A way of which each prefix begins an earlier one: nothing is turned, copied or given back for it.
use Rattle.std.proofs.Common.{◌≡◌, ◌⊎◌, ℕ, zero, suc, ◌+◌, ◌-◌, ◌<◌, ◌≤◌, length, Bool, refl, sym, ◌∙◌, ap, subst, arith, inl, inr}
use Rattle.std.proofs.lemmas.Bool.{cases_lt}
use Rattle.bp_layout.specs.Words.{Image}
use Rattle.bp_cow.specs.Job.{Job, prefix, ways, turned_for, IsBegun}
use Rattle.bp_cow.specs.Plan.{CanMake, IsMade, IsOnWay, Plan}
use Rattle.bp_changes.specs.Trail.{block_on}
use Rattle.bp_cow.specs.Return.{IsBack, IsLeft}
use Rattle.bp_cow.specs.Touched.{job_of}
use Rattle.bp_cow.specs.Ways.{AddsNoBlock}
use Rattle.bp_cow.specs.declared.touched.Touched.{Touched}
use Rattle.bp_cow.proofs.NeedLaws.{turned-low, turned-next, turns_none}
use Rattle.bp_cow.proofs.ReturnLaws.{IsAtOld, back_none, back_word}
use Rattle.bp_cow.proofs.StepLaws.{made_before, made_leaf}

-- each prefix of a way, from the cover's on, begins an earlier one
abbrev pub AreBegun : Job → ℕ → ℕ → Type 0
AreBegun job from i = (d : ℕ) → from ≤ d → d ≤ length (job.way i) → IsBegun job from i (prefix job i d)

pub all-begun : (touched : Touched) (from i : ℕ) → AddsNoBlock touched i → AreBegun (job_of touched) from i
all-begun touched from i none d low high = let s = none d high in record { which = s.which; depth = d; early = s.early; low = low; high = s.there; same = s.same }

pub turned-none : (job : Job) (from i depth : ℕ) → AreBegun job from i → depth ≤ length (job.way i) → turned_for job from i depth ≡ 0
turned-none job from i zero begun high = refl
turned-none job from i (suc depth) begun high = at (turned-none job from i depth begun (omega (arith, high))) (cases_lt depth from)
  where
    next : depth + 1 ≡ suc depth
    next = omega arith

    at : turned_for job from i depth ≡ 0 → (depth < from) ⊎ (from ≤ depth) → turned_for job from i (suc depth) ≡ 0
    at before (inl above) = turned-low job from i (suc depth) (omega (arith, above))
    at before (inr low) =
        let here = turns_none job from i (depth + 1) (begun (depth + 1) (omega (arith, low)) (omega (arith, high))) in
        ap (turned_for job from i) (sym next) ∙ omega (arith, turned-next job from i depth low, before, here)

-- a depth of a way, by how far it is after the cover's
on_way : {plan : Plan} {from i : ℕ} → CanMake plan from → i < ways plan.job → (n : ℕ) → from + n ≤ length (plan.job.way i) → IsOnWay plan from i (from + n)
on_way can here n high = record { can = can; here = here; low = omega arith; high = high }

-- the copies that are made by the first ways are those that are made with this one
module _ (plan : Plan) (from i : ℕ) (now : Image) (free : ℕ → Bool) (can : CanMake plan from) (here : i < ways plan.job) (begun : AreBegun plan.job from i) where
  made-upto : (n : ℕ) → from + n ≤ length (plan.job.way i) → IsMade plan from i from now free → IsMade plan from i (from + n) now free
  made-upto zero high made = let same : from ≡ from + 0 = omega arith in subst (λ d. IsMade plan from i d now free) same made
  made-upto (suc n) high made =
      let next : from + n + 1 ≡ from + suc n = omega arith in
      let before : from + n ≤ length (plan.job.way i) = omega (arith, high) in
      subst (λ d. IsMade plan from i d now free) next (made_before (on_way {plan = plan} can here n before) (made-upto n before made) (begun (from + n + 1) (omega arith) (omega (arith, high))))

  pub made_skip : i < plan.job.leaves → IsMade plan from i from now free → IsMade plan from (i + 1) from now free
  made_skip leaf made =
      let below : from ≤ length (plan.job.way i) = can.below i here in
      let end : from + (length (plan.job.way i) - from) ≡ length (plan.job.way i) = omega (arith, below) in
      let whole : from + (length (plan.job.way i) - from) ≤ length (plan.job.way i) = omega (arith, end) in
      made_leaf (on_way {plan = plan} can here (length (plan.job.way i) - from) whole) end (made-upto (length (plan.job.way i) - from) whole made) leaf

-- and so are the blocks that are given back
module _ (plan : Plan) (from i : ℕ) (before after : ℕ → Bool) (now : Image) (left : IsLeft plan from before now) (here : i < ways plan.job) (begun : AreBegun plan.job from i) where
  back-upto : (n : ℕ) → from + n ≤ length (plan.job.way i) → IsBack plan from i from before after → IsBack plan from i (from + n) before after
  back-upto zero high back = let same : from ≡ from + 0 = omega arith in subst (λ d. IsBack plan from i d before after) same back
  back-upto (suc n) high back =
      let next : from + n + 1 ≡ from + suc n = omega arith in
      let at : IsAtOld plan from i (from + n) before now (block_on plan.old (prefix plan.job i (from + n))) =
      record { left = left; here = here; low = omega arith; more = omega (arith, high); block_is = refl } in
      subst (λ d. IsBack plan from i d before after) next (back_none at (back-upto n (omega (arith, high)) back) (inr (begun (from + n + 1) (omega arith) (omega (arith, high)))))

  pub back_skip : IsBack plan from i from before after → IsBack plan from (i + 1) from before after
  back_skip back =
      let below : from ≤ length (plan.job.way i) = left.can.below i here in
      let end : from + (length (plan.job.way i) - from) ≡ length (plan.job.way i) = omega (arith, below) in
      let whole : from + (length (plan.job.way i) - from) ≤ length (plan.job.way i) = omega (arith, end) in
      back_word (on_way {plan = plan} left.can here (length (plan.job.way i) - from) whole) end (back-upto (length (plan.job.way i) - from) whole back)
