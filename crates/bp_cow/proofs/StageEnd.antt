-- The end of a commit by copies: each word has its value.
use Rattle.std.proofs.Common.{◌≡◌, ◌≢◌, ◌⊎◌, ℕ, ◌<◌, ◌∷◌, length, Bool, unwrap_or, sym, ◌∙◌, ap, arith, inl, inr}
use Rattle.bp_layout.specs.Words.{Image}
use Rattle.bp_changes.specs.Trail.{Trail, word_on}
use Rattle.bp_changes.specs.Forest.{IsTreePointer}
use Rattle.bp_cow.specs.Job.{ways, end_of, laid_on, IsRenewed}
use Rattle.bp_cow.specs.Job.IsRenewed.{is_begun}
use Rattle.bp_cow.specs.Plan.{Plan, CanMake}
use Rattle.bp_cow.specs.Counting.{IsTreeWord}
use Rattle.bp_cow.specs.Committed.{IsCommitted, after_commit}
use Rattle.bp_cow.proofs.BuildFacts.{laid-other}
use Rattle.bp_cow.proofs.EndLaws.{IsDone, decide_renewed, renewed_pointer}

pub stage_committed : (plan : Plan) (from : ℕ) (now : Image) (free : ℕ → Bool) → CanMake plan from →
    IsDone plan from now free →
    IsCommitted plan.old now (IsTreePointer plan.old plan.bound) (IsTreeWord plan.old plan.bound) (IsRenewed plan.job from (ways plan.job) from) (after_commit plan.old plan.job)
stage_committed plan from now free can stage = record {
  whole = stage.whole;
  superblock = stage.superblock;
  skeleton = stage.skeleton;
  kept = stage.same;
  bits = stage.bits;
  fresh = stage.fresh;
  words = λ p slot live low none counts. words p slot live low none counts (decide_renewed plan.job from (ways plan.job) p);
  decide = decide_renewed plan.job from (ways plan.job);
  pointers = renewed_pointer plan from can;
}
  where
    -- a block that was not copied is no leaf of the run
    no_leaf : (p : Trail) → (IsRenewed plan.job from (ways plan.job) from p → ⊥) → (j : ℕ) → j < plan.job.leaves → p ≢ end_of plan.job j
    no_leaf p still j low e = still (is_begun (record { which = j; depth = length (plan.job.way j); early = omega (arith, low); low = can.below j (omega (arith, low)); high = omega arith; same = e }))

    words : (p : Trail) (slot : ℕ) → IsTreePointer plan.old plan.bound p → slot < 512 → (IsRenewed plan.job from (ways plan.job) from (slot ∷ p) → ⊥) → IsTreeWord plan.old plan.bound (slot ∷ p) →
        IsRenewed plan.job from (ways plan.job) from p ⊎ (IsRenewed plan.job from (ways plan.job) from p → ⊥) → word_on now (slot ∷ p) ≡ after_commit plan.old plan.job (slot ∷ p)
    words p slot live low none counts (inl copied) = stage.words p slot live copied low none counts
    words p slot live low none counts (inr still) =
        stage.still p slot live still low none
        ∙ sym (laid-other plan.old plan.job slot p (no_leaf p still))
        ∙ ap (λ v. unwrap_or v (laid_on plan.old plan.job (slot ∷ p))) (sym (stage.early p slot live still))
