-- The end of a commit: the old blocks are where they were, and once they are given back the free set is exact.
use Rattle.std.proofs.Common.{◌≡◌, ◌≢◌, ◌⊎◌, ℕ, zero, suc, ◌+◌, ◌-◌, ◌*◌, ◌/◌, ◌<◌, ◌≤◌, length, Bool, false, refl, sym, ◌∙◌, ap, subst, arith, inl, inr}
use Rattle.std.proofs.lemmas.Bool.{cases_eq, cases_lt}
use Rattle.bp_layout.specs.Words.{Image, word}
use Rattle.bp_layout.proofs.TreeLaws.{slot_word-same}
use Rattle.bp_changes.specs.Trail.{Trail, block_on}
use Rattle.bp_changes.specs.Forest.{IsExactSet, IsTreePointer}
use Rattle.bp_changes.proofs.ForestLaws.{skeleton}
use Rattle.bp_changes.proofs.TrailLaws.{cases_trail}
use Rattle.bp_changes.proofs.PathTrails.{length-trail_of}
use Rattle.bp_cow.specs.Counting.{IsTreeWord}
use Rattle.bp_cow.specs.Stage.{IsStage}
use Rattle.bp_cow.specs.Job.{Job, ways, prefix, value_upto, laid_on, IsBegun, IsRenewed}
use Rattle.bp_cow.specs.Job.IsRenewed.{is_cover, is_begun, is_proper_prefix}
use Rattle.bp_cow.specs.Plan.{Plan, CanMake, IsMade, seen}
use Rattle.bp_cow.specs.Return.{IsLeft, IsBack}
use Rattle.bp_cow.proofs.StageLaws.{exact-end}
use Rattle.bp_cow.proofs.BuildingLaws.{apart-placed}

-- whether some word begins with a trail can be reported
decide_begun : (job : Job) (from count : ℕ) (q : Trail) → IsBegun job from count q ⊎ (IsBegun job from count q → ⊥)
decide_begun job from zero q = inr (λ b. absurd (omega (arith, b.early)))
decide_begun job from (suc count) q = go (decide_begun job from count q) (cases_lt (length q) from) (cases_lt (length (job.way count)) (length q)) (cases_trail q (prefix job count (length q)))
  where
    earlier : (IsBegun job from count q → ⊥) → (b : IsBegun job from (suc count) q) → b.which ≡ count
    earlier none b = pick (cases_eq b.which count)
      where
        pick : (b.which ≡ count) ⊎ (b.which ≡ count → ⊥) → b.which ≡ count
        pick (inl e) = e
        pick (inr n) = absurd (none (record { which = b.which; depth = b.depth; early = omega (arith, b.early, n); low = b.low; high = b.high; same = b.same }))

    depth_is : (b : IsBegun job from (suc count) q) → length q ≡ b.depth
    depth_is b = ap (λ (x : Trail). length x) b.same ∙ length-trail_of (job.way b.which) b.depth

    go : IsBegun job from count q ⊎ (IsBegun job from count q → ⊥) → (length q < from) ⊎ (from ≤ length q) → (length (job.way count) < length q) ⊎ (length q ≤ length (job.way count)) →
        (q ≡ prefix job count (length q)) ⊎ (q ≢ prefix job count (length q)) → IsBegun job from (suc count) q ⊎ (IsBegun job from (suc count) q → ⊥)
    go (inl b) two three four = inl (record { which = b.which; depth = b.depth; early = omega (arith, b.early); low = b.low; high = b.high; same = b.same })
    go (inr none) (inl short) three four = inr (λ b. absurd (omega (arith, short, b.low, depth_is b)))
    go (inr none) (inr low) (inl long) four =
        inr (λ b. let high : b.depth ≤ length (job.way count) = subst (λ j. b.depth ≤ length (job.way j)) (earlier none b) b.high in absurd (omega (arith, long, high, depth_is b)))
    go (inr none) (inr low) (inr high) (inl same) = inl (record { which = count; depth = length q; early = omega arith; low = low; high = high; same = same })
    go (inr none) (inr low) (inr high) (inr other) =
        inr (λ b. other (b.same ∙ ap (λ j. prefix job j b.depth) (earlier none b) ∙ ap (prefix job count) (sym (depth_is b))))

pub decide_renewed : (job : Job) (from count : ℕ) (q : Trail) → IsRenewed job from count from q ⊎ (IsRenewed job from count from q → ⊥)
decide_renewed job from count q = go (cases_trail q (prefix job 0 from)) (decide_begun job from count q)
  where
    neither : (q ≢ prefix job 0 from) → (IsBegun job from count q → ⊥) → IsRenewed job from count from q → ⊥
    neither a b (is_cover e) = a e
    neither a b (is_begun n) = b n
    neither a b (is_proper_prefix k low high e) = absurd (omega (arith, low, high))

    go : (q ≡ prefix job 0 from) ⊎ (q ≢ prefix job 0 from) → IsBegun job from count q ⊎ (IsBegun job from count q → ⊥) → IsRenewed job from count from q ⊎ (IsRenewed job from count from q → ⊥)
    go (inl e) b = inl (is_cover e)
    go (inr n) (inl b) = inl (is_begun b)
    go (inr n) (inr m) = inr (neither n m)

-- the pointers turned are pointers
pub renewed_pointer : (plan : Plan) (from : ℕ) → CanMake plan from → (q : Trail) → IsRenewed plan.job from (ways plan.job) from q → IsTreePointer plan.old plan.bound q
renewed_pointer plan from can q (is_cover e) = subst (IsTreePointer plan.old plan.bound) (sym e) (can.pointers 0 from can.some (can.below 0 can.some))
renewed_pointer plan from can q (is_begun b) = subst (IsTreePointer plan.old plan.bound) (sym b.same) (can.pointers b.which b.depth b.early b.high)
renewed_pointer plan from can q (is_proper_prefix k low high e) = absurd (omega (arith, low, high))

-- all copies of the plan are made and its pointers turned, and the first words, as many, are given their values
abbrev IsDoneUpto : Plan → ℕ → ℕ → Image → (ℕ → Bool) → Type 0
IsDoneUpto plan from count now free =
    IsStage plan.old now (IsTreePointer plan.old plan.bound) (IsTreeWord plan.old plan.bound) (IsRenewed plan.job from (ways plan.job) from)
    (value_upto plan.job count) (laid_on plan.old plan.job) plan.in_snapshot free

-- all is as the plan says
abbrev pub IsDone : Plan → ℕ → Image → (ℕ → Bool) → Type 0
IsDone plan from now free = IsDoneUpto plan from plan.job.words now free

-- it is so once the last store is done
pub done_of : (plan : Plan) (from : ℕ) {middle last : Image} {free : ℕ → Bool} → IsMade plan from (ways plan.job) from middle free → seen plan middle ≡ last → IsDone plan from last free
done_of plan from {middle} {last} {free} made now =
    let words : ways plan.job - plan.job.leaves ≡ plan.job.words = omega arith in
    subst (λ n. IsDoneUpto plan from n last free) words (subst (λ (ws : Image). IsDoneUpto plan from (ways plan.job - plan.job.leaves) ws free) now made.stage)

module _ (plan : Plan) (from : ℕ) (now : Image) (free : ℕ → Bool) (can : CanMake plan from) (stage : IsDone plan from now free) where
  pub left_of : ((w : ℕ) → w ≢ plan.place → plan.free (w / 512) ≡ false → word now w ≡ word plan.old w) → IsLeft plan from free now
  left_of others = record {
    can = can;
    whole = stage.whole;
    intact = λ p slot live long low. slot_word-same plan.old now (block_on plan.old p) slot (λ present.
        others (512 * block_on plan.old p + slot)
        (λ e. apart-placed plan.old (IsTreePointer plan.old plan.bound) (prefix plan.job 0 from) (skeleton plan.old plan.bound can.forest can.whole) can.placed p slot live
        (omega (arith, long, length-trail_of (plan.job.way 0) from)) present low (e ∙ sym can.at))
        (let block : (512 * block_on plan.old p + slot) / 512 ≡ block_on plan.old p = omega (arith, low) in
        ap plan.free block ∙ can.exact.live _ (record { trail = p; pointer = live; named = refl; not_null = present })));
    used = λ b has. stage.taken b (inl has);
  }

  pub exact_of : (after : ℕ → Bool) → IsBack plan from (ways plan.job) from free after → IsExactSet now (IsTreePointer plan.old plan.bound) plan.in_snapshot after
  exact_of after back =
      exact-end stage (skeleton plan.old plan.bound can.forest can.whole) after (decide_renewed plan.job from (ways plan.job)) back.given back.still back.from
