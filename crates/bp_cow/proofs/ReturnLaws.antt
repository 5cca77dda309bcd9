-- The blocks that a commit left are given back, one after the other.
use Rattle.bp_free.specs.Set.{TakesNumber}
use Rattle.std.proofs.Common.{◌≡◌, ◌≢◌, ◌⊎◌, ℕ, ◌+◌, ◌*◌, ◌/◌, ◌<◌, ◌≤◌, length, Bool, true, false, refl, sym, ◌∙◌, ap, subst, arith, inl, inr}
use Rattle.std.specs.List.{slice_index}
use Rattle.std.proofs.lemmas.Bool.{cases_eq}
use Rattle.bp_layout.specs.Words.{Image, block_count, slot_word}
use Rattle.bp_changes.specs.Trail.{Trail, block_on, IsSkeleton, LeadsTo}
use Rattle.bp_changes.specs.Forest.{IsTreePointer}
use Rattle.bp_changes.proofs.ForestLaws.{skeleton}
use Rattle.bp_changes.proofs.TrailLaws.{word_on-slot}
use Rattle.bp_changes.proofs.PathTrails.{trail_of-next, length-trail_of}
use Rattle.bp_cow.specs.Job.{ways, prefix, IsBegun, IsRenewed}
use Rattle.bp_cow.specs.Job.IsRenewed.{is_begun}
use Rattle.bp_cow.specs.Plan.{Plan, IsOnWay}
use Rattle.bp_cow.specs.Return.{IsGiven, IsReturned, IsLeft, IsBack}
use Rattle.bp_cow.proofs.BuildFacts.{renewed_start, renewed_start_back, renewed_next, renewed_next_back, renewed_more, renewed_more_back, not_renewed}

returned_same : {old : Image} {Pointer renewed other : Trail → Type 0} {in_snapshot before after : ℕ → Bool} → ((q : Trail) → renewed q → other q) → ((q : Trail) → Pointer q → other q → renewed q ⊎ (block_on old q ≡ 0)) →
    IsReturned old Pointer renewed in_snapshot before after → IsReturned old Pointer other in_snapshot before after
returned_same {old} {Pointer} {renewed} {other} {in_snapshot} {before} {after} to back returned = record {
  given = λ p live n some loose. given p live some loose (back p live n);
  still = returned.still;
  from = λ b is. from b (returned.from b is);
}
  where
    given : (p : Trail) → Pointer p → block_on old p ≢ 0 → in_snapshot (block_on old p) ≡ false → renewed p ⊎ (block_on old p ≡ 0) → after (block_on old p) ≡ true
    given p live some loose (inl n) = returned.given p live n some loose
    given p live some loose (inr null) = absurd (some null)

    from : (b : ℕ) → (before b ≡ true) ⊎ IsGiven old Pointer renewed in_snapshot b → (before b ≡ true) ⊎ IsGiven old Pointer other in_snapshot b
    from b (inl is) = inl is
    from b (inr one) = inr (one.0, one.1, to one.0 one.2, one.3, one.4, one.5)

module _ {old : Image} {Pointer renewed : Trail → Type 0} {in_snapshot before after : ℕ → Bool} (bones : IsSkeleton old Pointer) (used : (b : ℕ) → LeadsTo old Pointer b → before b ≡ false)
    (returned : IsReturned old Pointer renewed in_snapshot before after) (here : Trail) (live : Pointer here) (first : renewed here → ⊥) (some : block_on old here ≢ 0) where
  not_back : after (block_on old here) ≡ false
  not_back = go (after (block_on old here)) refl
    where
      again : (before (block_on old here) ≡ true) ⊎ IsGiven old Pointer renewed in_snapshot (block_on old here) → ⊥
      again (inl is) = let no_more : before (block_on old here) ≡ false = used _ (record { trail = here; pointer = live; named = refl; not_null = some }) in absurd (cc)
      again (inr one) = first (subst renewed (sym (bones.once here one.0 live one.1 some (sym one.3))) one.2)

      go : (x : Bool) → after (block_on old here) ≡ x → after (block_on old here) ≡ false
      go false e = e
      go true e = absurd (again (returned.from _ e))

  -- a block that is not in the snapshot
  given_loose : (next : ℕ → Bool) → in_snapshot (block_on old here) ≡ false → TakesNumber next after (block_on old here) → IsReturned old Pointer (λ q. renewed q ⊎ (q ≡ here)) in_snapshot before next
  given_loose next free takes = record {
    given = λ p l n full loose. given p l n full loose (cases_eq (block_on old p) (block_on old here));
    still = λ b is. more b (returned.still b is);
    from = λ b is. from b is (cases_eq b (block_on old here));
  }
    where
      more : (b : ℕ) → after b ≡ true → next b ≡ true
      more b is = go (cases_eq b (block_on old here))
        where
          go : (b ≡ block_on old here) ⊎ (b ≡ block_on old here → ⊥) → next b ≡ true
          go (inl e) = ap next e ∙ takes.was
          go (inr n) = sym (takes.others b n) ∙ is

      given : (p : Trail) → Pointer p → renewed p ⊎ (p ≡ here) → block_on old p ≢ 0 → in_snapshot (block_on old p) ≡ false → (block_on old p ≡ block_on old here) ⊎ (block_on old p ≡ block_on old here → ⊥) → next (block_on old p) ≡ true
      given p l n full loose (inl e) = ap next e ∙ takes.was
      given p l (inl n) full loose (inr other) = more _ (returned.given p l n full loose)
      given p l (inr e) full loose (inr other) = absurd (other (ap (block_on old) e))

      from : (b : ℕ) → next b ≡ true → (b ≡ block_on old here) ⊎ (b ≡ block_on old here → ⊥) → (before b ≡ true) ⊎ IsGiven old Pointer (λ q. renewed q ⊎ (q ≡ here)) in_snapshot b
      from b is (inl e) = inr (here, live, inr refl, sym e, λ null. some (sym e ∙ null), ap in_snapshot e ∙ free)
      from b is (inr n) = go (returned.from b (takes.others b n ∙ is))
        where
          go : (before b ≡ true) ⊎ IsGiven old Pointer renewed in_snapshot b → (before b ≡ true) ⊎ IsGiven old Pointer (λ q. renewed q ⊎ (q ≡ here)) in_snapshot b
          go (inl yes_before) = inl yes_before
          go (inr one) = inr (one.0, one.1, inl one.2, one.3, one.4, one.5)

  -- one that is in the snapshot stays where it is
  kept_back : in_snapshot (block_on old here) ≡ true → IsReturned old Pointer (λ q. renewed q ⊎ (q ≡ here)) in_snapshot before after
  kept_back is_in_snapshot = record {
    given = λ p l n full loose. given p l n full loose;
    still = returned.still;
    from = λ b is. from b (returned.from b is);
  }
    where
      given : (p : Trail) → Pointer p → renewed p ⊎ (p ≡ here) → block_on old p ≢ 0 → in_snapshot (block_on old p) ≡ false → after (block_on old p) ≡ true
      given p l (inl n) full loose = returned.given p l n full loose
      given p l (inr e) full loose = let offset : in_snapshot (block_on old here) ≡ false = subst (λ q. in_snapshot (block_on old q) ≡ false) e loose in absurd (cc)

      from : (b : ℕ) → (before b ≡ true) ⊎ IsGiven old Pointer renewed in_snapshot b → (before b ≡ true) ⊎ IsGiven old Pointer (λ q. renewed q ⊎ (q ≡ here)) in_snapshot b
      from b (inl is) = inl is
      from b (inr one) = inr (one.0, one.1, inl one.2, one.3, one.4, one.5)

  given_back : (next : ℕ → Bool) → (in_snapshot (block_on old here) ≡ false → TakesNumber next after (block_on old here)) → (in_snapshot (block_on old here) ≡ true → next ≡ after) →
      IsReturned old Pointer (λ q. renewed q ⊎ (q ≡ here)) in_snapshot before next
  given_back next takes stays = go (in_snapshot (block_on old here)) refl
    where
      go : (x : Bool) → in_snapshot (block_on old here) ≡ x → IsReturned old Pointer (λ q. renewed q ⊎ (q ≡ here)) in_snapshot before next
      go false free = given_loose next free (takes free)
      go true is = subst (λ (f : ℕ → Bool). IsReturned old Pointer (λ q. renewed q ⊎ (q ≡ here)) in_snapshot before f) (sym (stays is)) (kept_back is)

-- On the old way, at a depth before its end: how a commit left the words, and the block there.
pub record IsAtOld (plan : Plan) (from i depth : ℕ) (before : ℕ → Bool) (now : Image) (block : ℕ) : Type 0 where
  pub left : IsLeft plan from before now
  pub here : i < ways plan.job
  pub low : from ≤ depth
  pub more : depth < length (plan.job.way i)
  pub block_is : block ≡ block_on plan.old (prefix plan.job i depth)

-- the next block on a way
abbrev pub next_old : Plan → ℕ → ℕ → ℕ
next_old plan i depth = block_on plan.old (prefix plan.job i (depth + 1))

module _ {plan : Plan} {from i depth : ℕ} {before : ℕ → Bool} {now : Image} {block : ℕ} (at : IsAtOld plan from i depth before now block) where
  bones : IsSkeleton plan.old (IsTreePointer plan.old plan.bound)
  bones = skeleton plan.old plan.bound at.left.can.forest at.left.can.whole

  live : IsTreePointer plan.old plan.bound (prefix plan.job i depth)
  live = at.left.can.pointers i depth at.here (omega (arith, at.more))

  next_live : IsTreePointer plan.old plan.bound (prefix plan.job i (depth + 1))
  next_live = at.left.can.pointers i (depth + 1) at.here (omega (arith, at.more))

  pub old_slot : {slot : ℕ} → slot ≡ slice_index (plan.job.way i) depth → slot < 512
  old_slot slot_is = rw slot_is (at.left.can.slots i depth at.here at.more)

  pub old_low : 512 * block + 512 ≤ length now
  old_low = rw at.block_is (let range : block_on plan.old (prefix plan.job i depth) < block_count plan.old = bones.in_range _ live in omega (arith, range, at.left.can.whole, at.left.whole))

  pub old_next : {slot : ℕ} → slot ≡ slice_index (plan.job.way i) depth → slot_word now block slot / 4096 ≡ next_old plan i depth
  old_next slot_is =
      let slot_low : slice_index (plan.job.way i) depth < 512 = old_slot refl in
      let below : from ≤ length (prefix plan.job i depth) = omega (arith, at.low, length-trail_of (plan.job.way i) depth) in
      rw (slot_is, at.block_is) (ap (λ w. w / 4096) (at.left.intact (prefix plan.job i depth) (slice_index (plan.job.way i) depth) live below slot_low))
      ∙ ap (λ w. w / 4096) (sym (word_on-slot plan.old (slice_index (plan.job.way i) depth) (prefix plan.job i depth)))
      ∙ ap (block_on plan.old) (sym (trail_of-next (plan.job.way i) depth))

  pub old_next_low : next_old plan i depth < block_count plan.old
  old_next_low = bones.in_range _ next_live

  module _ {after : ℕ → Bool} (back : IsBack plan from i depth before after) where
    pub back_none : (next_old plan i depth ≡ 0) ⊎ IsBegun plan.job from i (prefix plan.job i (depth + 1)) → IsBack plan from i (depth + 1) before after
    back_none any = returned_same (λ q n. renewed_more plan.job from i depth q (inl n) at.low) (λ q l n. go q (renewed_more_back plan.job from i depth q n) any) back
      where
        go : (q : Trail) → IsRenewed plan.job from i depth q ⊎ (q ≡ prefix plan.job i (depth + 1)) → (next_old plan i depth ≡ 0) ⊎ IsBegun plan.job from i (prefix plan.job i (depth + 1)) →
            IsRenewed plan.job from i depth q ⊎ (block_on plan.old q ≡ 0)
        go q (inl n) a = inl n
        go q (inr e) (inl null) = inr (ap (block_on plan.old) e ∙ null)
        go q (inr e) (inr begun) = inl (is_begun (subst (IsBegun plan.job from i) (sym e) begun))

    module _ (none : IsBegun plan.job from i (prefix plan.job i (depth + 1)) → ⊥) (some : next_old plan i depth ≢ 0) where
      pub back_full : after (next_old plan i depth) ≡ false
      back_full = not_back bones at.left.used back (prefix plan.job i (depth + 1)) next_live (not_renewed plan.job from i depth at.low none) some

      pub back_one : {next : ℕ → Bool} → (plan.in_snapshot (next_old plan i depth) ≡ false → TakesNumber next after (next_old plan i depth)) → (plan.in_snapshot (next_old plan i depth) ≡ true → next ≡ after) →
          IsBack plan from i (depth + 1) before next
      back_one {next} takes stays =
          returned_same (λ q n. renewed_more plan.job from i depth q n at.low) (λ q l n. inl (renewed_more_back plan.job from i depth q n))
          (given_back bones at.left.used back (prefix plan.job i (depth + 1)) next_live (not_renewed plan.job from i depth at.low none) some next takes stays)

-- nothing is given back yet
returned_none : (old : Image) (Pointer : Trail → Type 0) (in_snapshot before : ℕ → Bool) → IsReturned old Pointer (λ q. ⊥) in_snapshot before before
returned_none old Pointer in_snapshot before = record { given = λ p live n some loose. absurd n; still = λ b is. is; from = λ b is. inl is }

-- the block to which the cover's pointer led
abbrev pub cover_block : Plan → ℕ → ℕ
cover_block plan from = block_on plan.old (prefix plan.job 0 from)

module _ {plan : Plan} {from : ℕ} {before : ℕ → Bool} {now : Image} (left : IsLeft plan from before now) where
  cover_live : IsTreePointer plan.old plan.bound (prefix plan.job 0 from)
  cover_live = left.can.pointers 0 from left.can.some (left.can.below 0 left.can.some)

  cover_bones : IsSkeleton plan.old (IsTreePointer plan.old plan.bound)
  cover_bones = skeleton plan.old plan.bound left.can.forest left.can.whole

  none_yet : IsReturned plan.old (IsTreePointer plan.old plan.bound) (λ q. ⊥) plan.in_snapshot before before
  none_yet = returned_none plan.old _ plan.in_snapshot before

  pub cover_low : cover_block plan from < block_count plan.old
  cover_low = cover_bones.in_range _ cover_live

  pub back_null : cover_block plan from ≡ 0 → IsBack plan from 0 from before before
  back_null null = returned_same (λ q n. absurd n) (λ q l n. go q (renewed_start_back plan.job from 0 q n)) none_yet
    where
      go : (q : Trail) → ⊥ ⊎ (q ≡ prefix plan.job 0 from) → ⊥ ⊎ (block_on plan.old q ≡ 0)
      go q (inl n) = inl n
      go q (inr e) = inr (ap (block_on plan.old) e ∙ null)

  pub back_cover : cover_block plan from ≢ 0 → {next : ℕ → Bool} → (plan.in_snapshot (cover_block plan from) ≡ false → TakesNumber next before (cover_block plan from)) →
      (plan.in_snapshot (cover_block plan from) ≡ true → next ≡ before) → IsBack plan from 0 from before next
  back_cover some {next} takes stays =
      returned_same (λ q n. renewed_start plan.job from 0 q n) (λ q l n. inl (renewed_start_back plan.job from 0 q n))
      (given_back cover_bones left.used none_yet (prefix plan.job 0 from) cover_live (λ n. n) some next takes stays)

  pub cover_used : cover_block plan from ≢ 0 → before (cover_block plan from) ≡ false
  cover_used some = left.used _ (record { trail = prefix plan.job 0 from; pointer = cover_live; named = refl; not_null = some })

-- a word is done
pub back_word : {plan : Plan} {from i last : ℕ} {before after : ℕ → Bool} → IsOnWay plan from i last → last ≡ length (plan.job.way i) → IsBack plan from i last before after → IsBack plan from (i + 1) from before after
back_word {plan} {from} {i} {last} on len back =
    let cover = on.can.cover i on.here in
    returned_same (renewed_next plan.job from i last len on.low cover) (λ q l n. inl (renewed_next_back plan.job from i last len on.low cover q n)) back
