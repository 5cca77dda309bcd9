-- One block further on the way to a word.
use Rattle.std.proofs.Common.{◌≡◌, ◌≢◌, ◌⊎◌, ℕ, ◌+◌, ◌*◌, ◌/◌, ◌-◌, ◌<◌, ◌≤◌, set, ◌∷◌, length, Bool, true, false, Some, refl, sym, ◌∙◌, ap, subst, arith, inl, inr}
use Rattle.std.specs.List.{slice_index}
use Rattle.std.proofs.lemmas.Bool.{cases_eq}
use Rattle.bp_layout.specs.Words.{Image, word, block_count, block_of}
use Rattle.bp_changes.specs.Trail.{Trail, word_on, block_on, ArePointers}
use Rattle.bp_changes.specs.Forest.{IsTreePointer}
use Rattle.bp_changes.proofs.ForestLaws.{pointers}
use Rattle.bp_changes.proofs.PathTrails.{trail_of-next}
use Rattle.bp_free.specs.Set.{Set, TakesNumber, has}
use Rattle.pm_region.specs.Memory.{Memory, current_words}
use Rattle.bp_cow.specs.Counting.{IsTreeWord}
use Rattle.bp_cow.specs.Copies.{TurnsTo, pointing_to}
use Rattle.bp_cow.specs.Job.{prefix, end_of, word_trail, value_upto, laid_on, patch_at, IsBegun, IsRenewed}
use Rattle.bp_cow.specs.Job.IsRenewed.{is_cover, is_begun, is_proper_prefix}
use Rattle.bp_cow.specs.Adds.{IsTakenWord}
use Rattle.bp_cow.specs.Stage.{IsBuilding}
use Rattle.bp_cow.specs.Plan.{Plan, planned, seen, IsMade, IsOnWay, reached}
use Rattle.bp_cow.specs.declared.touched.Touched.{Touched}
use Rattle.bp_cow.proofs.BuildingLaws.{building_turn, building_block, building_store}
use Rattle.bp_cow.proofs.BuildFacts.{top, building_same, at_low, at_used, from_is, from_low, free_in_image, renewed_more, renewed_more_back, not_renewed, renewed_next, renewed_next_back, value-here, value-other}
use Rattle.bp_cow.proofs.LayLaws.{lay_plain, lay_laid}

-- On a way, at a depth: what is made up to there, and the block that is reached.
pub record HasReached (plan : Plan) (from i depth : ℕ) (now : Image) (free : ℕ → Bool) (block : ℕ) : Type 0 where
  pub on : IsOnWay plan from i depth
  pub made : IsMade plan from i depth now free
  pub block_is : block ≡ reached plan i depth now

-- the same by touched words, a memory and the set of free blocks
abbrev pub HasReachedIn : Plan → Touched → ℕ → ℕ → ℕ → Memory → Set → ℕ → Type 0
HasReachedIn plan touched from i depth memory blocks block =
    HasReached (planned plan touched) from i depth (current_words memory) (has blocks) block

-- The way goes on from this depth, by this slot.
pub record GoesOn (plan : Plan) (i depth slot : ℕ) : Type 0 where
  pub more : depth < length (plan.job.way i)
  pub slot_is : slot ≡ slice_index (plan.job.way i) depth

module _ {plan : Plan} {from i depth : ℕ} {now : Image} {free : ℕ → Bool} {block : ℕ} (at : HasReached plan from i depth now free block) where
  abbrev Pointer : Trail → Type 0
  Pointer = IsTreePointer plan.old plan.bound

  are : ArePointers Pointer
  are = pointers plan.old plan.bound at.on.can.forest

  abbrev way : Trail
  way = prefix plan.job i depth

  live : Pointer way
  live = at.on.can.pointers i depth at.on.here at.on.high

  renewed_here : IsRenewed plan.job from i depth way
  renewed_here = go (cases_eq depth from)
    where
      go : (depth ≡ from) ⊎ (depth ≡ from → ⊥) → IsRenewed plan.job from i depth way
      go (inl e) = is_cover (ap (prefix plan.job i) e ∙ at.on.can.cover i at.on.here)
      go (inr deep) = is_proper_prefix depth (omega (arith, at.on.low, deep)) (omega arith) refl

  -- a block that is fresh, or free now, was free at the start
  fresh_free : (p : Trail) → Pointer p → IsRenewed plan.job from i depth p → plan.free (block_on (seen plan now) p) ≡ true
  fresh_free p live new =
      let stage = at.made.stage in
      let fresh = stage.fresh p live new in
      let some : block_on (seen plan now) p ≢ 0 = fresh.0 in
      let low : block_on (seen plan now) p < block_count (seen plan now) = stage.skeleton.in_range p live in
      let count : block_count (seen plan now) ≡ block_count plan.old = ap (λ n. n / 512) stage.whole in
      at.on.can.exact.dead _ (omega (arith, some)) (rw count at low) fresh.1 (stage.outside_snapshot p live new)

  still_free : (b : ℕ) → free b ≡ true → plan.free b ≡ true
  still_free b is =
      let stage = at.made.stage in
      let range = stage.in_range b is in
      at.on.can.exact.dead b range.0 range.1 (λ has. let full : free b ≡ false = stage.taken b (inl has) in absurd (cc)) (stage.loose b is)

  -- the block that is reached is not null
  pub some_block : 1 ≤ block
  some_block =
      let fresh = at.made.stage.fresh way live renewed_here in
      let some : block ≢ 0 = rw at.block_is fresh.0 in
      omega (arith, some)

  pub free_inside : (b : ℕ) → free b ≡ true → (1 ≤ b) × (512 * b + 512 ≤ length now)
  free_inside b is = free_in_image are at.made b is

  module _ (slot : ℕ) (slot_low : slot < 512) where
    pub place_low : 512 * block + slot < length now
    place_low = rw at.block_is (at_low are at.made way slot live renewed_here slot_low)

    place_used : free ((512 * block + slot) / 512) ≡ false
    place_used = rw at.block_is (at_used are at.made way slot live renewed_here slot_low)

    pub place_taken : IsTakenWord plan.free free (512 * block + slot)
    place_taken =
        let here : (512 * block + slot) / 512 ≡ block = omega (arith, slot_low) in
        record { block = (512 * block + slot) / 512; inside = refl; was = ap plan.free (here ∙ at.block_is) ∙ fresh_free way live renewed_here; gone = place_used }

  module _ {slot : ℕ} (on : GoesOn plan i depth slot) where
    slot_low : slot < 512
    slot_low = rw on.slot_is (at.on.can.slots i depth at.on.here on.more)

    pub next_low : 512 * block + slot < length now
    next_low = place_low slot slot_low

    next_is : prefix plan.job i (depth + 1) ≡ slot ∷ way
    next_is = trail_of-next (plan.job.way i) depth ∙ ap (λ s. s ∷ way) (sym on.slot_is)

    pointed : Pointer (slot ∷ way)
    pointed = subst Pointer next_is (at.on.can.pointers i (depth + 1) at.on.here (omega (arith, on.more)))

    pub loaded : block_of (word now (512 * block + slot)) ≡ reached plan i (depth + 1) now
    loaded = rw at.block_is (from_is are at.made way slot live renewed_here slot_low) ∙ ap (block_on (seen plan now)) (sym next_is)

    pub loaded_low : 512 * block_of (word now (512 * block + slot)) + 512 ≤ length now
    loaded_low = rw at.block_is (from_low are at.made way slot live renewed_here slot_low pointed)

    module _ {after : Image} {copy : ℕ} {free_after : ℕ → Bool} (none : IsBegun plan.job from i (prefix plan.job i (depth + 1)) → ⊥)
        (turned : TurnsTo (patch_at plan.job i (depth + 1)) (plan.job.live i (depth + 1)) now after (512 * block + slot) copy) (takes : TakesNumber free free_after copy) where
      first : IsRenewed plan.job from i depth (slot ∷ way) → ⊥
      first n = not_renewed plan.job from i depth at.on.low none (subst (IsRenewed plan.job from i depth) (sym next_is) n)

      counts : (s : ℕ) → s < 512 → Pointer (s ∷ slot ∷ way) ⊎ IsTreeWord plan.old plan.bound (s ∷ slot ∷ way) → s < plan.job.live i (depth + 1)
      counts s few any =
          at.on.can.live i (depth + 1) s at.on.here (omega (arith, on.more)) few
          (subst (λ (q : Trail). IsTreePointer plan.old plan.bound (s ∷ q) ⊎ IsTreeWord plan.old plan.bound (s ∷ q)) (sym next_is) any)

      plain : (s w : ℕ) → Pointer (s ∷ slot ∷ way) → patch_at plan.job i (depth + 1) s w ≡ w
      plain s w l =
          lay_plain plan from i (depth + 1) at.on.can at.on.here (omega (arith, at.on.low)) (omega (arith, on.more)) s w
          (subst (λ (q : Trail). Pointer (s ∷ q)) (sym next_is) l)

      lays : (s : ℕ) → s < 512 → patch_at plan.job i (depth + 1) s (word_on plan.old (s ∷ slot ∷ way)) ≡ laid_on plan.old plan.job (s ∷ slot ∷ way)
      lays s few =
          subst (λ (q : Trail). patch_at plan.job i (depth + 1) s (word_on plan.old (s ∷ q)) ≡ laid_on plan.old plan.job (s ∷ q)) next_is
          (lay_laid plan from i (depth + 1) at.on.can at.on.here (omega (arith, at.on.low)) (omega (arith, on.more)) none s)

      turned_there : TurnsTo (patch_at plan.job i (depth + 1)) (plan.job.live i (depth + 1)) now after (512 * reached plan i depth now + slot) copy
      turned_there = rw at.block_is at turned

      pub made_copy : IsMade plan from i (depth + 1) after free_after
      made_copy =
          building_same (λ q n. renewed_more plan.job from i depth q (to q n) at.on.low) (λ q n. back q (renewed_more_back plan.job from i depth q n))
          (building_turn are at.made way slot live renewed_here slot_low pointed first counts plain lays turned_there takes)
        where
          to : (q : Trail) → IsRenewed plan.job from i depth q ⊎ (q ≡ slot ∷ way) → IsRenewed plan.job from i depth q ⊎ (q ≡ prefix plan.job i (depth + 1))
          to q (inl n) = inl n
          to q (inr e) = inr (e ∙ sym next_is)

          back : (q : Trail) → IsRenewed plan.job from i depth q ⊎ (q ≡ prefix plan.job i (depth + 1)) → IsRenewed plan.job from i depth q ⊎ (q ≡ slot ∷ way)
          back q (inl n) = inl n
          back q (inr e) = inr (e ∙ next_is)

      pub copy_reached : copy ≡ reached plan i (depth + 1) after
      copy_reached =
          sym (building_block are at.made way slot live renewed_here slot_low pointed first counts plain lays turned_there takes)
          ∙ ap (block_on (seen plan after)) (sym next_is)

      pub stored_taken : (place : ℕ) → (place / 512 ≡ copy) ⊎ (place ≡ 512 * block + slot) → IsTakenWord plan.free free_after place
      stored_taken place (inl e) = record { block = copy; inside = e; was = still_free copy takes.was; gone = takes.gone }
      stored_taken place (inr e) =
          let one = place_taken slot slot_low in
          rw e (record { block = (512 * block + slot) / 512; inside = refl; was = ap plan.free one.inside ∙ one.was; gone = other (cases_eq ((512 * block + slot) / 512) copy) })
        where
          other : ((512 * block + slot) / 512 ≡ copy) ⊎ ((512 * block + slot) / 512 ≡ copy → ⊥) → free_after ((512 * block + slot) / 512) ≡ false
          other (inl same) = ap free_after same ∙ takes.gone
          other (inr n) = takes.others _ n ∙ place_used slot slot_low

module _ {plan : Plan} {from i depth : ℕ} {now : Image} {free : ℕ → Bool} (on : IsOnWay plan from i depth) (made : IsMade plan from i depth now free) where
  -- an earlier way has had the next block copied
  pub made_before : IsBegun plan.job from i (prefix plan.job i (depth + 1)) → IsMade plan from i (depth + 1) now free
  made_before begun = building_same (λ q n. renewed_more plan.job from i depth q (inl n) on.low) (λ q n. back q (renewed_more_back plan.job from i depth q n)) made
    where
      back : (q : Trail) → IsRenewed plan.job from i depth q ⊎ (q ≡ prefix plan.job i (depth + 1)) → IsRenewed plan.job from i depth q
      back q (inl n) = n
      back q (inr e) = is_begun (subst (IsBegun plan.job from i) (sym e) begun)

  -- the way begins at the cover's copy
  pub top_reached : plan.top ≡ reached plan i from now
  top_reached =
      let leads : block_of (pointing_to (word plan.old plan.place) plan.top) ≡ plan.top = omega arith in
      sym leads ∙ ap block_of (sym (top (pointers plan.old plan.bound on.can.forest) made)) ∙ ap (block_on (seen plan now)) (sym (on.can.cover i on.here))

-- ---- a way is done

-- the end of a way that can be gone from the cover's copy down
pub whole_length : {plan : Plan} {from i : ℕ} → IsOnWay plan from i from → IsOnWay plan from i (length (plan.job.way i))
whole_length way = record { can = way.can; here = way.here; low = way.high; high = omega arith }

-- what is made by the plan where these pointers lead to copies, and the first words, as many, are given their values
abbrev IsMadeOf : Plan → ℕ → (Trail → Type 0) → ℕ → Image → (ℕ → Bool) → Type 0
IsMadeOf plan from renewed count now free =
    IsBuilding plan.old now plan.place (pointing_to (word plan.old plan.place) plan.top) (prefix plan.job 0 from)
    (IsTreePointer plan.old plan.bound) (IsTreeWord plan.old plan.bound) renewed (value_upto plan.job count) (laid_on plan.old plan.job) plan.in_snapshot free

-- its pointers are now among those of the first ways
whole_way : {plan : Plan} {from i depth : ℕ} {free : ℕ → Bool} → IsOnWay plan from i depth → depth ≡ length (plan.job.way i) → (words : Image) (count : ℕ) →
    IsMadeOf plan from (IsRenewed plan.job from i depth) count words free → IsMadeOf plan from (IsRenewed plan.job from (i + 1) from) count words free
whole_way {plan} {from} {i} {depth} on last words count made =
    let cover = on.can.cover i on.here in
    building_same (λ q n. renewed_next plan.job from i depth last on.low cover q n) (λ q n. renewed_next_back plan.job from i depth last on.low cover q n) made

module _ {plan : Plan} {from i depth : ℕ} {now : Image} {free : ℕ → Bool} (on : IsOnWay plan from i depth) (last : depth ≡ length (plan.job.way i)) where
  pub made_leaf : IsMade plan from i depth now free → i < plan.job.leaves → IsMade plan from (i + 1) from now free
  made_leaf made leaf =
      let same : i - plan.job.leaves ≡ (i + 1) - plan.job.leaves = omega (arith, leaf) in
      subst (λ n. IsMadeOf plan from (IsRenewed plan.job from (i + 1) from) n now free) same (whole_way on last now (i - plan.job.leaves) made)

  -- and the word at its end is given its value
  pub made_word : {block : ℕ} → HasReached plan from i depth now free block → (w : ℕ) → plan.job.leaves + w ≡ i →
      IsMade plan from (i + 1) from (set now (512 * block + plan.job.slot w) (plan.job.value w)) free
  made_word {block} at w is =
      let few : w < plan.job.words = omega (arith, on.here, is) in
      let before_it : i - plan.job.leaves ≡ w = omega (arith, is) in
      let with_it : w + 1 ≡ (i + 1) - plan.job.leaves = omega (arith, is) in
      let end : word_trail plan.job w ≡ plan.job.slot w ∷ way at = ap (λ k. plan.job.slot w ∷ end_of plan.job k) is ∙ ap (λ d. plan.job.slot w ∷ prefix plan.job i d) (sym last) in
      let stored = set now (512 * reached plan i depth now + plan.job.slot w) (plan.job.value w) in
      let before : IsMadeOf plan from (IsRenewed plan.job from i depth) w now free = subst (λ n. IsMadeOf plan from (IsRenewed plan.job from i depth) n now free) before_it at.made in
      let after : IsMadeOf plan from (IsRenewed plan.job from i depth) (w + 1) stored free =
      building_store (are at) before (way at) (plan.job.slot w) (live at) (renewed_here at) (on.can.word_slots w few) (plan.job.value w) (value_upto plan.job (w + 1))
      (λ p. on.can.contents w few (subst (Pointer at) (sym end) p))
      (subst (λ (q : Trail). value_upto plan.job (w + 1) q ≡ Some (plan.job.value w)) end (value-here plan.job w))
      (λ q other. value-other plan.job w q (λ e. other (e ∙ end))) in
      rw at.block_is (subst (λ n. IsMadeOf plan from (IsRenewed plan.job from (i + 1) from) n stored free) with_it (whole_way on last stored (w + 1) after))
