-- The first copy, that of the cover's block.
use Rattle.std.proofs.Common.{◌≡◌, ℕ, ◌+◌, ◌*◌, ◌/◌, ◌-◌, ◌<◌, ◌≤◌, length, Bool, refl, sym, ◌∙◌, ap, subst, arith}
use Rattle.bp_layout.specs.Words.{Image, word, block_count, block_of, slot_word}
use Rattle.bp_changes.specs.Trail.{Trail, word_on, block_on, IsSkeleton}
use Rattle.bp_layout.specs.Stores.{EqualBut}
use Rattle.bp_changes.specs.Forest.{IsTreePointer}
use Rattle.bp_changes.proofs.ForestLaws.{pointers, skeleton}
use Rattle.bp_changes.proofs.PathTrails.{word-placed, low-placed}
use Rattle.bp_cow.specs.Counting.{IsTreeWord}
use Rattle.bp_cow.specs.Adds.{IsTakenWord}
use Rattle.bp_free.specs.Set.{TakesNumber}
use Rattle.bp_cow.specs.Job.{prefix, value_upto, laid_on, patch_at}
use Rattle.bp_cow.specs.Plan.{Plan, IsMade, CanMake}
use Rattle.bp_cow.proofs.BuildingLaws.{building_start}
use Rattle.bp_cow.proofs.BuildFacts.{building_same, renewed_start, renewed_start_back}
use Rattle.bp_cow.proofs.LayLaws.{lay_plain, lay_laid}

-- Before the first copy: the words and the free blocks are those of the plan, and so is the place of the cover's word.
pub record Starts (plan : Plan) (from : ℕ) (now : Image) (free : ℕ → Bool) (place : ℕ) : Type 0 where
  pub can : CanMake plan from
  pub same : plan.old ≡ now
  pub free_is : plan.free ≡ free
  pub at : place ≡ plan.place

module _ {plan : Plan} {from : ℕ} {now : Image} {free : ℕ → Bool} {place : ℕ} (starts : Starts plan from now free place) where
  abbrev Pointer : Trail → Type 0
  Pointer = IsTreePointer plan.old plan.bound

  abbrev cover : Trail
  cover = prefix plan.job 0 from

  bones : IsSkeleton plan.old Pointer
  bones = skeleton plan.old plan.bound starts.can.forest starts.can.whole

  below : from ≤ length (plan.job.way 0)
  below = starts.can.below 0 starts.can.some

  pointed : Pointer cover
  pointed = starts.can.pointers 0 from starts.can.some below

  pub start_low : place < length now
  start_low =
      let low = low-placed plan.old Pointer cover bones starts.can.some_blocks starts.can.placed in
      rw starts.at (subst (λ (ws : Image). plan.place < length ws) starts.same (subst (λ x. x < length plan.old) starts.can.at low))

  cover_word : word plan.old plan.place ≡ word_on plan.old cover
  cover_word = subst (λ x. word plan.old x ≡ word_on plan.old cover) starts.can.at (word-placed plan.old Pointer cover starts.can.placed)

  pub start_word : word now place ≡ word plan.old plan.place
  start_word = ap (λ (ws : Image). word ws place) (sym starts.same) ∙ ap (word plan.old) starts.at

  -- the block to which the cover's word leads
  pub start_block : block_of (word now place) ≡ block_on plan.old cover
  start_block = ap block_of (start_word ∙ cover_word)

  pub start_from : 512 * block_of (word now place) + 512 ≤ length now
  start_from =
      let range : block_on plan.old cover < block_count plan.old = bones.in_range cover pointed in
      let inside : 512 * block_on plan.old cover + 512 ≤ length plan.old = omega (arith, range, starts.can.whole) in
      rw start_block (subst (λ (ws : Image). 512 * block_on plan.old cover + 512 ≤ length ws) starts.same inside)

  module _ {copy : ℕ} {free_after : ℕ → Bool} (takes : TakesNumber free free_after copy) where
    taken : TakesNumber plan.free free_after copy
    taken = subst (λ (f : ℕ → Bool). TakesNumber f free_after copy) (sym starts.free_is) takes

    pub start_to : (0 < copy) × (512 * copy + 512 ≤ length now)
    start_to =
        let range = starts.can.exact.in_range copy taken.was in
        (range.0, subst (λ (ws : Image). 512 * copy + 512 ≤ length ws) starts.same (omega (arith, range.1, starts.can.whole)))

    pub start_taken : (w : ℕ) → w / 512 ≡ copy → IsTakenWord plan.free free_after w
    start_taken w e = record { block = copy; inside = e; was = taken.was; gone = taken.gone }

    pub start_made : {mid : Image} → EqualBut copy now mid →
        ((slot : ℕ) → slot < 512 → slot < plan.job.live 0 from → slot_word mid copy slot ≡ patch_at plan.job 0 from slot (slot_word now (block_of (word now place)) slot)) →
        IsMade (record plan { top = copy }) from 0 from mid free_after
    start_made {mid} equal copied =
        let old_copied : (slot : ℕ) → slot < 512 → slot < plan.job.live 0 from → slot_word mid copy slot ≡ patch_at plan.job 0 from slot (slot_word plan.old (block_on plan.old cover) slot) =
        λ slot low counted. copied slot low counted ∙ ap (λ b. patch_at plan.job 0 from slot (slot_word now b slot)) start_block
        ∙ ap (λ (ws : Image). patch_at plan.job 0 from slot (slot_word ws (block_on plan.old cover) slot)) (sym starts.same) in
        let begun = building_start (IsTreeWord plan.old plan.bound) plan.old mid cover Pointer (pointers plan.old plan.bound starts.can.forest) (value_upto plan.job 0) (laid_on plan.old plan.job) plan.free free_after copy
        (patch_at plan.job 0 from) (plan.job.live 0 from)
        (λ s few any. starts.can.live 0 from s starts.can.some below few any)
        (λ s w l. lay_plain plan from 0 from starts.can starts.can.some (omega arith) below s w l)
        (λ s few. lay_laid plan from 0 from starts.can starts.can.some (omega arith) below (λ b. absurd (omega (arith, b.early))) s)
        starts.can.some_blocks bones starts.can.exact (λ p. refl) pointed starts.can.placed taken (subst (λ (ws : Image). EqualBut copy ws mid) (sym starts.same) equal) old_copied in
        let none : 0 - plan.job.leaves ≡ 0 = omega arith in
        building_same (renewed_start plan.job from 0) (renewed_start_back plan.job from 0) (rw (none, cover_word, sym starts.can.at) begun)
