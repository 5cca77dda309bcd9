-- The plan for the copies of a commit, its conditions, and the state after each step.
use Rattle.std.specs.Prelude.{◌≡◌, ◌⊎◌, ℕ, ◌+◌, ◌*◌, ◌-◌, ◌<◌, ◌≤◌, ◌∷◌, length, slice_index, slice_set, Bool}
use Rattle.pm_region.specs.Memory.{Memory, current_words}
use Rattle.bp_limits.specs.Limits.{block_words}
use Rattle.bp_free.specs.Set.{Set, has, members}
use Rattle.bp_layout.specs.Words.{Image, word, block_count}
use Rattle.bp_changes.specs.Trail.{block_on, place_on, IsPlaced}
use Rattle.bp_changes.specs.Forest.{IsExactSet, IsForest, IsTreePointer}
use Rattle.bp_cow.specs.Copies.{pointing_to}
use Rattle.bp_cow.specs.Counting.{IsTreeWord}
use Rattle.bp_cow.specs.Job.{Job, ways, prefix, end_of, word_trail, IsRenewed, value_upto, laid_on, turned_for, turned_upto}
use Rattle.bp_cow.specs.Stage.{IsBuilding}
use Rattle.bp_cow.specs.Touched.{job_of}
use Rattle.bp_cow.specs.declared.touched.Touched.{Touched}

-- The condition of a plan. `bound`: the sizes of the trees that count; `from`: the number of slots of the cover;
-- `place`: the place of its word.
pub record IsFeasible (old : Image) (bound : ℕ → ℕ) (job : Job) (from place : ℕ) (in_snapshot free : ℕ → Bool) : Type 0 where
  pub some : 0 < ways job
  pub some_blocks : 0 < block_count old
  pub whole : length old ≡ block_words * block_count old
  pub forest : IsForest old bound
  pub exact : IsExactSet old (IsTreePointer old bound) in_snapshot free
  -- each way begins with the cover, and each of its prefixes is a pointer
  pub below : (i : ℕ) → i < ways job → from ≤ length (job.way i)
  pub short : (i : ℕ) → i < ways job → length (job.way i) ≤ 11
  pub cover : (i : ℕ) → i < ways job → prefix job i from ≡ prefix job 0 from
  pub pointers : (i d : ℕ) → i < ways job → d ≤ length (job.way i) → IsTreePointer old bound (prefix job i d)
  pub slots : (i d : ℕ) → i < ways job → d < length (job.way i) → slice_index (job.way i) d < block_words
  -- the words are no pointers, and the leaves of the runs have no pointers
  pub word_slots : (i : ℕ) → i < job.words → job.slot i < block_words
  pub contents : (i : ℕ) → i < job.words → IsTreePointer old bound (word_trail job i) → ⊥
  pub bare : (j slot : ℕ) → j < job.leaves → IsTreePointer old bound (slot ∷ end_of job j) → ⊥
  -- all ways to one leaf have the same change for it
  pub agree : (j l : ℕ) → j < job.leaves → l < job.leaves → end_of job j ≡ end_of job l
      → (slot old_word : ℕ) → job.patch j slot old_word ≡ job.patch l slot old_word
  -- the counted words of a block on a way include the pointers and the content words of trees
  pub live : (i d slot : ℕ) → i < ways job → d ≤ length (job.way i) → slot < block_words
      → IsTreePointer old bound (slot ∷ prefix job i d) ⊎ IsTreeWord old bound (slot ∷ prefix job i d)
      → slot < job.live i d
  -- the cover exists
  pub placed : IsPlaced old (IsTreePointer old bound) (prefix job 0 from)
  pub at : place_on old (prefix job 0 from) ≡ place

-- a plan: the image before, the sizes of its trees that count, the blocks of the snapshot, the free blocks before, the
-- task, the place of the cover, and the copy of the cover's block
pub record Plan : Type 0 where
  pub old : Image
  pub bound : ℕ → ℕ
  pub in_snapshot : ℕ → Bool
  pub free : ℕ → Bool
  pub job : Job
  pub place : ℕ
  pub top : ℕ
  -- the free blocks after the last store
  pub free_after : ℕ → Bool

-- the plan for these touched words
abbrev pub planned : Plan → Touched → Plan
planned plan touched = record plan { job = job_of touched }

-- the image as it would be after the last store
abbrev pub seen : Plan → Image → Image
seen plan now = slice_set now plan.place (pointing_to (word plan.old plan.place) plan.top)

-- the first `i` ways are done, and way `i` up to a depth
abbrev pub IsMade : Plan → ℕ → ℕ → ℕ → Image → (ℕ → Bool) → Type 0
IsMade plan from i depth now free =
    IsBuilding plan.old now plan.place (pointing_to (word plan.old plan.place) plan.top) (prefix plan.job 0 from)
    (IsTreePointer plan.old plan.bound) (IsTreeWord plan.old plan.bound) (IsRenewed plan.job from i depth)
    (value_upto plan.job (i - plan.job.leaves)) (laid_on plan.old plan.job) plan.in_snapshot free

abbrev pub CanMake : Plan → ℕ → Type 0
CanMake plan from = IsFeasible plan.old plan.bound plan.job from plan.place plan.in_snapshot plan.free

-- the block at a depth of a way
abbrev pub reached : Plan → ℕ → ℕ → Image → ℕ
reached plan i depth now = block_on (seen plan now) (prefix plan.job i depth)

-- the first `i` ways are done, and way `i` up to a depth, for a memory and a set of free blocks
abbrev pub MadeIn : Plan → Touched → ℕ → ℕ → ℕ → Memory → Set → Type 0
MadeIn plan touched from i depth memory blocks =
    IsMade (planned plan touched) from i depth (current_words memory) (has blocks)

abbrev pub reached_in : Plan → Touched → ℕ → ℕ → Memory → ℕ
reached_in plan touched i depth memory = reached (planned plan touched) i depth (current_words memory)

-- the number of slots of a way; `way_turns`: the number of pointers that are set for it; `all_turns`: for all ways
abbrev pub way_end : Touched → ℕ → ℕ
way_end touched i = length ((job_of touched).way i)

abbrev pub way_turns : Touched → ℕ → ℕ → ℕ
way_turns touched from i = turned_for (job_of touched) from i (way_end touched i)

-- 1 if a way leads to a word that gets a value; else 0
abbrev pub way_words : Touched → ℕ → ℕ
way_words touched i = i + 1 - (job_of touched).leaves - (i - (job_of touched).leaves)

abbrev pub all_turns : Touched → ℕ → ℕ
all_turns touched from = turned_upto (job_of touched) from (ways (job_of touched))

-- the number of stores that set `count` pointers: the words of each copy, and the pointer to it
abbrev pub turn_stores : ℕ → ℕ
turn_stores count = (block_words + 1) * count

-- the way exists, and the depth lies between the cover and the way's end
pub record IsOnWay (plan : Plan) (from i depth : ℕ) : Type 0 where
  pub can : CanMake plan from
  pub here : i < ways plan.job
  pub low : from ≤ depth
  pub high : depth ≤ length (plan.job.way i)

-- Way `i` can be copied from the cover's copy `top` down: the ways before it are done, and a block is free for each
-- pointer that is set for it.
pub record CanGo (plan : Plan) (touched : Touched) (from i top : ℕ) (blocks : Set) (memory : Memory) : Type 0 where
  pub way : IsOnWay (planned plan touched) from i from
  pub copy : top ≡ plan.top
  pub made : MadeIn plan touched from i from memory blocks
  pub some : way_turns touched from i ≤ length (members blocks)
