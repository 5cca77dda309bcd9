-- The effect of each step of a plan: a number of blocks is taken for copies, and a bounded number of stores writes
-- them.
use Rattle.std.specs.Prelude.{ℕ, ◌+◌}
use Rattle.pm_region.specs.Memory.{Memory}
use Rattle.bp_limits.specs.Limits.{block_words}
use Rattle.bp_free.specs.Set.{Set}
use Rattle.bp_cow.specs.Adds.{MakesCopies}
use Rattle.bp_cow.specs.Job.{copies, turns_at}
use Rattle.bp_cow.specs.Plan.{Plan, all_turns, turn_stores, way_turns, way_words}
use Rattle.bp_cow.specs.Touched.{job_of}
use Rattle.bp_cow.specs.declared.touched.Touched.{Touched}

-- the step at a depth of a way: the copy there and the pointer to it, if no earlier way has made it
abbrev pub MakesStep : Plan → Touched → ℕ → ℕ → ℕ → Set → Set → Memory → Memory → Type 0
MakesStep plan touched from i depth before after old new =
    MakesCopies plan.free (turns_at (job_of touched) from i depth) (turn_stores (turns_at (job_of touched) from i depth))
    before after old new

-- the copies and the pointers of a way
abbrev pub MakesWay : Plan → Touched → ℕ → ℕ → Set → Set → Memory → Memory → Type 0
MakesWay plan touched from i before after old new =
    MakesCopies plan.free (way_turns touched from i) (turn_stores (way_turns touched from i)) before after old new

-- the copies and the pointers of a way, and the word at its end if it is the way to a word
abbrev pub MakesWayAndWord : Plan → Touched → ℕ → ℕ → Set → Set → Memory → Memory → Type 0
MakesWayAndWord plan touched from i before after old new =
    MakesCopies plan.free (way_turns touched from i) (turn_stores (way_turns touched from i) + way_words touched i)
    before after old new

-- the copies of all ways, without that of the cover
abbrev pub MakesBelow : Plan → Touched → ℕ → Set → Set → Memory → Memory → Type 0
MakesBelow plan touched from before after old new =
    MakesCopies plan.free (all_turns touched from) (turn_stores (all_turns touched from) + (job_of touched).words)
    before after old new

-- the copies of all ways, with that of the cover
abbrev pub MakesAll : Plan → Touched → ℕ → Set → Set → Memory → Memory → Type 0
MakesAll plan touched from before after old new =
    MakesCopies plan.free (copies (job_of touched) from)
    (block_words + (turn_stores (all_turns touched from) + (job_of touched).words)) before after old new
