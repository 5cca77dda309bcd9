-- A way as code represents it, and how many of its slots it shares with earlier ways.
use Rattle.std.specs.Prelude.{◌≡◌, ℕ, ◌+◌, ◌-◌, ◌<◌, ◌≤◌, ◌↔◌, List, IfSome, None, length, slice_index, take}
use Rattle.bp_layout.specs.WordPaths.{WordPath}
use Rattle.bp_changes.specs.Trail.{trail_of}
use Rattle.bp_cow.specs.Job.{ways}
use Rattle.bp_cow.specs.Leaves.{IsLeaf}
use Rattle.bp_cow.specs.Touched.{job_of, leaves_of, word_paths}
use Rattle.bp_cow.specs.declared.touched.Run.{Run}
use Rattle.bp_cow.specs.declared.touched.Touched.{Touched}
use Rattle.bp_cow.specs.declared.ways.Ends.{Ends}
use Rattle.bp_cow.specs.declared.ways.Shared.{Shared}
use Rattle.bp_cow.specs.declared.ways.Way.{Way}

-- one of the first `count` ways begins with the first `depth` slots of a path
pub record IsShared (way : ℕ → WordPath) (count : ℕ) (path : WordPath) (depth : ℕ) : Type 0 where
  pub which : ℕ
  pub early : which < count
  pub here : depth ≤ length path
  pub there : depth ≤ length (way which)
  pub same : trail_of path depth ≡ trail_of (way which) depth

-- each prefix of the way is a prefix of an earlier way
abbrev pub AddsNoBlock : Touched → ℕ → Type 0
AddsNoBlock touched i =
    (d : ℕ) → d ≤ length ((job_of touched).way i) → IsShared (job_of touched).way i ((job_of touched).way i) d

-- for each of the first ways, how many of its prefixes are prefixes of no earlier way; these are the longest ones
pub record AreFresh (touched : Touched) (fresh : List ℕ) : Type 0 where
  pub few : (i : ℕ) → i < length fresh → slice_index fresh i ≤ length ((job_of touched).way i) + 1
  pub right : (i d : ℕ) → i < length fresh → (d < length ((job_of touched).way i) + 1 - slice_index fresh i)
      ↔ IsShared (job_of touched).way i ((job_of touched).way i) d

-- The number of ways to leaves; and for each run, perhaps without the last one, the number of ways to its leaves and to
-- those of the runs before it.
pub record AreEnds (runs : List Run) (ends : Ends) : Type 0 where
  pub leaves : ends.leaves ≡ leaves_of runs
  pub each : length runs ≤ length ends.inner.items + 1
  pub right : (k : ℕ) → k < length ends.inner.items → slice_index ends.inner.items k ≡ leaves_of (take (k + 1) runs)

-- the stored counts of the ways are correct
pub record AreShared (touched : Touched) (shared : Shared) : Type 0 where
  pub fresh : AreFresh touched shared.fresh.items
  pub ends : AreEnds touched.runs.now shared.ends

-- A way of touched words, with its length, the leaf or the word to which it leads, and the number of its prefixes that
-- are prefixes of an earlier way.
pub record IsWay (touched : Touched) (way : Way) : Type 0 where
  pub here : way.index < ways (job_of touched)
  pub len : way.len ≡ length ((job_of touched).way way.index)
  pub leaf : IfSome way.leaf (λ leaf.
      IsLeaf touched.runs.now touched.runs.now (word_paths touched) way.index leaf.run.now leaf.index)
  pub none : way.leaf ≡ None → leaves_of touched.runs.now ≤ way.index
  pub word : way.word ≡ way.index - leaves_of touched.runs.now
  pub shared : (d : ℕ) → (d < way.shared) ↔ IsShared (job_of touched).way way.index ((job_of touched).way way.index) d
