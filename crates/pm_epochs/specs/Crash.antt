-- What a crash may leave, up to a relation on the words. A file system takes the relation "both represent the same
-- tree".
use Rattle.std.specs.Prelude.{ℕ, List, [], ◌∷◌, ◌++◌}
use Rattle.pm_epochs.specs.declared.event.Event.{Event}
use Rattle.pm_epochs.specs.declared.event.Event.TheVariants.{Store, Barrier, CallEnd}
use Rattle.pm_epochs.specs.Log.{words_after}
use Rattle.pm_epochs.specs.Replay.{PowerCut, IsRight, replay, kept_calls, after_calls}

-- A relation between the words of two memories.
abbrev pub Likeness : Type 1
Likeness = List ℕ → List ℕ → Type 0

abbrev pub IsTransitive : Likeness → Type 0
IsTransitive Same = (first second third : List ℕ) → Same first second → Same second third → Same first third

-- Symmetric and transitive. Words that are related to themselves are well formed.
pub record IsPartialEquivalence (Same : Likeness) : Type 0 where
  pub symmetric : (first second : List ℕ) → Same first second → Same second first
  pub transitive : (first second third : List ℕ) → Same first second → Same second third → Same first third

-- Right: a crash at any point of the log leaves words like those after the surviving calls.
pub record CrashRight (Same : Likeness) (base : List ℕ) (events : List Event) : Type 0 where
  pub each : (cut : PowerCut) → IsRight events cut →
      Same (replay base events cut) (after_calls base events (kept_calls events cut))

-- Quiet: a crash at any point of the log leaves words like those before the log.
pub record IsQuiet (Same : Likeness) (base : List ℕ) (events : List Event) : Type 0 where
  pub each : (cut : PowerCut) → IsRight events cut → Same (replay base events cut) base

-- One store alone in its epoch: a barrier, the store, a barrier.
abbrev pub commit : ℕ → ℕ → List Event
commit word value = Barrier ∷ Store word value ∷ Barrier ∷ []

-- ---- logs in a row

-- If two logs are quiet, the second one over the words that the first leaves, then their concatenation is quiet.
abbrev pub StaysQuiet : Likeness → List ℕ → List Event → List Event → Type 0
StaysQuiet Same base first rest =
    IsQuiet Same base first → IsQuiet Same (words_after base first) rest → IsQuiet Same base (first ++ rest)

-- If two logs are right, the second one over the words that the first leaves, then their concatenation is right.
abbrev pub StaysRight : Likeness → List ℕ → List Event → List Event → Type 0
StaysRight Same base first rest =
    CrashRight Same base first → CrashRight Same (words_after base first) rest → CrashRight Same base (first ++ rest)

-- A log that leaves words like those before is quiet.
abbrev pub IsQuietIfSame : Likeness → List ℕ → List Event → Type 0
IsQuietIfSame Same base events = Same (words_after base events) base → IsQuiet Same base events

-- A quiet preparation, one store alone in its epoch, and an end-of-call marker are a right log (`CrashRight`), if the
-- words after them are well formed.
abbrev pub CommitsRight : Likeness → List ℕ → List Event → ℕ → ℕ → Type 0
CommitsRight Same base prepared word value =
    IsQuiet Same base prepared →
    Same (words_after base (prepared ++ commit word value)) (words_after base (prepared ++ commit word value)) →
    CrashRight Same base (prepared ++ commit word value ++ CallEnd ∷ [])
