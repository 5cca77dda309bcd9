-- A memory that a crash at any point leaves in the state after its last surviving call, up to a relation on the words;
-- and the parts of a call, each with at most these numbers of barriers and stores.
use Rattle.std.specs.Prelude.{ℕ, List, ◌++◌}
use Rattle.pm_epochs.specs.declared.event.Event.{Event}
use Rattle.pm_epochs.specs.Log.{IsClosed, IsPiece}
use Rattle.pm_epochs.specs.Crash.{Likeness, CrashRight, IsQuiet, commit}
use Rattle.pm_epochs.specs.May.{StoresMay}
use Rattle.pm_region.specs.Memory.{Memory, current_words, Adds}

-- Between calls: the log is right (`CrashRight`), each store has a barrier after it, and the current words are well
-- formed.
pub record IsSafe (Same : Likeness) (memory : Memory) : Type 0 where
  pub right : CrashRight Same memory.base memory.events
  pub closed : IsClosed memory.events
  pub well : Same (current_words memory) (current_words memory)

-- Stores of values that are allowed at their words, and barriers: a part of a preparation.
pub record AddsMay (May : ℕ → ℕ → Type 0) (most_barriers most_stores : ℕ) (old new : Memory) : Type 0 where
  pub added : List Event
  pub adds : Adds old new added
  pub may : StoresMay May added
  pub piece : IsPiece most_barriers most_stores added

-- A part of a call that a crash may interrupt anywhere without a visible change: the postcondition of a preparation.
pub record AddsQuiet (Same : Likeness) (most_barriers most_stores : ℕ) (old new : Memory) : Type 0 where
  pub added : List Event
  pub adds : Adds old new added
  pub quiet : IsQuiet Same (current_words old) added
  pub closed : IsClosed added
  pub piece : IsPiece most_barriers most_stores added

-- A call up to its end-of-call marker: a quiet preparation, and then one store alone in its epoch, of this value at
-- this word. The counts are those of both together.
pub record AddsCommit (Same : Likeness) (word value most_barriers most_stores : ℕ) (old new : Memory) : Type 0 where
  pub prepared : List Event
  pub adds : Adds old new (prepared ++ commit word value)
  pub quiet : IsQuiet Same (current_words old) prepared
  pub piece : IsPiece most_barriers most_stores (prepared ++ commit word value)
