-- Each call keeps a memory safe: one that commits by a store alone in its epoch, one without a store, a drain and a crash.
use Rattle.std.proofs.Common.{◌≡◌, ℕ, ◌+◌, ◌≤◌, List, [], ◌∷◌, ◌++◌, refl, ◌∙◌, arith}
use Rattle.pm_epochs.specs.declared.event.Event.{Event}
use Rattle.pm_epochs.specs.declared.event.Event.TheVariants.{CallEnd}
use Rattle.pm_epochs.specs.Log.{words_after, call_ends, IsClosed}
use Rattle.pm_epochs.specs.Replay.{PowerCut, IsRight, replay}
use Rattle.pm_epochs.specs.Crash.{Likeness, IsPartialEquivalence, CrashRight, commit}
use Rattle.pm_epochs.proofs.CrashLaws.{words_after-append, call_ends-append, IsClosed-append, IsClosed-commit, crash_right-append, crash_right_commit, crash_right_call_end, crash_right_none}
use Rattle.pm_region.specs.Memory.{Memory, current_words, room_in, Adds}
use Rattle.pm_region.specs.Safe.{IsSafe, AddsQuiet, AddsCommit}
use Rattle.pm_region.proofs.MemoryLaws.{adds_both, current_words-adds, room_in-piece}

-- ## A memory between calls

module _ (Same : Likeness) (equivalence : IsPartialEquivalence Same) where
  -- what is like another is well formed
  pub well_left : (first second : List ℕ) → Same first second → Same first first
  well_left first second same = equivalence.transitive _ _ _ same (equivalence.symmetric _ _ same)

  -- a call that is right by itself
  pub safe_call : (old new : Memory) (call : List Event) → IsSafe Same old → Adds old new call → CrashRight Same (current_words old) call → IsClosed call → Same (words_after (current_words old) call) (words_after (current_words old) call) → IsSafe Same new
  safe_call old new call safe added right closed well = rw added (record {
    right = crash_right-append Same equivalence.transitive old.base old.events call safe.closed safe.right right;
    closed = IsClosed-append old.events call safe.closed closed;
    well = rw (words_after-append old.base old.events call) well;
  })

  -- a call without a store
  pub safe_call_end : (old new : Memory) → IsSafe Same old → Adds old new (CallEnd ∷ []) → IsSafe Same new
  safe_call_end old new safe added = safe_call old new (CallEnd ∷ []) safe added (crash_right_call_end Same (current_words old) safe.well) tt safe.well

  -- a memory with an empty log
  pub safe_empty : (memory : Memory) → memory.events ≡ [] → Same memory.base memory.base → IsSafe Same memory
  safe_empty memory empty well = record {
    right = rw empty (crash_right_none Same memory.base well);
    closed = rw empty tt;
    well = rw empty well;
  }

  -- what a crash leaves is well formed
  pub well_crashed : (memory : Memory) (cut : PowerCut) → IsSafe Same memory → IsRight memory.events cut → Same (replay memory.base memory.events cut) (replay memory.base memory.events cut)
  well_crashed memory cut safe right = well_left _ _ (safe.right.each cut right)

  pub safe_crashed : (memory : Memory) (cut : PowerCut) → IsSafe Same memory → IsRight memory.events cut → IsSafe Same (record memory { base = replay memory.base memory.events cut; events = [] })
  safe_crashed memory cut safe right = safe_empty (record memory { base = replay memory.base memory.events cut; events = [] }) refl (well_crashed memory cut safe right)

-- ## Quiet parts of a call

module _ (Same : Likeness) (most_barriers most_stores : ℕ) (old : Memory) where
  pub room_after_quiet : (new : Memory) → AddsQuiet Same most_barriers most_stores old new → room_in old ≤ room_in new + (most_barriers + most_stores)
  room_after_quiet new part = room_in-piece most_barriers most_stores old new part.added part.adds part.piece

-- ## The commit

pub room_after_commit : (Same : Likeness) (word value most_barriers most_stores : ℕ) (old new : Memory) → AddsCommit Same word value most_barriers most_stores old new → room_in old ≤ room_in new + (most_barriers + most_stores)
room_after_commit Same word value most_barriers most_stores old new done = room_in-piece most_barriers most_stores old new (done.prepared ++ commit word value) done.adds done.piece

module _ (Same : Likeness) (equivalence : IsPartialEquivalence Same) (word value most_barriers most_stores : ℕ) where
  -- the end of a call that committed
  pub safe_committed : (old middle new : Memory) → IsSafe Same old → AddsCommit Same word value most_barriers most_stores old middle → Adds middle new (CallEnd ∷ []) → Same (current_words new) (current_words new) → IsSafe Same new
  safe_committed old middle new safe done ends well =
      let events = done.prepared ++ commit word value in
      let all = adds_both old middle new events (CallEnd ∷ []) done.adds ends in
      let no_call_end : call_ends done.prepared ≡ 0 = omega (arith, done.piece.no_call_end, call_ends-append done.prepared (commit word value)) in
      let after = words_after-append (current_words old) events (CallEnd ∷ []) in
      let words = current_words-adds old new _ all in
      safe_call Same equivalence old new (events ++ CallEnd ∷ []) safe all
      (crash_right_commit Same (current_words old) done.prepared word value no_call_end done.quiet (rw (words ∙ after) at well))
      (IsClosed-commit done.prepared word value)
      (rw words at well)
