-- What a call on files does to a region, and its answer.
use Rattle.std.specs.Prelude.{◌≡◌, ℕ, Some, List, [], ◌∷◌, ◌++◌, Bool, true, false, ◌&&◌, not}
use Rattle.pm_epochs.specs.declared.event.Event.{Event}
use Rattle.pm_epochs.specs.declared.event.Event.TheVariants.{CallEnd}
use Rattle.pm_epochs.specs.Log.{call_ends}
use Rattle.pm_region.specs.Memory.{Memory, with_room, Adds}
use Rattle.pm_region.specs.Safe.{IsSafe}
use Rattle.bp_layout.specs.Trees.{AreInSnapshot}
use Rattle.bp_limits.specs.Limits.{call_room}
use Rattle.bp_plain.specs.PlainTree.{FileTree}
use Rattle.bp_plain.specs.Stands.{Stands}
use Rattle.bp_plain.specs.Calls.{Call, Answer}
use Rattle.bp_plain.specs.Calls.Answer.{refused}
use Rattle.bp_plain.specs.Plain.{is_changing}
use Rattle.bp_layout.specs.Need.{Change}
use Rattle.bp_layout.specs.Words.{Image}
use Rattle.bp_changes.specs.Performs.{IsShort}
use Rattle.bp_roles.specs.Mounted.{SameDurable, served_events, served_words}
use Rattle.bp_fs.specs.Step.{Step, IsChange}
use Rattle.bp_fs.specs.SuperEvents.{super_events}

abbrev pub is_refused : Answer → Bool
is_refused (refused why) = true
is_refused _ = false

-- Whether the call changed the tree: it is a changing call and was not refused.
abbrev pub has_changed : FileTree → Call → Answer → Bool
has_changed tree call answer = is_changing tree call && not (is_refused answer)

-- The events of a changing call are within its bounds: either it made one change at no more than its cost, or it
-- changes only the superblock and has exactly the events of `super_events`.
pub data IsCheap (image : Image) (call : Call) (new : Image) (events : List Event) : Type 0 where
  changes : {change : Change} {in_snapshot : ℕ → Bool} → IsChange image call change → AreInSnapshot image in_snapshot →
      IsShort image new in_snapshot change events → IsCheap image call new events
  reports : super_events image call ≡ Some events → IsCheap image call new events

-- A call on files, over a region with these memories. The answer and the new image are a step, of the images as a mount
-- sees them. The log got the call's events and then its end-of-call marker. A call that changes nothing has no events,
-- and the events of a changing call are within its bounds.
--
-- The new words are a file system, and a crash at any point leaves a file system with the files and directories of some
-- prefix of the calls.
pub record FileCall (old : Memory) (call : Call) (answer : Answer) (new : Memory) : Type 0 where
  pub added : List Event
  pub no_call_end : call_ends added ≡ 0
  pub adds : Adds (with_room call_room old) new (added ++ CallEnd ∷ [])
  pub step : Step (served_words old) call answer (served_words new)
  pub silent : (tree : FileTree) → Stands (served_words old) tree → has_changed tree call answer ≡ false → added ≡ []
  pub short : (tree : FileTree) → Stands (served_words old) tree → has_changed tree call answer ≡ true →
      IsCheap (served_words old) call (served_words new) (served_events old added)
  pub safe : IsSafe SameDurable new
