-- The effect of an export on the handle.
use Rattle.std.specs.Prelude.{◌≡◌, ◌≤◌, ◌<◌, ℕ, Option, Some, None, Result}
use Rattle.std.specs.Borrow.{MutBor}
use Rattle.std.specs.Fn.{FnOnceReturnsAtMut, Once}
use Rattle.pm_region.specs.Memory.{Memory, room_in}
use Rattle.bp_limits.specs.Limits.{call_room}
use Rattle.bp_plain.specs.Calls.{Call, Answer}
use Rattle.bp_plain.specs.declared.errors.FsError.{FsError}
use Rattle.bp_roles.specs.Mounted.{served_words}
use Rattle.bp_fs.specs.FileCall.{FileCall}
use Rattle.bp_volume.specs.Queries.{Answers}
use Rattle.bp_volume.specs.Seen.{unit_answer}
use Rattle.bpfs_c.specs.Listings.{listing_after}
use Rattle.bpfs_c.specs.declared.mounted.Mounted.{Mounted}

-- Whatever the function does to a volume, it is this call.
abbrev pub IsCall : {F : Type 0} → Once F (MutBor Memory × Unit {0}) (Result (Unit {0}) FsError × (MutBor Memory × Unit {0})) → F → Call → Type 0
IsCall does act call =
    (old new : Memory) (ending : Result (Unit {0}) FsError) → FnOnceReturnsAtMut does act old ending new
    → FileCall old call (unit_answer ending) new

-- The call was made on the volume of the handle, and the caller's variables have its answer.
pub record Serves (old : Mounted) (call : Call) (Reported : Answer → Type 0) (new : Option Mounted) : Type 0 where
  pub answer : Answer
  pub volume : Memory
  pub is_call : FileCall old.volume call answer volume
  pub held : new ≡ Some (record old { volume = volume; listing = listing_after answer old.listing })
  pub reported : Reported answer

-- The effect of an export that makes a call. If the handle holds no volume (32), or the log has room for fewer events
-- than a call may need (34), it does nothing, and the caller's variables keep their contents. So no event is ever
-- dropped. Otherwise it makes the call.
pub data Exported (old : Option Mounted) (call : Call) (Reported : Answer → Type 0) (Same : Type 0) (code : ℕ) (new : Option Mounted) : Type 0 where
  closed : old ≡ None → code ≡ 32 → new ≡ None → Same → Exported old call Reported Same code new
  full : (held : Mounted) → old ≡ Some held → room_in held.volume < call_room → code ≡ 34 → new ≡ old → Same →
      Exported old call Reported Same code new
  served : (held : Mounted) → old ≡ Some held → call_room ≤ room_in held.volume → Serves held call Reported new →
      Exported old call Reported Same code new

-- The effect of an export that only looks at the volume or the listing of a handle: the handle is unchanged.
pub data Looked (old : Option Mounted) (Reported : Mounted → Type 0) (Same : Type 0) (code : ℕ) (new : Option Mounted) : Type 0 where
  closed : old ≡ None → code ≡ 32 → new ≡ None → Same → Looked old Reported Same code new
  looked : (held : Mounted) → old ≡ Some held → new ≡ Some held → Reported held → Looked old Reported Same code new

-- The effect of an export that asks what a call would answer. If the handle holds no volume (32), it does nothing.
-- Otherwise the caller's variables have a possible answer of the call, and nothing is added to the log.
pub data Asks (old : Option Mounted) (call : Call) (Reported : Answer → Type 0) (Same : Type 0) (code : ℕ) (new : Option Mounted) : Type 0 where
  closed : old ≡ None → code ≡ 32 → new ≡ None → Same → Asks old call Reported Same code new
  asked : (held : Mounted) (answer : Answer) → old ≡ Some held → Answers (served_words held.volume) call answer →
      new ≡ Some (record held { listing = listing_after answer held.listing }) → Reported answer → Asks old call Reported Same code new
