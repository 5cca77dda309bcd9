-- A call of a file system that is stored in words keeps the sizes of its region.
use Rattle.std.proofs.Common.{refl, ◌∙◌, ap, ◌≡◌, ℕ, length, true, false}
use Rattle.std.specs.Prelude.{nat_lt, if◌then◌else◌}
use Rattle.bp_fs.specs.Behaviour.{IsBehaviour, KeepsDrained}
use Rattle.bp_fs.specs.ByWords.{by_words}
use Rattle.bp_fs.specs.Called.{Called}
use Rattle.bp_fs.specs.Called.Called.{at_once, cleared}
use Rattle.bp_fs.specs.FileCall.{FileCall}
use Rattle.bp_limits.specs.Limits.{call_room}
use Rattle.bp_plain.specs.Calls.{Call, Answer}
use Rattle.bp_plain.specs.Calls.Call.{upgrade_to_three}
use Rattle.pm_epochs.proofs.CrashLaws.{length-words_after}
use Rattle.pm_epochs.specs.Replay.{PowerCut, kept_stores}
use Rattle.pm_region.specs.Memory.{Memory, crashed, drained, with_room, room_in}

pub size-drained : (memory : Memory) → length (drained memory).base ≡ length memory.base
size-drained memory = length-words_after memory.base memory.events

pub size-with_room : (wanted : ℕ) (memory : Memory) → length (with_room wanted memory).base ≡ length memory.base
size-with_room wanted memory = elim (nat_lt (room_in memory) wanted) as (λ full. length (if full then drained memory else memory).base ≡ length memory.base) [
  | true ↦ size-drained memory
  | false ↦ refl
]

pub size-crashed : (memory : Memory) (cut : PowerCut) → length (crashed memory cut).base ≡ length memory.base
size-crashed memory cut = length-words_after memory.base (kept_stores memory.events cut)

capacity-with_room : (wanted : ℕ) (memory : Memory) → (with_room wanted memory).capacity ≡ memory.capacity
capacity-with_room wanted memory = elim (nat_lt (room_in memory) wanted) as (λ full. (if full then drained memory else memory).capacity ≡ memory.capacity) [ true ↦ refl | false ↦ refl ]

capacity-file_call : (old : Memory) (call : Call) (answer : Answer) (new : Memory) → FileCall old call answer new → new.capacity ≡ old.capacity
capacity-file_call old call answer new done = ap (λ (m : Memory). m.capacity) done.adds ∙ capacity-with_room call_room old

size-file_call : (old : Memory) (call : Call) (answer : Answer) (new : Memory) → FileCall old call answer new → length new.base ≡ length old.base
size-file_call old call answer new done = ap (λ (m : Memory). length m.base) done.adds ∙ size-with_room call_room old

pub capacity-called : (old : Memory) (call : Call) (answer : Answer) (new : Memory) → Called old call answer new → new.capacity ≡ old.capacity
capacity-called old call answer new (at_once done) = capacity-file_call old call answer new done
capacity-called old call answer new (cleared {between = between} is some clears done) = capacity-file_call between call answer new done ∙ clears.capacity

pub size-called : (old : Memory) (call : Call) (answer : Answer) (new : Memory) → Called old call answer new → length new.base ≡ length old.base
size-called old call answer new (at_once done) = size-file_call old call answer new done
size-called old call answer new (cleared {between = between} is some clears done) = size-file_call between call answer new done ∙ clears.whole

-- only an upgrade to version 3 drains more than once
pub drained_once : (old : Memory) (call : Call) (answer : Answer) (new : Memory) → Called old call answer new → KeepsDrained call old new
drained_once old upgrade_to_three answer new done = tt
drained_once old call answer new (at_once done) = ap (λ (m : Memory). m.base) done.adds
drained_once old call answer new (cleared is some clears done) = absurd (cc)

-- Calls by words keep the size of the region and the capacity of its log.
pub words_behave : IsBehaviour by_words
words_behave = record {
  drains = λ s. refl;
  crashes = λ s cut. refl;
  size = size-called;
  capacity = capacity-called;
  base = drained_once;
}
