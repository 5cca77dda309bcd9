-- How a file system behaves: its states, and what its calls and the loss of power do to them.
use Rattle.std.specs.Prelude.{◌≡◌, ℕ, Bool, nat_lt, length, ⊤}
use Rattle.bp_layout.specs.declared.totals.Totals.{Totals}
use Rattle.bp_limits.specs.Limits.{call_room}
use Rattle.bp_plain.specs.Calls.{Call, Answer}
use Rattle.bp_plain.specs.Calls.Call.{upgrade_to_three}
use Rattle.pm_epochs.specs.Replay.{PowerCut}
use Rattle.pm_region.specs.Memory.{Memory, crashed, drained, room_in, with_room}

-- The next call drains before it does anything else: the log might not have room for its events.
abbrev pub drains_first : Memory → Bool
drains_first memory = nat_lt (room_in memory) call_room

-- The words of the last drain after a call. It may drain first. For an upgrade to version 3, which may drain several
-- times, only the behaviour of the call itself states them.
abbrev pub KeepsDrained : Call → Memory → Memory → Type 0
KeepsDrained upgrade_to_three old new = ⊤
KeepsDrained call old new = new.base ≡ (with_room call_room old).base

-- The behaviour of a file system with these states. `memory`: the memory of the region in which it stores. `calls`: the
-- call may have this answer and lead from one state to the other. `drained`: the state once all stores of the calls so
-- far are written back. `crashed`: the state that a crash at this point leaves. `space`: the numbers of free and of live
-- blocks. `totals`: the totals of its files.
pub record Behaviour (State : Type 0) : Type 1 where
  pub memory : State → Memory
  pub calls : State → Call → Answer → State → Type 0
  pub drained : State → State
  pub crashed : State → PowerCut → State
  pub space : State → ℕ → ℕ → Type 0
  pub totals : State → Totals → Type 0

-- The behaviour is that of a file system over its region. A drain and a crash are those of the region. A call keeps the
-- number of words and the capacity of the log, and drains the region only before its own events.
pub record IsBehaviour {State : Type 0} (it : Behaviour State) : Type 0 where
  pub drains : (s : State) → it.memory (it.drained s) ≡ drained (it.memory s)
  pub crashes : (s : State) (cut : PowerCut) → it.memory (it.crashed s cut) ≡ crashed (it.memory s) cut
  pub size : (old : State) (call : Call) (answer : Answer) (new : State) → it.calls old call answer new →
      length (it.memory new).base ≡ length (it.memory old).base
  pub capacity : (old : State) (call : Call) (answer : Answer) (new : State) → it.calls old call answer new →
      (it.memory new).capacity ≡ (it.memory old).capacity
  pub base : (old : State) (call : Call) (answer : Answer) (new : State) → it.calls old call answer new →
      KeepsDrained call (it.memory old) (it.memory new)
