-- What the memory holds after steps of the processor and the engine.
use Rattle.std.specs.Prelude.{◌≡◌, ℕ, Bool, Option, MatchOption, Some, true, List, slice_get}
use Rattle.pm_epochs.specs.declared.event.Event.{Event}
use Rattle.pm_epochs.specs.Crash.{CrashRight, Likeness}
use Rattle.pm_epochs.specs.Replay.{IsRight, PowerCut, after_calls, kept_calls, replay}
use Rattle.pm_region.specs.Memory.{Memory}
use Rattle.pm_steps.specs.Machine.{AllToBack, ComesFirst, IsFirstMissing, IsFirstTo, MachineState, MachineStep, StepsTo, cut_of, in_log_order, machine_over}

-- Each store that must be written back before this one is.
abbrev pub AreBackBefore : List Event → List Bool → ℕ → Type 0
AreBackBefore events back which = (earlier : ℕ) → ComesFirst events earlier which → slice_get back earlier ≡ Some true

-- The result is the first store that must be written back before this one and is not, or none if all are.
abbrev pub FindsMissing : Option ℕ → List Event → List Bool → ℕ → Type 0
FindsMissing found events back which = MatchOption found (AreBackBefore events back which) (IsFirstMissing events back which)

-- The result is the first store to a word in a range that is not written back, or none if all are.
abbrev pub FindsFirstTo : Option ℕ → List Event → List Bool → ℕ → ℕ → ℕ → Type 0
FindsFirstTo found events back word from to =
    MatchOption found (AllToBack events back word from to) (IsFirstTo events back word from to)

-- The words of the memory while these stores are written back: the replay of the machine's crash point.
abbrev pub words_by : List ℕ → List Event → List Bool → List ℕ
words_by base events back = replay base events (cut_of events back)

-- The words of a region's memory while these stores are written back.
abbrev pub words_in : Memory → List Bool → List ℕ
words_in memory back = words_by memory.base memory.events back

-- ---- whole runs

-- These steps lead from a state over these words, with nothing executed, to this state, and each is allowed.
abbrev pub RunsTo : List ℕ → List Event → List MachineStep → MachineState → Type 0
RunsTo base events steps state = StepsTo events (machine_over base) steps state

-- The property holds of each state to which any allowed steps lead.
abbrev pub AfterEachRun : List ℕ → List Event → (MachineState → Type 0) → Type 0
AfterEachRun base events Holds =
    (steps : List MachineStep) (state : MachineState) → RunsTo base events steps state → Holds state

-- The crash point of the machine is valid.
abbrev pub StandsRight : List Event → MachineState → Type 0
StandsRight events state = IsRight events (cut_of events state.back)

-- The memory is the replay of the machine's crash point.
abbrev pub HoldsReplay : List ℕ → List Event → MachineState → Type 0
HoldsReplay base events state = state.words ≡ words_by base events state.back

-- The machine with these stores written back, and with the memory that they make.
abbrev pub machine_at : List ℕ → List Event → List Bool → MachineState
machine_at base events back = record { back = back; words = words_by base events back }

-- If the processor executes its events, and these stores then go back in the order of the log, all steps are allowed
-- and lead to `machine_at`.
abbrev pub RunsInLogOrder : List ℕ → List Event → List Bool → Type 0
RunsInLogOrder base events back = RunsTo base events (in_log_order back) (machine_at base events back)

-- Some allowed steps lead to the words that this crash point leaves.
abbrev pub HasRunTo : List ℕ → List Event → PowerCut → Type 0
HasRunTo base events cut = (steps : List MachineStep) × (state : MachineState) ×
    RunsTo base events steps state × (state.words ≡ replay base events cut)

-- Over a right log (`CrashRight`), the memory is like the words after the surviving calls.
abbrev pub HoldsCalls : Likeness → List ℕ → List Event → List MachineStep → MachineState → Type 0
HoldsCalls Same base events steps state =
    CrashRight Same base events → RunsTo base events steps state →
    Same state.words (after_calls base events (kept_calls events (cut_of events state.back)))
