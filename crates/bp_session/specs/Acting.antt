-- The outcomes of a line, and the effect of a command on a file system.
use Rattle.std.specs.Prelude.{◌≡◌, ◌⊎◌, ℕ, Bool, List, ⊤, false, length, true}
use Rattle.bp_fs.specs.Behaviour.{Behaviour, KeepsDrained}
use Rattle.pm_epochs.specs.Log.{call_ends}
use Rattle.pm_epochs.specs.Replay.{PowerCut, IsRight, kept_calls}
use Rattle.pm_region.specs.Memory.{Memory, current_words}
use Rattle.bp_layout.specs.Words.{Image}
use Rattle.bp_plain.specs.Calls.{Answer}
use Rattle.bp_plain.specs.Calls.Answer.{refused}
use Rattle.bp_plain.specs.Calls.Refusal.{no_memory}
use Rattle.bp_script.specs.Commands.{Command}
use Rattle.bp_script.specs.Commands.Command.{file_call, sync, space, crash, storm, cache, log, bad_syntax, too_long}
use Rattle.bp_script.specs.Texts.{LineReply, reply_text}
use Rattle.bp_script.specs.Texts.LineReply.{answered, synced, space_of, kept_of, log_of, bad_choice, syntax, long}
use Rattle.bp_session.specs.Changed.{AreDirty, AreClean, CoversCall}
use Rattle.bp_session.specs.Session.{SessionLine, State, caches_cut}
use Rattle.bp_session.specs.declared.outcome.Outcome.{Outcome}
use Rattle.bp_session.specs.declared.outcome.Outcome.TheVariants.{Answered, Synced, Counted, Kept, Logged, BadChoice, NoMemory, BadSyntax, TooLong}

-- The reply for an outcome. For a call it is the call's answer.
abbrev pub reply_of : Outcome → Answer → LineReply
reply_of Answered answer = answered answer
reply_of Synced answer = synced
reply_of (Counted free live) answer = space_of free live
reply_of (Kept c n) answer = kept_of c n
reply_of (Logged events barriers calls) answer = log_of events barriers calls
reply_of BadChoice answer = bad_choice
reply_of NoMemory answer = answered (refused no_memory)
reply_of BadSyntax answer = syntax
reply_of TooLong answer = long

-- The text of the reply for an outcome.
abbrev pub outcome_text : Outcome → Answer → List ℕ
outcome_text outcome answer = reply_text (reply_of outcome answer)

-- The state of a session: that of the file system, and the words that the attached file holds.
abbrev pub state : {S : Type 0} → S → Image → State S
state system saved = record { system = system; saved = saved }

-- Whether a command may have this outcome.
abbrev pub may_come_to : Command → Outcome → Bool
may_come_to (file_call call) Answered = true
may_come_to sync Synced = true
may_come_to space (Counted free live) = true
may_come_to (crash wanted) (Kept c n) = true
may_come_to (crash wanted) BadChoice = true
may_come_to (storm seed) (Kept c n) = true
may_come_to (cache seed) (Kept c n) = true
may_come_to (cache seed) NoMemory = true
may_come_to log (Logged events barriers calls) = true
may_come_to bad_syntax BadSyntax = true
may_come_to too_long TooLong = true
may_come_to command outcome = false

-- The words that the file shall hold after a command: a sync saves the current words, other commands change nothing.
abbrev pub to_save : Command → Memory → Image → Image
to_save (file_call call) memory saved = saved
to_save sync memory saved = current_words memory
to_save space memory saved = saved
to_save (crash wanted) memory saved = saved
to_save (storm seed) memory saved = saved
to_save (cache seed) memory saved = saved
to_save log memory saved = saved
to_save bad_syntax memory saved = saved
to_save too_long memory saved = saved

-- The words of the last drain after a line with this outcome. For a sync or a crash nothing is stated.
abbrev pub KeepsBase : Outcome → Command → Memory → Memory → Type 0
KeepsBase Answered (file_call call) old new = KeepsDrained call old new
KeepsBase Synced command old new = ⊤
KeepsBase (Kept c n) command old new = ⊤
KeepsBase outcome command old new = new.base ≡ old.base

-- The dirty blocks after a line with this outcome, before a sync or a crash updates them: the drains of a call add
-- some.
abbrev pub NotesDrain : Outcome → Command → Memory → List Bool → List Bool → Type 0
NotesDrain Answered (file_call call) memory before after = CoversCall call memory before after
NotesDrain outcome command memory before after = after ≡ before

-- Whether the outcome is that of a crash.
abbrev pub is_crash : Outcome → Bool
is_crash (Kept c n) = true
is_crash outcome = false

-- The dirty blocks after a line with this outcome: all after a crash, none after a sync, and else those before
-- it, together with those that a call's drains add.
pub record LeavesDirty (outcome : Outcome) (command : Command) (memory : Memory) (before after : List Bool) : Type 0 where
  pub crashed : is_crash outcome ≡ true → AreDirty after
  pub synced : outcome ≡ Synced → AreClean after
  pub others : is_crash outcome ≡ false → ¬ (outcome ≡ Synced) → NotesDrain outcome command memory before after

-- A command was carried out and has its reply. Only the file is left to be saved, if the outcome is a sync.
pub record Does {S : Type 0} (it : Behaviour S) (old : S) (command : Command) (outcome : Outcome) (answer : Answer)
    (new : S) : Type 0 where
  pub line : (saved : Image) → SessionLine it (state old saved) command (reply_of outcome answer)
      (state new (to_save command (it.memory old) saved))
  pub size : length (it.memory new).base ≡ length (it.memory old).base
  pub capacity : (it.memory new).capacity ≡ (it.memory old).capacity
  pub comes : may_come_to command outcome ≡ true
  pub base : KeepsBase outcome command (it.memory old) (it.memory new)

-- A crash at this crash point: the surviving calls are counted, and the state is the one that the crash leaves.
pub record HasCrashed {S : Type 0} (it : Behaviour S) (old : S) (cut : PowerCut) (outcome : Outcome) (new : S) : Type 0 where
  pub right : IsRight (it.memory old).events cut
  pub reported : outcome ≡ Kept (kept_calls (it.memory old).events cut) (call_ends (it.memory old).events)
  pub left : new ≡ it.crashed old cut

-- The crash point is not valid for the log, and nothing is done.
pub record HasRefused {S : Type 0} (it : Behaviour S) (old : S) (cut : PowerCut) (outcome : Outcome) (new : S) : Type 0 where
  pub wrong : ¬ IsRight (it.memory old).events cut
  pub reported : outcome ≡ BadChoice
  pub same : new ≡ old

-- The result of a crash at a crash point: done, or refused.
abbrev pub CrashesTo : {S : Type 0} → Behaviour S → S → PowerCut → Outcome → S → Type 0
CrashesTo it old cut outcome new = HasCrashed it old cut outcome new ⊎ HasRefused it old cut outcome new

-- Allocation of the memory that a command needs failed, and nothing is done.
pub record LacksMemory {S : Type 0} (old : S) (outcome : Outcome) (new : S) : Type 0 where
  pub reported : outcome ≡ NoMemory
  pub same : new ≡ old

-- The result of a crash by simulated caches: done, or refused for lack of memory.
abbrev pub CrashesByCaches : {S : Type 0} → Behaviour S → S → ℕ → Outcome → S → Type 0
CrashesByCaches it old seed outcome new =
    HasCrashed it old (caches_cut (it.memory old) seed) outcome new ⊎ LacksMemory old outcome new
