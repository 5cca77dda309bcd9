-- The effect of serving a part of an input.
use Rattle.std.specs.Prelude.{All, ◌≡◌, ◌≤◌, ◌⊎◌, ℕ, ◌<◌, List, [], ◌∷◌, ◌++◌, None, Some, Bool, true, false, length, take, Option}
use Rattle.std.specs.Io.KnownBytes.{Appends, Consumes, IsAtEnd}
use Rattle.bp_io.specs.Causes.{Rose}
use Rattle.bp_io.specs.Files.{KeepsOthers, StaysAttached}
use Rattle.bp_io.specs.Views.{View, SinkView, SourceView}
use Rattle.bp_limits.specs.Limits.{log_events, max_input}
use Rattle.pm_region.specs.Memory.{Memory, current_words}
use Rattle.bp_fs.specs.Behaviour.{Behaviour}
use Rattle.bp_layout.specs.Words.{Image}
use Rattle.bp_script.specs.Commands.{Command}
use Rattle.bp_script.specs.Commands.Command.{sync}
use Rattle.bp_script.specs.Texts.{LineReply, reply_text}
use Rattle.bp_session.specs.Lines.{commands_from, text_of}
use Rattle.bp_session.specs.Acting.{state}
use Rattle.bp_session.specs.Changed.{AreDirty}
use Rattle.bp_session.specs.Files.{CanSave, HoldsAs, HoldsPartly}
use Rattle.bp_session.specs.Outside.{counts}
use Rattle.bp_session.specs.Faults.{IsFirstFault}
use Rattle.bp_session.specs.Session.{State, SessionLine, Session}
use Rattle.bp_session.specs.Pieces.{piece_size}
use Rattle.bp_session.specs.declared.broken.Broken.{Broken}
use Rattle.bp_session.specs.declared.broken.Broken.TheVariants as cause

-- A command was carried out, with this reply.
pub record Acts {S : Type 0} (it : Behaviour S) (old : State S) (system : S) (holds : Image → Type 0) (command : Command)
    (reply : LineReply) : Type 0 where
  pub after : Image
  pub line : SessionLine it old command reply (state system after)
  pub file : holds after

-- A sync drained the log, and could not save.
pub record SyncFails {S : Type 0} (it : Behaviour S) (old : State S) (system : S) (holds_partly : Image → Image → Type 0)
    (command : Command) : Type 0 where
  pub is : command ≡ sync
  pub drained : system ≡ it.drained old.system
  pub file : holds_partly old.saved (current_words (it.memory old.system))

-- A session over these commands, whose replies a sink took.
pub record Replied {S : Type 0} (it : Behaviour S) (old new : State S) (commands : List Command)
    (before now : Option (List ℕ)) : Type 0 where
  pub replies : List LineReply
  pub session : Session it old commands replies new
  pub taken : Appends before now (text_of replies)

-- The lines that this input ends were answered. The bytes held of a line before and after the input define where
-- lines begin and end.
pub record Serves {S : Type 0} (it : Behaviour S) (old : State S) (system : S) (holds : Image → Type 0)
    (held input keeps : List ℕ)
    (before now : Option (List ℕ)) : Type 0 where
  pub commands : List Command
  pub lines : (rest : List ℕ) → commands_from held (input ++ rest) ≡ commands ++ commands_from keeps rest
  pub after : Image
  pub file : holds after
  pub reported : Replied it old (state system after) commands before now

-- All these commands were answered.
pub record ServesAll {S : Type 0} (it : Behaviour S) (old : State S) (system : S) (holds : Image → Type 0)
    (commands : List Command)
    (before now : Option (List ℕ)) : Type 0 where
  pub after : Image
  pub file : holds after
  pub reported : Replied it old (state system after) commands before now

-- The first of these commands were answered. Then one more was carried out, whose reply the sink took only in part: a
-- proper prefix. The file system may be ahead of it by later commands, none of which is a sync, whose replies no sink
-- took; but not where no byte of replies may wait while more is served.
pub record BreaksOff {S : Type 0} (it : Behaviour S) (most : ℕ) (old : State S) (system : S) (holds : Image → Type 0)
    (commands : List Command)
    (before now : Option (List ℕ)) : Type 0 where
  pub prefix : List Command
  pub last : Command
  pub ahead : List Command
  pub more : List Command
  pub are : commands ≡ (prefix ++ last ∷ ahead) ++ more
  pub middle : State S
  pub replies : List LineReply
  pub session : Session it old prefix replies middle
  pub reply : LineReply
  pub reached : State S
  pub line : SessionLine it middle last reply reached
  pub unheard : List LineReply
  pub after : Image
  pub later : Session it reached ahead unheard (state system after)
  pub unsynced : All (λ command. ¬ (command ≡ sync)) ahead
  pub alone : most ≡ 0 → ahead ≡ []
  pub file : holds after
  pub count : ℕ
  pub proper : count < length (reply_text reply)
  pub taken : Appends before now (text_of replies ++ take count (reply_text reply))

-- The first of these commands were answered, and then a sync drained the log and could not save.
pub record StopsAtSave {S : Type 0} (it : Behaviour S) (old : State S) (system : S) (holds_partly : Image → Image → Type 0)
    (commands : List Command)
    (before now : Option (List ℕ)) : Type 0 where
  pub prefix : List Command
  pub last : Command
  pub more : List Command
  pub are : commands ≡ prefix ++ last ∷ more
  pub middle : State S
  pub reported : Replied it old middle prefix before now
  pub fails : SyncFails it middle system holds_partly last

-- ---- from one state of serving to another

-- The state of serving: that of the file system, the known state of the files and the sink, and the blocks of the attached file
-- that may lack words of the last drain.
pub record Moment (S : Type 0) : Type 0 where
  pub system : S
  pub files : View
  pub taken : Option (List ℕ)
  pub faults : ℕ
  pub dirty : List Bool

-- The state of serving in which any block may lack words of the last drain.
abbrev pub moment : {S : Type 0} → S → View → SinkView → Moment S
moment system files sink =
    record { system = system; files = files; taken = sink.taken; faults = sink.faults; dirty = [] }

-- The same state of serving with these dirty blocks.
abbrev pub with_dirty : {S : Type 0} → List Bool → Moment S → Moment S
with_dirty dirty now = record now { dirty = dirty }

-- The file of this name holds these words; each of its blocks that is not dirty has those of the last drain.
abbrev pub HoldsAt : {S : Type 0} → Behaviour S → Moment S → List ℕ → Image → Type 0
HoldsAt it now name image = HoldsAs now.dirty now.files (it.memory now.system).base name image

-- A file that holds the words `saved` in the first state of serving holds the words `after` in the second.
abbrev pub Carries : {S : Type 0} → Behaviour S → Moment S → Moment S → Image → Image → Type 0
Carries it old new saved after = (name : List ℕ) → HoldsAt it old name saved → HoldsAt it new name after

-- A file that holds the words `saved` in the first state of serving exists in the second, and each of its blocks is
-- that of the words `first` or `second`.
abbrev pub CarriesPartly : {S : Type 0} → Behaviour S → Moment S → Moment S → Image → Image → Image → Type 0
CarriesPartly it old new saved first second =
    (name : List ℕ) → HoldsAt it old name saved → HoldsPartly new.files name first second

-- ---- effects, whatever the attached file holds

-- The command was carried out.
abbrev pub DoesLine : {S : Type 0} → Behaviour S → Moment S → Command → LineReply → Moment S → Type 0
DoesLine it old command reply new =
    (saved : Image) → Acts it (state old.system saved) new.system (Carries it old new saved) command reply

-- A sync could not save, and any block of the file may lack words.
pub record FailsLine {S : Type 0} (it : Behaviour S) (old : Moment S) (command : Command) (new : Moment S) : Type 0 where
  pub fails : (saved : Image) →
      SyncFails it (state old.system saved) new.system (CarriesPartly it old new saved) command
  pub lost : AreDirty new.dirty

-- The lines that this input ends were answered.
abbrev pub DoesPart : {S : Type 0} → Behaviour S → List ℕ → List ℕ → List ℕ → Moment S → Moment S → Type 0
DoesPart it held input keeps old new = (saved : Image) →
    Serves it (state old.system saved) new.system (Carries it old new saved) held input keeps old.taken new.taken

-- All these commands were answered.
abbrev pub DoesAll : {S : Type 0} → Behaviour S → Moment S → Moment S → List Command → Type 0
DoesAll it old new commands = (saved : Image) →
    ServesAll it (state old.system saved) new.system (Carries it old new saved) commands old.taken new.taken

-- The reply to one of these commands was broken off, where replies of at most `most` bytes may wait while more is
-- served.
abbrev pub DoesBreakOff : {S : Type 0} → Behaviour S → ℕ → Moment S → Moment S → List Command → Type 0
DoesBreakOff it most old new commands = (saved : Image) →
    BreaksOff it most (state old.system saved) new.system (Carries it old new saved) commands old.taken new.taken

-- A sync among these commands could not save, and any block of the file may lack words.
pub record DoesStop {S : Type 0} (it : Behaviour S) (old new : Moment S) (commands : List Command) : Type 0 where
  pub stops : (saved : Image) →
      StopsAtSave it (state old.system saved) new.system (CarriesPartly it old new saved) commands old.taken new.taken
  pub lost : AreDirty new.dirty

-- The region keeps its size and the capacity of its log, the same file is attached, and no other file changes. If all
-- data was flushed before, it is flushed unless a sync failed.
pub record Keeps {S : Type 0} (it : Behaviour S) (ended : Option Broken) (old new : Moment S) : Type 0 where
  pub size : length (it.memory new.system).base ≡ length (it.memory old.system).base
  pub capacity : (it.memory new.system).capacity ≡ (it.memory old.system).capacity
  pub attached : StaysAttached old.files new.files
  pub others : KeepsOthers old.files new.files
  pub flushed : ¬ (ended ≡ Some cause.Files) → old.files.is_flushed ≡ true → new.files.is_flushed ≡ true

-- The requirements of serving: a file is attached that has the blocks of the file system and may be written, and the
-- capacity of its log is at most that of the memory of the work.
pub record CanServe (memory : Memory) (files : View) : Type 0 where
  pub ready : CanSave memory.base files
  pub roomy : memory.capacity ≤ log_events

-- After serving, the file is still ready for the file system, whose log keeps its capacity, so that more can be served.
pub record ServesAgain (old new : Memory) (files : View) : Type 0 where
  pub ready : CanSave new.base files
  pub capacity : new.capacity ≡ old.capacity

-- The effect of serving commands, by how it ends: all were answered, a reply was broken off, or a sync could not
-- save.
pub record LineOutcome {S : Type 0} (it : Behaviour S) (ended : Option Broken) (commands : List Command)
    (old new : Moment S) : Type 0 where
  pub whole : ended ≡ None → DoesAll it old new commands
  pub broken : ended ≡ Some cause.Sink → DoesBreakOff it 0 old new commands
  pub stopped : ended ≡ Some cause.Files → DoesStop it old new commands
  pub keeps : Keeps it ended old new
  pub first : IsFirstFault ended false (counts 0 old.faults old.files) (counts 0 new.faults new.files)
  pub one_of : (ended ≡ None) ⊎ (ended ≡ Some cause.Sink) ⊎ (ended ≡ Some cause.Files)

-- The effect of serving a piece of an input, after the bytes held of a line, where replies of at most `most` bytes
-- may wait. A line at which a fault comes is whole, whatever follows.
pub record PieceOutcome {S : Type 0} (it : Behaviour S) (ended : Option Broken) (most : ℕ) (held input keeps : List ℕ)
    (old new : Moment S) : Type 0 where
  pub whole : ended ≡ None → DoesPart it held input keeps old new
  pub broken : ended ≡ Some cause.Sink → (rest : List ℕ) → DoesBreakOff it most old new (commands_from held (input ++ rest))
  pub stopped : ended ≡ Some cause.Files → (rest : List ℕ) → DoesStop it old new (commands_from held (input ++ rest))
  pub keeps_files : Keeps it ended old new
  pub first : IsFirstFault ended false (counts 0 old.faults old.files) (counts 0 new.faults new.files)
  pub one_of : (ended ≡ None) ⊎ (ended ≡ Some cause.Sink) ⊎ (ended ≡ Some cause.Files)

-- P holds of the commands of lines that were read whole: of those of every input that begins with this one; or the
-- source is at its end, and P holds of those of this input.
abbrev pub OfLines : Option (List ℕ) → List ℕ → (List Command → Type 0) → Type 0
OfLines left input P =
    ((rest : List ℕ) → P (commands_from [] (input ++ rest))) ⊎ (IsAtEnd left × P (commands_from [] input))

-- The effect of serving a source, by how it ends: as for a piece, or the source failed, or the greatest number of
-- bytes was served and the last read gave more.
pub record ServeOutcome {S : Type 0} (it : Behaviour S) (ended : Option Broken) (most : ℕ) (before after : SourceView)
    (old new : Moment S) : Type 0 where
  pub whole : ended ≡ None → (input : List ℕ) × Consumes before.left after.left input × IsAtEnd after.left
      × (length input ≤ max_input) × DoesAll it old new (commands_from [] input)
  pub part : ended ≡ Some cause.Source → (input : List ℕ) × (keeps : List ℕ) × Consumes before.left after.left input
      × DoesPart it [] input keeps old new
  pub long : ended ≡ Some cause.LongInput → (input : List ℕ) × (more : List ℕ) × (keeps : List ℕ)
      × Consumes before.left after.left (input ++ more) × (length input ≡ max_input)
      × (1 ≤ length more) × (length more ≤ piece_size) × DoesPart it [] input keeps old new
  pub broken : ended ≡ Some cause.Sink → (input : List ℕ) × Consumes before.left after.left input
      × OfLines after.left input (DoesBreakOff it most old new)
  pub stopped : ended ≡ Some cause.Files → (input : List ℕ) × Consumes before.left after.left input
      × OfLines after.left input (DoesStop it old new)
  pub keeps : Keeps it ended old new
  pub first : IsFirstFault ended false (counts before.faults old.faults old.files) (counts after.faults new.faults new.files)
  pub complete : (input : List ℕ) → before.left ≡ Some input → length input ≤ max_input
      → ¬ Rose before.faults after.faults
      → ¬ Rose old.faults new.faults → ¬ Rose old.files.faults new.files.faults → ended ≡ None
