-- Serving while replies wait for a sink.
use Rattle.std.specs.Prelude.{◌≡◌, ◌⊎◌, ℕ, List, [], ◌++◌, Option, None, Some, false}
use Rattle.std.specs.Io.KnownBytes.{Appends}
use Rattle.bp_fs.specs.Behaviour.{Behaviour}
use Rattle.bp_io.specs.Views.{View}
use Rattle.bp_script.specs.Commands.{Command}
use Rattle.bp_script.specs.Commands.Command.{sync}
use Rattle.bp_script.specs.Texts.{LineReply, reply_text}
use Rattle.bp_session.specs.Outside.{counts}
use Rattle.bp_session.specs.Faults.{IsFirstFault}
use Rattle.bp_session.specs.Serving.{DoesLine, FailsLine, Keeps, Moment}
use Rattle.bp_session.specs.declared.broken.Broken.{Broken}
use Rattle.bp_session.specs.declared.broken.Broken.TheVariants as cause
use Rattle.bp_replies.specs.Gathering.{PassesOn}
use Rattle.bp_replies.specs.Taking.{TakesPart}

-- After a command that is no sync, the waiting replies may still wait, and no file has changed; else a sink took them
-- all.
abbrev pub Clears : Command → List ℕ → List ℕ → Option (List ℕ) → Option (List ℕ) → View → View → Type 0
Clears command before after taken now files files_now =
    (¬ (command ≡ sync) × (after ≡ before) × (now ≡ taken) × (files_now ≡ files))
    ⊎ ((after ≡ []) × Appends taken now before)

-- A line was carried out, and its reply is still to be added to the waiting replies.
pub record AwaitsReply {S : Type 0} (it : Behaviour S) (command : Command) (before : List ℕ) (old new : Moment S) : Type 0 where
  pub reply : LineReply
  pub does : DoesLine it old command reply new
  pub waits : List ℕ
  pub taken : Option (List ℕ)
  pub clears : Clears command before waits old.taken taken old.files new.files

-- A line was carried out, and its reply was added.
pub record IsAnswered {S : Type 0} (it : Behaviour S) (command : Command) (before after : List ℕ)
    (old new : Moment S) : Type 0 where
  pub done : AwaitsReply it command before old new
  pub passes : PassesOn (reply_text done.reply) done.waits after done.taken new.taken

-- A line was carried out, and the sink failed as its reply was added.
pub record IsUnreported {S : Type 0} (it : Behaviour S) (command : Command) (before : List ℕ) (old new : Moment S) : Type 0 where
  pub done : AwaitsReply it command before old new
  pub part : TakesPart (done.waits ++ reply_text done.reply) done.taken new.taken

-- The sink failed before a sync: it took a proper prefix of the waiting replies, and nothing else was done.
pub record IsUnheard {S : Type 0} (before : List ℕ) (old new : Moment S) : Type 0 where
  pub part : TakesPart before old.taken new.taken
  pub same : new ≡ record old { taken = new.taken; faults = new.faults }

-- A sync could not save, after the sink had taken all waiting replies.
pub record IsUnsaved {S : Type 0} (it : Behaviour S) (command : Command) (before : List ℕ) (old new : Moment S) : Type 0 where
  pub fails : FailsLine it old command new
  pub taken : Appends old.taken new.taken before

-- The effect of a line and of the replies that wait before and after it, by how it ends: its reply was added, or the
-- sink failed, or a sync could not save.
pub record LineGathers {S : Type 0} (it : Behaviour S) (ended : Option Broken) (command : Command) (before after : List ℕ)
    (old new : Moment S) : Type 0 where
  pub whole : ended ≡ None → IsAnswered it command before after old new
  pub broken : ended ≡ Some cause.Sink → IsUnreported it command before old new ⊎ IsUnheard before old new
  pub stopped : ended ≡ Some cause.Files → IsUnsaved it command before old new
  pub keeps : Keeps it ended old new
  pub first : IsFirstFault ended false (counts 0 old.faults old.files) (counts 0 new.faults new.files)
  pub one_of : (ended ≡ None) ⊎ (ended ≡ Some cause.Sink) ⊎ (ended ≡ Some cause.Files)
