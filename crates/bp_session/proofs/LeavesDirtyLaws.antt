-- What a file holds of the words of the last drain after a line, and which of its blocks may lack some.
use Rattle.std.proofs.Common.{refl, sym, ◌∙◌, subst, inl, inr, ◌≡◌, ℕ, ◌*◌, List, length, Bool, false, true}
use Rattle.pm_epochs.specs.Replay.{PowerCut}
use Rattle.bp_fs.specs.Behaviour.{Behaviour, KeepsDrained}
use Rattle.bp_fs.specs.WordLaws.{size-with_room}
use Rattle.bp_io.specs.Views.{View}
use Rattle.bp_layout.specs.Words.{Image}
use Rattle.bp_limits.specs.Limits.{call_room}
use Rattle.bp_plain.specs.Calls.{Call, Answer}
use Rattle.bp_plain.specs.Calls.Call.{upgrade_to_three}
use Rattle.bp_script.specs.Commands.{Command}
use Rattle.bp_script.specs.Commands.Command.{file_call}
use Rattle.pm_region.specs.Memory.{Memory, current_words, drained, with_room}
use Rattle.bp_session.specs.Acting.{CrashesByCaches, CrashesTo, Does, KeepsBase, LeavesDirty, NotesDrain, is_crash, to_save}
use Rattle.bp_session.specs.Changed.{AreDirty, AreClean, CoversCall, CoversDrain}
use Rattle.bp_session.specs.Files.{Holds, HoldsAs}
use Rattle.bp_session.specs.declared.outcome.Outcome.{Outcome}
use Rattle.bp_session.specs.declared.outcome.Outcome.TheVariants.{Answered, Synced, Counted, Kept, Logged, BadChoice, BadSyntax, TooLong, NoMemory}
use Rattle.bp_session.proofs.ActingLaws.{saves_nothing}
use Rattle.bp_session.proofs.ChangedLaws.{holds_drained, holds_lost, holds_more}

-- ---- which blocks may

pub leaves_synced : (command : Command) (memory : Memory) (before after : List Bool) → AreClean after → LeavesDirty Synced command memory before after
leaves_synced command memory before after cleared = record {
  crashed = λ e. absurd (let no : false ≡ true = e in cc);
  synced = λ _. cleared;
  others = λ _ other. absurd (other refl);
}

pub leaves_other : (outcome : Outcome) (command : Command) (memory : Memory) (before noted after : List Bool) → ¬ (outcome ≡ Synced) → NotesDrain outcome command memory before noted → (is_crash outcome ≡ true → AreDirty after) → (is_crash outcome ≡ false → after ≡ noted)
    → LeavesDirty outcome command memory before after
leaves_other outcome command memory before noted after other notes crashed others = record {
  crashed = crashed;
  synced = λ e. absurd (other e);
  others = λ no _. subst (λ (flags : List Bool). NotesDrain outcome command memory before flags) (sym (others no)) notes;
}

pub notes_crash : {S : Type 0} (it : Behaviour S) (old new : S) (cut : PowerCut) (outcome : Outcome) (command : Command) (flags : List Bool) → CrashesTo it old cut outcome new → NotesDrain outcome command (it.memory old) flags flags
notes_crash it old new cut outcome command flags (inl does) = rw does.reported refl
notes_crash it old new cut outcome command flags (inr does) = rw does.reported refl

pub notes_cache : {S : Type 0} (it : Behaviour S) (old new : S) (seed : ℕ) (outcome : Outcome) (command : Command) (flags : List Bool) → CrashesByCaches it old seed outcome new → NotesDrain outcome command (it.memory old) flags flags
notes_cache it old new seed outcome command flags (inl does) = rw does.reported refl
notes_cache it old new seed outcome command flags (inr lacks) = rw lacks.reported refl

pub notes_log : (memory : Memory) (outcome : Outcome) (command : Command) (events barriers calls : ℕ) (flags : List Bool) → outcome ≡ Logged events barriers calls → NotesDrain outcome command memory flags flags
notes_log memory outcome command events barriers calls flags is = rw is refl

-- ---- a line that is no sync, over a file that stays

module _ (old new : Memory) (before after : List Bool) (files : View) (name : List ℕ) (saved : Image) (size : length old.base ≡ 512 * files.blocks) (held : HoldsAs before files old.base name saved) where
  stays : after ≡ before → new.base ≡ old.base → HoldsAs after files new.base name saved
  stays flags base = rw (flags, base) held

  -- after a call: a file with the words that its drain wrote back, or one whose blocks are all dirty
  holds_drained_once : new.base ≡ (with_room call_room old).base → CoversDrain old before after → HoldsAs after files new.base name saved
  holds_drained_once base notes =
      let next : length (with_room call_room old).base ≡ 512 * files.blocks = size-with_room call_room old ∙ size in
      subst (λ (words : Image). HoldsAs after files words name saved) (sym base)
      (holds_more before after old.base (with_room call_room old).base files.blocks size next notes.more notes.changes files name saved refl held)

  holds_called : (call : Call) → KeepsDrained call old new → CoversCall call old before after → HoldsAs after files new.base name saved
  holds_called upgrade_to_three base notes = holds_lost after files new.base name saved notes.all held.file
  holds_called call base notes = holds_drained_once base notes

  holds_answered : (asked : Command) → KeepsBase Answered asked old new → NotesDrain Answered asked old before after → HoldsAs after files new.base name saved
  holds_answered (file_call call) base notes = holds_called call base notes
  holds_answered asked base notes = stays notes base

module _ {S : Type 0} (it : Behaviour S) (old new : S) (command : Command) (answer : Answer) (before after : List Bool) (files : View) (name : List ℕ) (saved : Image) (size : length (it.memory old).base ≡ 512 * files.blocks)
    (held : HoldsAs before files (it.memory old).base name saved) where
  stays_after : after ≡ before → (it.memory new).base ≡ (it.memory old).base → HoldsAs after files (it.memory new).base name saved
  stays_after = stays (it.memory old) (it.memory new) before after files name saved size held

  holds_after : (outcome : Outcome) → Does it old command outcome answer new → ¬ (outcome ≡ Synced) → LeavesDirty outcome command (it.memory old) before after → HoldsAs after files (it.memory new).base name saved
  holds_after Synced does other leaves = absurd (other refl)
  holds_after Answered does other leaves = holds_answered (it.memory old) (it.memory new) before after files name saved size held command does.base (leaves.others refl other)
  holds_after (Kept c n) does other leaves = holds_lost after files (it.memory new).base name saved (leaves.crashed refl) held.file
  holds_after (Counted free live) does other leaves = stays_after (leaves.others refl other) does.base
  holds_after (Logged events barriers calls) does other leaves =
      stays_after (leaves.others refl other) does.base
  holds_after BadChoice does other leaves = stays_after (leaves.others refl other) does.base
  holds_after NoMemory does other leaves = stays_after (leaves.others refl other) does.base
  holds_after BadSyntax does other leaves = stays_after (leaves.others refl other) does.base
  holds_after TooLong does other leaves = stays_after (leaves.others refl other) does.base

  pub acts_done : (outcome : Outcome) → Does it old command outcome answer new → ¬ (outcome ≡ Synced) → LeavesDirty outcome command (it.memory old) before after → HoldsAs after files (it.memory new).base name (to_save command (it.memory old) saved)
  acts_done outcome does other leaves = rw (saves_nothing it old new command answer does other saved) (holds_after outcome does other leaves)

-- ---- a sync

pub holds_synced : (old new : Memory) (flags : List Bool) (now : View) (name : List ℕ) → new ≡ drained old → Holds now name (current_words old) → HoldsAs flags now new.base name (current_words old)
holds_synced old new flags now name done file = rw done (holds_drained flags now (current_words old) name file)
