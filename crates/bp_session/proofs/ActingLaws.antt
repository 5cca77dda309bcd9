-- One line, by its case.
use Rattle.std.proofs.Common.{refl, sym, ◌∙◌, ap, arith, ◌≡◌, ◌≤◌, ◌<◌, ◌+◌, ◌*◌, ℕ, List, [], ◌∷◌, length, take, true, false, inl, inr}
use Rattle.std.specs.Prelude.{Some, slice_get}
use Rattle.pm_epochs.proofs.CrashLaws.{barriers-append, call_ends-append}
use Rattle.pm_epochs.specs.declared.event.Event.{Event}
use Rattle.pm_epochs.specs.Log.{barriers, call_ends}
use Rattle.pm_epochs.specs.Replay.{PowerCut, kept_calls}
use Rattle.pm_region.specs.Memory.{Memory, current_words}
use Rattle.bp_layout.specs.Words.{Image}
use Rattle.bp_layout.specs.Bytes.{image_bytes}
use Rattle.bp_io.specs.Views.{View}
use Rattle.bp_plain.specs.Calls.{Call, Answer}
use Rattle.bp_limits.specs.Limits.{max_line, max_mask}
use Rattle.bp_fs.specs.Behaviour.{Behaviour, IsBehaviour}
use Rattle.bp_fs.specs.WordLaws.{size-crashed, size-drained}
use Rattle.std.proofs.lemmas.Bool.{le-ltb, lt-ltb}
use Rattle.bp_replay.proofs.CachePlayed.{taken_more}
use Rattle.bp_replay.specs.Wanted.{Wanted, cut_for, mask_places, wanted_by}
use Rattle.bp_replay.specs.declared.cut.Cut.{Cut as Asked}
use Rattle.bp_replay.specs.declared.cut.Cut.TheVariants.{All, Nothing, At}
use Rattle.bp_replay.specs.Storm.{storm_cut}
use Rattle.bp_script.specs.Commands.{Command, command_of, in_grammar, mask_in}
use Rattle.bp_script.specs.Commands.Command.{file_call, sync, space, crash, storm, cache, log, too_long}
use Rattle.bp_script.specs.Texts.LineReply.{synced}
use Rattle.bp_session.specs.Files.{Holds, HoldsBytes}
use Rattle.bp_session.specs.Acting.{CrashesByCaches, CrashesTo, Does, HasCrashed, may_come_to, reply_of, state, to_save}
use Rattle.bp_session.specs.Serving.{Acts, SyncFails}
use Rattle.bp_session.specs.Session.{Crashes, SessionLine, caches_cut}
use Rattle.bp_session.specs.declared.outcome.Outcome.{Outcome}
use Rattle.bp_session.specs.declared.outcome.Outcome.TheVariants.{Answered, Synced, Counted, Kept, Logged, BadChoice, TooLong}
use Rattle.bp_session.proofs.BlockLaws.{length-image_bytes}

-- ---- the sizes of a region

-- a drain and a crash keep them
module _ {S : Type 0} (it : Behaviour S) (lawful : IsBehaviour it) where
  pub size-drains : (s : S) → length (it.memory (it.drained s)).base ≡ length (it.memory s).base
  size-drains s = ap (λ (m : Memory). length m.base) (lawful.drains s) ∙ size-drained (it.memory s)

  pub capacity-drains : (s : S) → (it.memory (it.drained s)).capacity ≡ (it.memory s).capacity
  capacity-drains s = ap (λ (m : Memory). m.capacity) (lawful.drains s)

  size-crashes : (s : S) (cut : PowerCut) → length (it.memory (it.crashed s cut)).base ≡ length (it.memory s).base
  size-crashes s cut = ap (λ (m : Memory). length m.base) (lawful.crashes s cut) ∙ size-crashed (it.memory s) cut

  capacity-crashes : (s : S) (cut : PowerCut) → (it.memory (it.crashed s cut)).capacity ≡ (it.memory s).capacity
  capacity-crashes s cut = ap (λ (m : Memory). m.capacity) (lawful.crashes s cut)

-- ---- what a line did

module _ {S : Type 0} (it : Behaviour S) where
  module _ (lawful : IsBehaviour it) where
    pub does_call : (old new : S) (call : Call) (answer : Answer) → it.calls old call answer new → Does it old (file_call call) Answered answer new
    does_call old new call answer done = record {
      line = λ saved. record { answer = answer; reported = refl; does = done; saved = refl };
      size = lawful.size old call answer new done;
      capacity = lawful.capacity old call answer new done;
      comes = refl;
      base = lawful.base old call answer new done;
    }

    pub does_sync : (old new : S) (answer : Answer) → new ≡ it.drained old → Does it old sync Synced answer new
    does_sync old new answer done = record {
      line = λ saved. record { reported = refl; done = ap (λ s. state s (current_words (it.memory old))) done };
      size = ap (λ s. length (it.memory s).base) done ∙ size-drains it lawful old;
      capacity = ap (λ s. (it.memory s).capacity) done ∙ capacity-drains it lawful old;
      comes = refl;
      base = tt;
    }

    -- a crash to a cut, by whatever command
    module _ (old new : S) (cut : PowerCut) (outcome : Outcome) (answer : Answer) where
      does_crashed : (command : Command) → HasCrashed it old cut outcome new → ((saved : Image) → Crashes it (state old saved) cut (reply_of outcome answer) (state new saved) → SessionLine it (state old saved) command (reply_of outcome answer) (state new (to_save command (it.memory old) saved)))
          → ((c n : ℕ) → may_come_to command (Kept c n) ≡ true) → Does it old command outcome answer new
      does_crashed command does line comes = record {
        line = λ saved. line saved (record {
          right = does.right;
          reported = ap (λ o. reply_of o answer) does.reported;
          done = ap (λ s. state s saved) does.left;
        });
        size = ap (λ s. length (it.memory s).base) does.left ∙ size-crashes it lawful old cut;
        capacity = ap (λ s. (it.memory s).capacity) does.left ∙ capacity-crashes it lawful old cut;
        comes = rw does.reported (comes (kept_calls (it.memory old).events cut) (call_ends (it.memory old).events));
        base = rw does.reported tt;
      }

    pub does_crash : (old new : S) (wanted : Wanted) (outcome : Outcome) (answer : Answer) → CrashesTo it old (cut_for (it.memory old).events wanted) outcome new → Does it old (crash wanted) outcome answer new
    does_crash old new wanted outcome answer (inl does) =
        does_crashed old new (cut_for (it.memory old).events wanted) outcome answer (crash wanted) does (λ saved line. inl line) (λ c n. refl)
    does_crash old new wanted outcome answer (inr does) = record {
      line = λ saved. inr (record { wrong = does.wrong; reported = ap (λ o. reply_of o answer) does.reported; same = ap (λ s. state s saved) does.same });
      size = ap (λ s. length (it.memory s).base) does.same;
      capacity = ap (λ s. (it.memory s).capacity) does.same;
      comes = rw does.reported refl;
      base = rw does.reported (ap (λ s. (it.memory s).base) does.same);
    }

    pub does_storm : (old new : S) (seed : ℕ) (outcome : Outcome) (answer : Answer) → HasCrashed it old (storm_cut (it.memory old).events seed) outcome new → Does it old (storm seed) outcome answer new
    does_storm old new seed outcome answer does =
        does_crashed old new (storm_cut (it.memory old).events seed) outcome answer (storm seed) does (λ saved line. line) (λ c n. refl)

    pub does_cache : (old new : S) (seed : ℕ) (outcome : Outcome) (answer : Answer) → CrashesByCaches it old seed outcome new → Does it old (cache seed) outcome answer new
    does_cache old new seed outcome answer (inl does) =
        does_crashed old new (caches_cut (it.memory old) seed) outcome answer (cache seed) does (λ saved line. inl line) (λ c n. refl)
    does_cache old new seed outcome answer (inr lacks) = record {
      line = λ saved. inr (record { reported = ap (λ o. reply_of o answer) lacks.reported; same = ap (λ s. state s saved) lacks.same });
      size = ap (λ s. length (it.memory s).base) lacks.same;
      capacity = ap (λ s. (it.memory s).capacity) lacks.same;
      comes = rw lacks.reported refl;
      base = rw lacks.reported (ap (λ s. (it.memory s).base) lacks.same);
    }

  pub does_space : (system : S) (free live : ℕ) (answer : Answer) → it.space system free live → Does it system space (Counted free live) answer system
  does_space system free live answer has = record {
    line = λ saved. record { free = free; live = live; reported = refl; has = has; same = refl };
    size = refl;
    capacity = refl;
    comes = refl;
    base = refl;
  }

  pub does_log : (system : S) (outcome : Outcome) (answer : Answer) → outcome ≡ Logged (length (it.memory system).events) (barriers (it.memory system).events) (call_ends (it.memory system).events) → Does it system log outcome answer system
  does_log system outcome answer is = record {
    line = λ saved. record { reported = ap (λ o. reply_of o answer) is; same = refl };
    size = refl;
    capacity = refl;
    comes = rw is refl;
    base = rw is refl;
  }

  pub does_long : (system : S) (answer : Answer) → Does it system too_long TooLong answer system
  does_long system answer = record {
    line = λ saved. record { reported = refl; same = refl };
    size = refl;
    capacity = refl;
    comes = refl;
    base = refl;
  }

-- a mask has a place for each bit of its bytes, of two digits each
pub mask_fits : (asked : Asked) (most : ℕ) → most ≤ max_line → 2 * length (mask_in (crash (wanted_by asked))) ≤ most → mask_places asked ≤ max_mask
mask_fits All most low fits = omega arith
mask_fits Nothing most low fits = omega arith
mask_fits (At moment epoch mask) most low fits = omega (arith, low, fits)

-- ---- the counts of a log

pub one_more_barrier : (events : List Event) (i : ℕ) (event : Event) → slice_get events i ≡ Some event → barriers (take (i + 1) events) ≡ barriers (take i events) + barriers (event ∷ [])
one_more_barrier events i event at = ap barriers (taken_more events i event at) ∙ barriers-append (take i events) (event ∷ [])

pub one_more_call_end : (events : List Event) (i : ℕ) (event : Event) → slice_get events i ≡ Some event → call_ends (take (i + 1) events) ≡ call_ends (take i events) + call_ends (event ∷ [])
one_more_call_end events i event at = ap call_ends (taken_more events i event at) ∙ call_ends-append (take i events) (event ∷ [])

-- ---- what is a sync, and what is none

comes_synced : (command : Command) → may_come_to command Synced ≡ true → command ≡ sync
comes_synced sync comes = refl
comes_synced command comes = absurd (let no : false ≡ true = comes in cc)

synced_comes : (outcome : Outcome) → may_come_to sync outcome ≡ true → outcome ≡ Synced
synced_comes Synced comes = refl
synced_comes outcome comes = absurd (let no : false ≡ true = comes in cc)

to_save_other : (command : Command) (outcome : Outcome) (memory : Memory) (saved : Image) → may_come_to command outcome ≡ true → ¬ (outcome ≡ Synced) → to_save command memory saved ≡ saved
to_save_other sync outcome memory saved comes other = absurd (other (synced_comes outcome comes))
to_save_other command outcome memory saved comes other = refl

-- a crash comes to none
pub crash_not_left : {S P : Type 0} (it : Behaviour S) (old new : S) (cut : PowerCut) (outcome : Outcome) → CrashesTo it old cut outcome new → outcome ≡ Synced → P
crash_not_left it old new cut outcome (inl does) e = absurd (let no : ◌≡◌ {A = Outcome} (Kept (kept_calls (it.memory old).events cut) (call_ends (it.memory old).events)) Synced = sym does.reported ∙ e in cc)
crash_not_left it old new cut outcome (inr does) e = absurd (let no : ◌≡◌ {A = Outcome} BadChoice Synced = sym does.reported ∙ e in cc)

pub no_sync_storm : (seed : ℕ) → ¬ (storm seed ≡ sync)
no_sync_storm seed e = cc

pub no_sync_cache : (seed : ℕ) → ¬ (cache seed ≡ sync)
no_sync_cache seed e = cc

pub no_sync_log : ¬ (log ≡ sync)
no_sync_log e = cc

module _ {S : Type 0} (it : Behaviour S) (old new : S) (command : Command) (answer : Answer) where
  -- only a sync comes to one
  pub not_left : {outcome : Outcome} {P : Type 0} → Does it old command outcome answer new → ¬ (command ≡ sync) → outcome ≡ Synced → P
  not_left does other e = absurd (other (comes_synced command (rw e at does.comes)))

  -- and a sync comes to nothing else
  pub is_synced : {outcome : Outcome} → Does it old command outcome answer new → command ≡ sync → outcome ≡ Synced
  is_synced {outcome} does e = synced_comes outcome (rw e at does.comes)

  pub saves_nothing : {outcome : Outcome} → Does it old command outcome answer new → ¬ (outcome ≡ Synced) → (saved : Image) → to_save command (it.memory old) saved ≡ saved
  saves_nothing {outcome} does other saved = to_save_other command outcome (it.memory old) saved does.comes other

  -- ---- a sync

  module _ (is : command ≡ sync) (done : new ≡ it.drained old) where
    pub acts_synced : (saved : Image) (holds : Image → Type 0) → holds (current_words (it.memory old)) → Acts it (state old saved) new holds command synced
    acts_synced saved holds file = rw is (record { after = current_words (it.memory old); line = record { reported = refl; done = ap (λ s. state s (current_words (it.memory old))) done }; file = file })

    pub fails_synced : (saved : Image) (partly : Image → Image → Type 0) → partly saved (current_words (it.memory old)) → SyncFails it (state old saved) new partly command
    fails_synced saved partly file = record { is = is; drained = done; file = file }

-- ---- an image as bytes

pub holds_bytes : (files : View) (name : List ℕ) (image : Image) → Holds files name image → HoldsBytes files name (image_bytes image)
holds_bytes files name image file = record { attached = file.attached; size = omega (arith, length-image_bytes image, file.size); has = file.bytes }

-- ---- commands

pub command_short : (line : List ℕ) (command : Command) → length line ≤ max_line → command ≡ in_grammar line → command ≡ command_of line
command_short line command low is = rw (le-ltb max_line (length line) low) is

pub command_long : (line : List ℕ) → max_line < length line → command_of line ≡ too_long
command_long line high = rw (lt-ltb max_line (length line) high) refl
