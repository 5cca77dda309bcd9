-- The effect of a script on a file system and a file, and its replies.
use Rattle.std.specs.Prelude.{◌≡◌, ◌⊎◌, ◌*◌, ℕ, List, [], ◌∷◌, length}
use Rattle.pm_epochs.specs.Log.{barriers, call_ends}
use Rattle.pm_epochs.specs.Replay.{PowerCut, IsRight, kept_calls}
use Rattle.pm_region.specs.Memory.{Memory, current_words}
use Rattle.bp_replay.specs.Wanted.{cut_for}
use Rattle.bp_replay.specs.Storm.{storm_cut}
use Rattle.bp_replay.specs.Cache.{cache_cut}
use Rattle.bp_limits.specs.Limits.{log_events}
use Rattle.pm_cores.specs.Caches.{Caches, caches_over}
use Rattle.bp_fs.specs.Behaviour.{Behaviour}
use Rattle.bp_layout.specs.Words.{Image}
use Rattle.bp_plain.specs.Calls.{Call, Answer}
use Rattle.bp_plain.specs.Calls.Answer.{refused}
use Rattle.bp_plain.specs.Calls.Refusal.{no_memory}
use Rattle.bp_script.specs.Commands.{Command}
use Rattle.bp_script.specs.Commands.Command.{file_call, sync, space, crash, storm, cache, log, bad_syntax, too_long}
use Rattle.bp_script.specs.Texts.{LineReply}
use Rattle.bp_script.specs.Texts.LineReply.{answered, synced, space_of, kept_of, log_of, bad_choice, syntax, long}

-- The state of a session: that of the file system, and the words that the file holds.
pub record State (S : Type 0) : Type 0 where
  pub system : S
  pub saved : Image

-- The state after a sync: all is written back, and the file holds the current words.
abbrev pub synced_state : {S : Type 0} → Behaviour S → State S → State S
synced_state it s = record { system = it.drained s.system; saved = current_words (it.memory s.system) }

-- The state after a crash: the file system is what the crash leaves, the log is empty, and the file is unchanged.
abbrev pub crashed_state : {S : Type 0} → Behaviour S → State S → PowerCut → State S
crashed_state it s cut = record { system = it.crashed s.system cut; saved = s.saved }

-- ---- one line

pub record AnswersCall {S : Type 0} (it : Behaviour S) (old : State S) (call : Call) (reply : LineReply)
    (new : State S) : Type 0 where
  pub answer : Answer
  pub reported : reply ≡ answered answer
  pub does : it.calls old.system call answer new.system
  pub saved : new.saved ≡ old.saved

-- This reply is given, and nothing is done.
pub record GivesReply {S : Type 0} (old : State S) (wanted reply : LineReply) (new : State S) : Type 0 where
  pub reported : reply ≡ wanted
  pub same : new ≡ old

pub record Syncs {S : Type 0} (it : Behaviour S) (old : State S) (reply : LineReply) (new : State S) : Type 0 where
  pub reported : reply ≡ synced
  pub done : new ≡ synced_state it old

-- The reply has the numbers of free and of live blocks.
pub record ReportsSpace {S : Type 0} (it : Behaviour S) (old : State S) (reply : LineReply) (new : State S) : Type 0 where
  pub free : ℕ
  pub live : ℕ
  pub reported : reply ≡ space_of free live
  pub has : it.space old.system free live
  pub same : new ≡ old

-- A crash: the reply has the number of calls that survive, and the number of calls of the log.
pub record Crashes {S : Type 0} (it : Behaviour S) (old : State S) (cut : PowerCut) (reply : LineReply)
    (new : State S) : Type 0 where
  pub right : IsRight (it.memory old.system).events cut
  pub reported : reply ≡ kept_of (kept_calls (it.memory old.system).events cut) (call_ends (it.memory old.system).events)
  pub done : new ≡ crashed_state it old cut

-- The crash point is not valid for the log, and nothing is done.
pub record RefusesCut {S : Type 0} (it : Behaviour S) (old : State S) (cut : PowerCut) (reply : LineReply)
    (new : State S) : Type 0 where
  pub wrong : ¬ IsRight (it.memory old.system).events cut
  pub reported : reply ≡ bad_choice
  pub same : new ≡ old

-- The caches of two cores over this number of words, before they did anything, with room for each event of a log and
-- a load after it.
abbrev pub two_caches : ℕ → Caches
two_caches words = caches_over 2 words (2 * log_events)

-- The crash point that these caches leave of the log, in a run drawn from the seed.
abbrev pub caches_cut : Memory → ℕ → PowerCut
caches_cut memory seed = cache_cut (two_caches (length memory.base)) memory.events seed

-- The reply with the numbers of events, barriers and calls of the log.
abbrev pub log_reply : Memory → LineReply
log_reply memory = log_of (length memory.events) (barriers memory.events) (call_ends memory.events)

abbrev pub SessionLine : {S : Type 0} → Behaviour S → State S → Command → LineReply → State S → Type 0
SessionLine it old (file_call call) reply new = AnswersCall it old call reply new
SessionLine it old sync reply new = Syncs it old reply new
SessionLine it old space reply new = ReportsSpace it old reply new
SessionLine it old (crash wanted) reply new =
    let cut = cut_for (it.memory old.system).events wanted in Crashes it old cut reply new ⊎ RefusesCut it old cut reply new
SessionLine it old (storm seed) reply new = Crashes it old (storm_cut (it.memory old.system).events seed) reply new
SessionLine it old (cache seed) reply new =
    Crashes it old (caches_cut (it.memory old.system) seed) reply new ⊎ GivesReply old (answered (refused no_memory)) reply new
SessionLine it old log reply new = GivesReply old (log_reply (it.memory old.system)) reply new
SessionLine it old bad_syntax reply new = GivesReply old syntax reply new
SessionLine it old too_long reply new = GivesReply old long reply new

-- ---- a script

abbrev pub Session : {S : Type 0} → Behaviour S → State S → List Command → List LineReply → State S → Type 0
Session it old [] [] new = new ≡ old
Session it old [] (reply ∷ replies) new = ⊥
Session it old (command ∷ commands) [] new = ⊥
Session {S} it old (command ∷ commands) (reply ∷ replies) new =
    (middle : State S) × SessionLine it old command reply middle × Session it middle commands replies new
