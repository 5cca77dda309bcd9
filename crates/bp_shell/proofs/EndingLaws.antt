-- How a program ends for a reason, and what one answers that reads its file alone.
use Rattle.std.proofs.Common.{refl, sym, ◌∙◌, ap, ◌≡◌, ℕ, false, List, inl, inr}
use Rattle.std.specs.Prelude.{Option, ◌⊎◌}
use Rattle.std.specs.Io.KnownBytes.{Appends}
use Rattle.bp_io.specs.Causes.{Rose}
use Rattle.bp_io.specs.Views.{Known}
use Rattle.bp_session.specs.Outside.{Outside}
use Rattle.bp_session.specs.Faults.{IsFirstFault, IsIdle, IsUntouched}
use Rattle.bp_replies.specs.Taking.{TakesPart}
use Rattle.bp_session.proofs.OutcomeLaws.{files_fault, line_fault, quiet, sink_fault}
use Rattle.bp_shell.specs.Ending.{ReadOutcome, StopOutcome, PrintsStop}
use Rattle.bp_shell.specs.Statuses.{IsReadStatus, broken_by, prints_line}
use Rattle.bp_shell.specs.Stops.{IsReason}
use Rattle.bp_shell.specs.declared.status.Status.{Status}
use Rattle.bp_shell.specs.declared.status.Status.TheVariants as status
use Rattle.bp_shell.specs.declared.stop.Stop.{Stop}
use Rattle.bp_shell.specs.declared.stop.Stop.TheVariants as s
use Rattle.bp_shell.proofs.OpeningLaws.{if_memory, if_missing, if_refused, no_refusal}
use Rattle.bp_shell.proofs.RunningLaws.{read_complete}

-- ---- at a `Stop`

-- how a program ends at a `Stop`
abbrev pub IsStopStatus : Status → Type 0
IsStopStatus answer = (answer ≡ status.Missing) ⊎ (answer ≡ status.FilesFailed) ⊎ (answer ≡ status.Refused) ⊎ (answer ≡ status.Memory)

pub stop_statuses : (stop : Stop) (answer : Status) (t u : Option (List ℕ)) (m n : ℕ) → PrintsStop stop answer t u m n → IsStopStatus answer
stop_statuses s.Missing answer t u m n reported = inl reported.0
stop_statuses s.Outside answer t u m n reported = inr (inl reported.0)
stop_statuses (s.Refused _) answer t u m n reported = inr (inr (inl reported.0))
stop_statuses s.Memory answer t u m n reported = inr (inr (inr reported.0))

pub never_among : (answer other : Status) → IsStopStatus answer → ¬ (other ≡ status.Missing) → ¬ (other ≡ status.FilesFailed) → ¬ (other ≡ status.Refused) → ¬ (other ≡ status.Memory) → answer ≡ other → ⊥
never_among answer other (inl e) missing files refused memory is = missing (sym is ∙ e)
never_among answer other (inr (inl e)) missing files refused memory is = files (sym is ∙ e)
never_among answer other (inr (inr (inl e))) missing files refused memory is = refused (sym is ∙ e)
never_among answer other (inr (inr (inr e))) missing files refused memory is = memory (sym is ∙ e)

module _ (before after : Outside) (untouched : IsUntouched before after) (source : after.faults.source ≡ before.faults.source) where
  abbrev Replied : Stop → Status → Type 0
  Replied stop answer = PrintsStop stop answer before.taken after.taken before.faults.sink after.faults.sink

  pub stop_outcome : (stop : Stop) (answer : Status) → IsReason before.file stop → (stop ≡ s.Outside → Rose before.faults.files after.faults.files) → (¬ (stop ≡ s.Outside) → after.faults.files ≡ before.faults.files)
      → Replied stop answer → StopOutcome answer before after
  stop_outcome s.Missing answer reason failed same reported =
      let is : answer ≡ status.Missing = reported.0 in
      record {
        missing = λ _. (reason.missing refl, untouched, reported.1);
        refused = λ e. absurd cc;
        memory = λ e. absurd cc;
        first = rw is (line_fault _ _ source (same (if_missing _ refl)));
      }
  stop_outcome s.Outside answer reason failed same reported =
      let is : answer ≡ status.FilesFailed = reported.0 in
      record {
        missing = λ e. absurd cc;
        refused = λ e. absurd cc;
        memory = λ e. absurd cc;
        first = rw is (files_fault _ _ source reported.1.1 (failed refl));
      }
  stop_outcome (s.Refused notice) answer reason failed same reported =
      let is : answer ≡ status.Refused = reported.0 in
      record {
        missing = λ e. absurd cc;
        refused = λ _. (notice, reason.refused notice refl, untouched, reported.1);
        memory = λ e. absurd cc;
        first = rw is (line_fault _ _ source (same (if_refused _ notice refl)));
      }
  stop_outcome s.Memory answer reason failed same reported =
      let is : answer ≡ status.Memory = reported.0 in
      record {
        missing = λ e. absurd cc;
        refused = λ e. absurd cc;
        memory = λ _. record { untouched = untouched; taken = reported.1.0 };
        first = rw is (quiet false _ _ source reported.1.1 (same (if_memory _ refl)));
      }

  pub stop_idle : (stop : Stop) (answer : Status) → Replied stop answer → answer ≡ status.FilesFailed → IsIdle before after
  stop_idle s.Missing answer reported e = let is : answer ≡ status.Missing = reported.0 in absurd cc
  stop_idle s.Outside answer reported e = record { untouched = untouched; taken = reported.1.0 }
  stop_idle (s.Refused _) answer reported e = let is : answer ≡ status.Refused = reported.0 in absurd cc
  stop_idle s.Memory answer reported e = let is : answer ≡ status.Memory = reported.0 in absurd cc

-- a status of another kind
pub no_stop : (before after : Outside) (answer : Status) → ¬ (answer ≡ status.Missing) → ¬ (answer ≡ status.Refused) → ¬ (answer ≡ status.Memory) → IsFirstFault (broken_by answer) (prints_line answer) before.faults after.faults → StopOutcome answer before after
no_stop before after answer missing refused memory first = record { missing = λ e. absurd (missing e); refused = λ e. absurd (refused e); memory = λ e. absurd (memory e); first = first }

-- want of memory gives no cause
pub memory_reason : (known : Known) → IsReason known s.Memory
memory_reason known = record {
  missing = λ e. absurd (let no : ◌≡◌ {A = Stop} s.Memory s.Missing = e in cc);
  refused = λ notice e. absurd (no_refusal notice e);
}

-- ---- a program that reads its file alone

module _ (Reports : List ℕ → Type 0) (before after : Outside) (untouched : IsUntouched before after) (flushed : after.is_flushed ≡ before.is_flushed) (source : after.faults.source ≡ before.faults.source) where
  read_outcome : (answer : Status) → (answer ≡ status.Done → (text : List ℕ) × Reports text × Appends before.taken after.taken text) → (answer ≡ status.SinkFailed → (text : List ℕ) × Reports text × TakesPart text before.taken after.taken)
      → (answer ≡ status.FilesFailed → IsIdle before after) → StopOutcome answer before after
      → IsReadStatus answer → ReadOutcome Reports answer before after
  read_outcome answer whole sink files stops one_of = record {
    whole = whole;
    sink = sink;
    files = files;
    stops = stops;
    untouched = untouched;
    flushed = flushed;
    complete = read_complete answer before after (λ e. (stops.missing e).0) (λ e. stops.first.sink (ap broken_by e)) (λ e. stops.first.files (ap broken_by e)) (λ e. let why = stops.refused e in (why.0, why.1)) one_of;
    one_of = one_of;
  }

  pub read_stopped : (stop : Stop) (answer : Status) → IsReason before.file stop → (stop ≡ s.Outside → Rose before.faults.files after.faults.files) → (¬ (stop ≡ s.Outside) → after.faults.files ≡ before.faults.files)
      → PrintsStop stop answer before.taken after.taken before.faults.sink after.faults.sink → ReadOutcome Reports answer before after
  read_stopped stop answer reason failed same reported =
      let among = stop_statuses stop answer _ _ _ _ reported in
      read_outcome answer
      (λ e. absurd (never_among answer status.Done among (λ z. cc) (λ z. cc) (λ z. cc) (λ z. cc) e))
      (λ e. absurd (never_among answer status.SinkFailed among (λ z. cc) (λ z. cc) (λ z. cc) (λ z. cc) e))
      (stop_idle before after untouched source stop answer reported) (stop_outcome before after untouched source stop answer reason failed same reported)
      (elim among [
        | inl e ↦ inr (inl e)
        | inr (inl e) ↦ inr (inr (inr (inl e)))
        | inr (inr (inl e)) ↦ inr (inr (inr (inr (inl e))))
        | inr (inr (inr e)) ↦ inr (inr (inr (inr (inr e))))
      ])

  -- the text was taken, or a prefix of it
  pub read_done : (text : List ℕ) → Reports text → Appends before.taken after.taken text → after.faults.sink ≡ before.faults.sink → after.faults.files ≡ before.faults.files → ReadOutcome Reports status.Done before after
  read_done text reports taken sink files =
      read_outcome status.Done (λ _. (text, reports, taken)) (λ e. absurd cc) (λ e. absurd cc)
      (no_stop before after status.Done (λ e. cc) (λ e. cc) (λ e. cc)
      (quiet false _ _ source sink files)) (inl refl)

  pub read_broken : (text : List ℕ) → Reports text → TakesPart text before.taken after.taken → Rose before.faults.sink after.faults.sink → after.faults.files ≡ before.faults.files → ReadOutcome Reports status.SinkFailed before after
  read_broken text reports part rose files =
      read_outcome status.SinkFailed (λ e. absurd cc) (λ _. (text, reports, part)) (λ e. absurd cc)
      (no_stop before after status.SinkFailed (λ e. cc) (λ e. cc) (λ e. cc) (sink_fault _ _ source rose files)) (inr (inr (inl refl)))
