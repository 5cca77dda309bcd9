-- Outcomes of the programs, from those of their parts.
use Rattle.std.proofs.Common.{refl, sym, ◌∙◌, ap, subst, ◌≡◌, ◌<◌, ℕ, List, length, take, inl, inr, true, false}
use Rattle.std.specs.Prelude.{None, Option, Some, ◌⊎◌}
use Rattle.std.specs.Io.KnownBytes.{Appends}
use Rattle.pm_region.specs.Memory.{Memory, current_words, drained}
use Rattle.bp_fs.specs.ByWords.{by_words}
use Rattle.bp_io.specs.Causes.{Rose}
use Rattle.bp_io.specs.Views.{View, SourceView, HasBytes}
use Rattle.bp_layout.specs.Words.{Image}
use Rattle.bp_layout.specs.Bytes.{image_bytes}
use Rattle.bp_session.specs.Files.{HasBlocksOf, Holds, HoldsAs}
use Rattle.bp_shell.specs.Formatting.{HasPartly, new_image}
use Rattle.bp_shell.specs.Opening.{HoldsFileSystem, start}
use Rattle.bp_session.specs.Outside.{Outside, counts, outside}
use Rattle.bp_session.specs.Faults.{IsIdle, IsUntouched}
use Rattle.bp_limits.specs.declared.version.Version.{Version}
use Rattle.bp_shell.specs.Running.{FormatOutcome, RunOutcome, Runs, RunsBroken, RunsLong, RunsPart, RunsStopped, RunsUnsaved, format_text}
use Rattle.bp_replies.specs.Room.{gathered_size}
use Rattle.bp_session.specs.Serving.{Carries, CarriesPartly, HoldsAt, Moment, ServeOutcome}
use Rattle.bp_session.specs.declared.broken.Broken.{Broken}
use Rattle.bp_session.specs.declared.broken.Broken.TheVariants.{Source, Sink, Files, LongInput}
use Rattle.bp_session.proofs.ChangedLaws.{holds_drained}
use Rattle.bp_session.proofs.OutcomeLaws.{files_fault, first_then, never_whole, quiet, sink_fault}
use Rattle.bp_shell.specs.Ending.{StopOutcome, PrintsStop}
use Rattle.bp_shell.specs.Statuses.{IsFormatStatus, IsReadStatus, IsRunStatus, ReadsNothing, broken_by, status_by, prints_line}
use Rattle.bp_shell.specs.Stops.{IsReason}
use Rattle.bp_shell.specs.declared.status.Status.{Status}
use Rattle.bp_shell.specs.declared.status.Status.TheVariants as status
use Rattle.bp_shell.specs.declared.stop.Stop.{Stop}
use Rattle.bp_shell.specs.declared.stop.Stop.TheVariants as s
use Rattle.bp_shell.proofs.EndingLaws.{memory_reason, never_among, no_stop, stop_idle, stop_outcome, stop_statuses}
use Rattle.bp_shell.proofs.OpeningLaws.{if_memory}
use Rattle.bp_shell.proofs.RunningLaws.{complete, runs_broken, runs_long, runs_part, runs_stopped, runs_unsaved, runs_whole}

-- ---- `run`

-- each cause by the way to which it leads, which reports no line
back : (broken : Broken) → broken_by (status_by broken) ≡ Some broken
back Source = refl
back Sink = refl
back Files = refl
back LongInput = refl

no_line : (broken : Broken) → prints_line (status_by broken) ≡ false
no_line Source = refl
no_line Sink = refl
no_line Files = refl
no_line LongInput = refl

files_by : (broken : Broken) → ◌≡◌ {A = Option Broken} (Some broken) (Some Files) → status_by broken ≡ status.FilesFailed
files_by Source e = absurd cc
files_by Sink e = absurd cc
files_by Files e = refl
files_by LongInput e = absurd cc

-- no cause that breaks serving off ends a run that reads nothing
pub broken_reads : (broken : Broken) → ReadsNothing (status_by broken) → ⊥
broken_reads Source unread = elim unread [ inl e ↦ cc | inr (inl e) ↦ cc | inr (inr (inl e)) ↦ cc | inr (inr (inr (inl e))) ↦ cc | inr (inr (inr (inr e))) ↦ cc ]
broken_reads Sink unread = elim unread [ inl e ↦ cc | inr (inl e) ↦ cc | inr (inr (inl e)) ↦ cc | inr (inr (inr (inl e))) ↦ cc | inr (inr (inr (inr e))) ↦ cc ]
broken_reads Files unread = elim unread [ inl e ↦ cc | inr (inl e) ↦ cc | inr (inr (inl e)) ↦ cc | inr (inr (inr (inl e))) ↦ cc | inr (inr (inr (inr e))) ↦ cc ]
broken_reads LongInput unread = elim unread [ inl e ↦ cc | inr (inl e) ↦ cc | inr (inr (inl e)) ↦ cc | inr (inr (inr (inl e))) ↦ cc | inr (inr (inr (inr e))) ↦ cc ]

-- each ends one as a run may end
broken_runs : (broken : Broken) → IsRunStatus (status_by broken)
broken_runs Source = inr (inr (inl refl))
broken_runs Sink = inr (inr (inr (inl refl)))
broken_runs Files = inr (inr (inr (inr (inl refl))))
broken_runs LongInput = inr (inr (inr (inr (inr (inl refl)))))

module _ (answer : Status) (before after : Outside) where
  run_outcome : (answer ≡ status.Done → Runs before after) → (answer ≡ status.SourceFailed → RunsPart before after) → (answer ≡ status.SinkFailed → RunsBroken before after)
      → (answer ≡ status.FilesFailed → IsIdle before after ⊎ RunsStopped before after ⊎ RunsUnsaved before after) → (answer ≡ status.LongInput → RunsLong before after) → StopOutcome answer before after
      → (¬ (answer ≡ status.FilesFailed) → before.is_flushed ≡ true → after.is_flushed ≡ true)
      → IsRunStatus answer → RunOutcome answer before after
  run_outcome whole source sink files long stops flushed one_of = record {
    whole = whole;
    source = source;
    sink = sink;
    files = files;
    long = long;
    stops = stops;
    flushed = flushed;
    complete = complete answer before after (λ e. (stops.missing e).0) (λ e. stops.first.source (ap broken_by e)) (λ e. stops.first.sink (ap broken_by e)) (λ e. stops.first.files (ap broken_by e)) long (λ e. let why = stops.refused e in (why.0, why.1)) one_of;
    one_of = one_of;
  }

-- before a line is read
module _ (before after : Outside) (untouched : IsUntouched before after) (flushed : after.is_flushed ≡ before.is_flushed) (source : after.faults.source ≡ before.faults.source) where
  pub run_stopped : (stop : Stop) (answer : Status) → IsReason before.file stop → (stop ≡ s.Outside → Rose before.faults.files after.faults.files) → (¬ (stop ≡ s.Outside) → after.faults.files ≡ before.faults.files)
      → PrintsStop stop answer before.taken after.taken before.faults.sink after.faults.sink → RunOutcome answer before after
  run_stopped stop answer reason failed same reported =
      let among = stop_statuses stop answer _ _ _ _ reported in
      run_outcome answer before after (λ e. absurd (never_among answer status.Done among (λ z. cc) (λ z. cc) (λ z. cc) (λ z. cc) e))
      (λ e. absurd (never_among answer status.SourceFailed among (λ z. cc) (λ z. cc) (λ z. cc) (λ z. cc) e))
      (λ e. absurd (never_among answer status.SinkFailed among (λ z. cc) (λ z. cc) (λ z. cc) (λ z. cc) e))
      (λ e. inl (stop_idle before after untouched source stop answer reported e))
      (λ e. absurd (never_among answer status.LongInput among (λ z. cc) (λ z. cc) (λ z. cc) (λ z. cc) e))
      (stop_outcome before after untouched source stop answer reason failed same reported) (λ _ e. flushed ∙ e)
      (elim among [
        | inl e ↦ inr (inl e)
        | inr (inl e) ↦ inr (inr (inr (inr (inl e))))
        | inr (inr (inl e)) ↦ inr (inr (inr (inr (inr (inr (inl e))))))
        | inr (inr (inr e)) ↦ inr (inr (inr (inr (inr (inr (inr e))))))
      ])

  pub run_memory : after.taken ≡ before.taken → after.faults.sink ≡ before.faults.sink → after.faults.files ≡ before.faults.files → RunOutcome status.Memory before after
  run_memory taken sink files = run_stopped s.Memory status.Memory (memory_reason before.file) (λ e. absurd (if_memory _ refl e)) (λ _. files) (refl, (taken, sink))

-- a file that was just read holds the words of a region whose log is empty
pub read_now : (now : Moment Memory) (name : List ℕ) (image : Image) → now.system ≡ (start image).system → Holds now.files name image → HoldsAt by_words now name image
read_now now name image same file =
    let base : now.system.base ≡ image = ap (λ (m : Memory). m.base) same in
    subst (λ (words : Image). HoldsAs now.dirty now.files words name image) (sym base) (holds_drained now.dirty now.files image name file)

-- the outside at a moment, with what is stated of the files by another
abbrev outside_at : SourceView → Moment Memory → View → List ℕ → Outside
outside_at source now files name = outside source (record { taken = now.taken; faults = now.faults }) files name

-- from the moment at which FILE is mounted
module _ (i j : SourceView) (files : View) (a b : Moment Memory) (name : List ℕ) (image : Image) (found : HoldsFileSystem (files.contents name) image) (same : a.system ≡ (start image).system) (holds : HoldsAt by_words a name image)
    (flushed : a.files.is_flushed ≡ files.is_flushed) (calm : a.files.faults ≡ files.faults) where
  pub run_served : (broken : Broken) → ServeOutcome by_words (Some broken) gathered_size i j a b → RunOutcome (status_by broken) (outside_at i a files name) (outside_at j b b.files name)
  run_served broken served =
      let before = outside_at i a files name in
      let after = outside_at j b b.files name in
      let saves = λ (k : Image) (carried : Carries by_words a b image k). (carried name holds).file.bytes in
      let is = sym (back broken) in
      let reads = λ (unread : ReadsNothing (status_by broken)). broken_reads broken unread in
      run_outcome (status_by broken) before after (λ e. absurd (never_whole broken (is ∙ ap broken_by e)))
      (λ e. let part = served.part (is ∙ ap broken_by e) in runs_part before after image a.system b.system found same part.0 part.1 (Carries by_words a b image) saves part.2 (part.3 image))
      (λ e. let reported = served.broken (is ∙ ap broken_by e) in runs_broken before after image a.system b.system found same reported.0 (Carries by_words a b image) saves reported.1
      (elim reported.2 [ inl all ↦ inl (λ rest. all rest image) | inr last ↦ inr (last.0, last.1 image) ]))
      (λ e. let stop = served.stopped (is ∙ ap broken_by e) in inr (inl (runs_stopped before after image a.system b.system found same stop.0 (CarriesPartly by_words a b image) (λ k l carried. (carried name holds).bytes) stop.1
      (elim stop.2 [ inl all ↦ inl (λ rest. (all rest).stops image) | inr last ↦ inr (last.0, last.1.stops image) ]))))
      (λ e. let long = served.long (is ∙ ap broken_by e) in runs_long before after image a.system b.system found same long.0 long.1 long.2 (Carries by_words a b image) saves long.3 long.4 long.5 long.6 (long.7 image))
      (no_stop before after (status_by broken) (λ e. reads (inl e)) (λ e. reads (inr (inr (inl e)))) (λ e. reads (inr (inr (inr (inl e)))))
      (rw (back broken, no_line broken)
      (first_then (Some broken) (counts i.faults a.faults files) (counts i.faults a.faults a.files) (counts j.faults b.faults b.files) refl refl calm served.first)))
      (λ other e. served.keeps.flushed (λ five. other (files_by broken five)) (flushed ∙ e))
      (broken_runs broken)

  -- the sync at the end saved, or couldn't
  module _ (now : View) (served : ServeOutcome by_words None gathered_size i j a b) where
    pub run_whole : HasBytes (now.contents name) (image_bytes (current_words b.system)) → now.is_flushed ≡ true → now.faults ≡ b.files.faults
        → RunOutcome status.Done (outside_at i a files name) (outside_at j b now name)
    run_whole saved done same_files =
        let before = outside_at i a files name in
        let after = outside_at j b now name in
        let all = served.whole refl in
        run_outcome status.Done before after (λ _. runs_whole before after image a.system b.system found same all.0 (Carries by_words a b image) all.1 all.2 all.3 (all.4 image) saved done)
        (λ e. absurd cc) (λ e. absurd cc) (λ e. absurd cc) (λ e. absurd cc)
        (no_stop before after status.Done (λ e. cc) (λ e. cc) (λ e. cc)
        (quiet false _ _ (served.first.no_source (λ e. cc)) (served.first.no_sink refl (λ e. cc))
        (same_files ∙ served.first.no_files (λ e. cc) ∙ calm)))
        (λ _ _. done)
        (inl refl)

    pub run_unsaved : (memory : Memory) → memory ≡ drained b.system → ((was : Image) → Holds b.files name was → HasBlocksOf (now.contents name) (image_bytes was) (image_bytes (current_words b.system))) → Rose b.files.faults now.faults
        → RunOutcome status.FilesFailed (outside_at i a files name) (outside_at j b now name)
    run_unsaved memory done partly rose =
        let before = outside_at i a files name in
        let after = outside_at j b now name in
        let all = served.whole refl in
        let reported = all.4 image in
        run_outcome status.FilesFailed before after (λ e. absurd cc) (λ e. absurd cc) (λ e. absurd cc)
        (λ _. inr (inr (runs_unsaved before after image a.system memory found same all.0 b.system (Carries by_words a b image) all.1 all.2 all.3 reported done (partly reported.after (reported.file name holds).file))))
        (λ e. absurd cc)
        (no_stop before after status.FilesFailed (λ e. cc) (λ e. cc) (λ e. cc)
        (first_then (Some Files) (counts i.faults a.faults files) (counts j.faults b.faults b.files) (counts j.faults b.faults now) (served.first.no_source (λ e. cc)) (served.first.no_sink refl (λ e. cc))
        (served.first.no_files (λ e. cc) ∙ calm) (files_fault _ _ refl refl rose)))
        (λ other. absurd (other refl))
        (inr (inr (inr (inr (inl refl)))))

-- ---- `format`

module _ (version : Version) (blocks : ℕ) (before after : Outside) (left : after.left ≡ before.left) (source : after.faults.source ≡ before.faults.source) where
  pub format_done : HasBytes after.file (image_bytes (new_image version blocks)) → Appends before.taken after.taken (format_text blocks) → after.is_flushed ≡ true → after.faults.sink ≡ before.faults.sink → after.faults.files ≡ before.faults.files → FormatOutcome status.Done version blocks before after
  format_done saved reported flushed sink files = record {
    whole = λ _. (saved, reported);
    sink = λ e. absurd cc;
    flushed = λ _. flushed;
    files = λ e. absurd cc;
    memory = λ e. absurd cc;
    unread = left;
    first = quiet false _ _ source sink files;
    one_of = inl refl;
  }

  pub format_broken : HasBytes after.file (image_bytes (new_image version blocks)) → (count : ℕ) × (count < length (format_text blocks)) × Appends before.taken after.taken (take count (format_text blocks)) → after.is_flushed ≡ true → Rose before.faults.sink after.faults.sink
      → after.faults.files ≡ before.faults.files → FormatOutcome status.SinkFailed version blocks before after
  format_broken saved broken flushed rose files = record {
    whole = λ e. absurd cc;
    sink = λ _. (saved, broken);
    flushed = λ _. flushed;
    files = λ e. absurd cc;
    memory = λ e. absurd cc;
    unread = left;
    first = sink_fault _ _ source rose files;
    one_of = inr (inl refl);
  }

  pub format_failed : HasPartly before.file (image_bytes (new_image version blocks)) after.file → after.taken ≡ before.taken → after.faults.sink ≡ before.faults.sink → Rose before.faults.files after.faults.files → FormatOutcome status.FilesFailed version blocks before after
  format_failed partly taken sink rose = record {
    whole = λ e. absurd cc;
    sink = λ e. absurd cc;
    flushed = λ e. elim e [ inl z ↦ absurd cc | inr z ↦ absurd cc ];
    files = λ _. (partly, taken);
    memory = λ e. absurd cc;
    unread = left;
    first = files_fault _ _ source sink rose;
    one_of = inr (inr (inl refl));
  }

  pub format_memory : after.file ≡ before.file → after.taken ≡ before.taken → after.faults.sink ≡ before.faults.sink → after.faults.files ≡ before.faults.files → FormatOutcome status.Memory version blocks before after
  format_memory file taken sink files = record {
    whole = λ e. absurd cc;
    sink = λ e. absurd cc;
    flushed = λ e. elim e [ inl z ↦ absurd cc | inr z ↦ absurd cc ];
    files = λ e. absurd cc;
    memory = λ _. (file, taken);
    unread = left;
    first = quiet false _ _ source sink files;
    one_of = inr (inr (inr refl));
  }

-- ---- no program answers that the words are wrong

pub format_asked : (answer : Status) → IsFormatStatus answer → answer ≡ status.Usage → ⊥
format_asked answer (inl z) e = cc
format_asked answer (inr (inl z)) e = cc
format_asked answer (inr (inr (inl z))) e = cc
format_asked answer (inr (inr (inr z))) e = cc

pub read_asked : (answer : Status) → IsReadStatus answer → answer ≡ status.Usage → ⊥
read_asked answer (inl z) e = cc
read_asked answer (inr (inl z)) e = cc
read_asked answer (inr (inr (inl z))) e = cc
read_asked answer (inr (inr (inr (inl z)))) e = cc
read_asked answer (inr (inr (inr (inr (inl z))))) e = cc
read_asked answer (inr (inr (inr (inr (inr z))))) e = cc
