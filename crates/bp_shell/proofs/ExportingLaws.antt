-- What an export of a file answers.
use Rattle.std.proofs.Common.{refl, sym, ap, subst, arith, ◌≡◌, ◌+◌, ◌<◌, ℕ, Bool, true, false, true≢false, List, length, inl, inr}
use Rattle.std.specs.Prelude.{Option, Result, Ok, Err, ◌⊎◌}
use Rattle.std.specs.Io.KnownBytes.{Appends}
use Rattle.std.proofs.Math.Nat.{lt_of_not-le}
use Rattle.bp_export.specs.Exports.{EndsExport}
use Rattle.bp_export.specs.declared.fault.Fault.{Fault}
use Rattle.bp_export.specs.declared.fault.Fault.TheVariants as fault
use Rattle.bp_io.specs.Causes.{Rose}
use Rattle.bp_io.specs.Views.{SinkView}
use Rattle.bp_layout.specs.Whole.{IsFileSystem}
use Rattle.bp_layout.specs.Words.{Image}
use Rattle.bp_limits.specs.CallLimits.{max_path}
use Rattle.bp_plain.specs.Export.{HasShortPaths, path_text}
use Rattle.bp_plain.specs.PlainTree.{FileTree}
use Rattle.bp_plain.specs.Stands.{Stands}
use Rattle.bp_plain.proofs.Existence.{stands_for, tree_of}
use Rattle.bp_replies.specs.Taking.{TakesPart}
use Rattle.bp_script.specs.Sayings.{notice_text}
use Rattle.bp_script.specs.declared.notices.Notice.{Notice}
use Rattle.bp_script.specs.declared.notices.Notice.TheVariants.{NoFile, Deep}
use Rattle.bp_session.specs.Files.{IsAbsent}
use Rattle.bp_session.specs.Outside.{Outside}
use Rattle.bp_session.specs.Faults.{FilesFailed, IsFirstFault, IsIdle, IsUntouched, Prints, SinkFailed, PrintsLine}
use Rattle.bp_session.proofs.OutcomeLaws.{line_fault, quiet, sink_fault}
use Rattle.bp_shell.specs.Ending.{PrintsStop}
use Rattle.bp_shell.specs.Exporting.{ExportOutcome, Exports, ExportsPrefix, HoldsDeep, HoldsTree, IsExportComplete, PrintsTree}
use Rattle.bp_shell.specs.Opening.{RefusesFile}
use Rattle.bp_shell.specs.Statuses.{IsExportStatus, broken_by, prints_line}
use Rattle.bp_shell.specs.Stops.{IsReason}
use Rattle.bp_shell.specs.declared.status.Status.{Status}
use Rattle.bp_shell.specs.declared.status.Status.TheVariants as status
use Rattle.bp_shell.specs.declared.stop.Stop.{Stop}
use Rattle.bp_shell.specs.declared.stop.Stop.TheVariants as s
use Rattle.bp_shell.proofs.EndingLaws.{memory_reason, never_among, stop_idle, stop_outcome, stop_statuses}
use Rattle.bp_shell.proofs.OpeningLaws.{if_memory}
use Rattle.bp_shell.proofs.RunningLaws.{not_refused}

-- ---- a tree

-- paths are short where they aren't found to be long
short_of : (tree : FileTree) → ((¬ HasShortPaths tree) → ⊥) → HasShortPaths tree
short_of tree never path node there =
    let few : length (path_text path) < max_path + 1 = lt_of_not-le (λ long. never (λ short. omega (arith, long, short path node there))) in
    omega (arith, few)

-- which way an export ended
abbrev is_done : {T : Type 0} → Result T Fault → Bool
is_done (Ok done) = true
is_done (Err why) = false

abbrev is_deep : {T : Type 0} → Result T Fault → Bool
is_deep (Err fault.Deep) = true
is_deep other = false

abbrev is_broken : {T : Type 0} → Result T Fault → Bool
is_broken (Err fault.Sink) = true
is_broken other = false

module _ (tree : FileTree) (t u : SinkView) where
  pub reports_all : {T : Type 0} (done : T) → EndsExport tree (Ok done) t u → PrintsTree tree status.Done t.taken u.taken t.faults u.faults
  reports_all done ends = (
    short_of tree (λ deep. true≢false (ap is_done (ends.deep.1 deep))),
    ends.all,
    ends.same (λ e. true≢false (ap is_done e)),
  )

  pub reports_prefix : {T : Type 0} → EndsExport {T = T} tree (Err fault.Memory) t u → PrintsTree tree status.Memory t.taken u.taken t.faults u.faults
  reports_prefix ends = (
    short_of tree (λ deep. true≢false (sym (ap is_deep (ends.deep.1 deep)))),
    ends.some refl,
    ends.same (λ e. true≢false (sym (ap is_broken e))),
  )

  pub reports_part : {T : Type 0} → EndsExport {T = T} tree (Err fault.Sink) t u → PrintsTree tree status.SinkFailed t.taken u.taken t.faults u.faults
  reports_part ends = (
    short_of tree (λ deep. true≢false (sym (ap is_deep (ends.deep.1 deep)))),
    ends.part refl,
    ends.cause refl,
  )

  -- nothing was reported before the line
  pub reports_deep : {T : Type 0} (v : SinkView) → EndsExport {T = T} tree (Err fault.Deep) t u → Prints (notice_text Deep) u.taken v.taken u.faults v.faults → PrintsTree tree status.Deep t.taken v.taken t.faults v.faults
  reports_deep v ends prints =
      let unreported = ends.unreported refl in
      let same = ends.same (λ e. true≢false (sym (ap is_broken e))) in
      (ends.deep.0 refl, subst (λ (w : Option (List ℕ)). Prints (notice_text Deep) w v.taken t.faults v.faults) unreported (subst (λ (j : ℕ). Prints (notice_text Deep) u.taken v.taken j v.faults) same prints))

-- ---- a file

-- a file system stands for a tree
pub stands_for_tree : (image : Image) → IsFileSystem image → (tree : FileTree) × Stands image tree
stands_for_tree image whole = (tree_of image whole.first whole.second, stands_for image whole.first whole.second)

export_complete : (answer : Status) (before after : Outside) → (answer ≡ status.Missing → IsAbsent before.file) → (answer ≡ status.SinkFailed → SinkFailed before after) → (answer ≡ status.FilesFailed → FilesFailed before after) → (answer ≡ status.Refused → (notice : Notice) × RefusesFile before.file notice)
    → IsExportStatus answer → IsExportComplete answer before after
export_complete answer before after missing sink files refused among image held words well no_sink no_files = elim among [
  | inl e ↦ inl e
  | inr (inl e) ↦ absurd (rw held at (missing e))
  | inr (inr (inl e)) ↦ absurd (no_sink (sink e))
  | inr (inr (inr (inl e))) ↦ absurd (no_files (files e))
  | inr (inr (inr (inr (inl e)))) ↦ let why = refused e in absurd (not_refused image why.0 words well (rw held at why.1))
  | inr (inr (inr (inr (inr (inl e))))) ↦ inr (inl e)
  | inr (inr (inr (inr (inr (inr e))))) ↦ inr (inr e)
]

module _ (before after : Outside) (untouched : IsUntouched before after) (flushed : after.is_flushed ≡ before.is_flushed) (source : after.faults.source ≡ before.faults.source) where
  outcome : (answer : Status) → (answer ≡ status.Done → (text : List ℕ) × Exports before.file text × Appends before.taken after.taken text) → (answer ≡ status.Missing → IsAbsent before.file × PrintsLine NoFile before after)
      → (answer ≡ status.SinkFailed → (text : List ℕ) × Exports before.file text × TakesPart text before.taken after.taken) → (answer ≡ status.FilesFailed → IsIdle before after) → (answer ≡ status.Refused → (notice : Notice) × RefusesFile before.file notice × PrintsLine notice before after)
      → (answer ≡ status.Memory → IsIdle before after ⊎ ExportsPrefix before after) → (answer ≡ status.Deep → HoldsDeep before.file × PrintsLine Deep before after) → IsFirstFault (broken_by answer) (prints_line answer) before.faults after.faults → IsExportStatus answer → ExportOutcome answer before after
  outcome answer whole missing sink files refused memory deep first among = record {
    whole = whole;
    missing = missing;
    sink = sink;
    files = files;
    refused = refused;
    memory = memory;
    deep = deep;
    untouched = untouched;
    flushed = flushed;
    first = first;
    complete = export_complete answer before after (λ e. (missing e).0) (λ e. first.sink (ap broken_by e)) (λ e. first.files (ap broken_by e)) (λ e. let why = refused e in (why.0, why.1)) among;
    one_of = among;
  }

  -- before the tree is reported
  pub export_stopped : (stop : Stop) (answer : Status) → IsReason before.file stop → (stop ≡ s.Outside → Rose before.faults.files after.faults.files) → (¬ (stop ≡ s.Outside) → after.faults.files ≡ before.faults.files)
      → PrintsStop stop answer before.taken after.taken before.faults.sink after.faults.sink → ExportOutcome answer before after
  export_stopped stop answer reason failed same reported =
      let among = stop_statuses stop answer _ _ _ _ reported in
      let stops = stop_outcome before after untouched source stop answer reason failed same reported in
      let never = λ (other : Status). never_among answer other among in
      outcome answer
      (λ e. absurd (never status.Done (λ z. cc) (λ z. cc) (λ z. cc) (λ z. cc) e))
      (λ e. let why = stops.missing e in (why.0, why.2))
      (λ e. absurd (never status.SinkFailed (λ z. cc) (λ z. cc) (λ z. cc) (λ z. cc) e))
      (stop_idle before after untouched source stop answer reported)
      (λ e. let why = stops.refused e in (why.0, why.1, why.3))
      (λ e. inl (stops.memory e))
      (λ e. absurd (never status.Deep (λ z. cc) (λ z. cc) (λ z. cc) (λ z. cc) e))
      stops.first
      (elim among [
        | inl e ↦ inr (inl e)
        | inr (inl e) ↦ inr (inr (inr (inl e)))
        | inr (inr (inl e)) ↦ inr (inr (inr (inr (inl e))))
        | inr (inr (inr e)) ↦ inr (inr (inr (inr (inr (inl e)))))
      ])

  -- the tree was reported, or some part of it
  pub export_reported : (tree : FileTree) (answer : Status) → HoldsTree before.file tree → PrintsTree tree answer before.taken after.taken before.faults.sink after.faults.sink → after.faults.files ≡ before.faults.files → ExportOutcome answer before after
  export_reported tree status.Done holds reported files =
      outcome status.Done (λ _. (_, record { tree = tree; holds = holds; short = reported.0; reported = refl }, reported.1)) (λ e. absurd cc) (λ e. absurd cc) (λ e. absurd cc) (λ e. absurd cc)
      (λ e. absurd cc) (λ e. absurd cc) (quiet false _ _ source reported.2 files) (inl refl)
  export_reported tree status.SinkFailed holds reported files =
      outcome status.SinkFailed (λ e. absurd cc) (λ e. absurd cc) (λ _. (_, record { tree = tree; holds = holds; short = reported.0; reported = refl }, reported.1)) (λ e. absurd cc) (λ e. absurd cc)
      (λ e. absurd cc) (λ e. absurd cc) (sink_fault _ _ source reported.2 files) (inr (inr (inl refl)))
  export_reported tree status.Memory holds reported files =
      outcome status.Memory (λ e. absurd cc) (λ e. absurd cc) (λ e. absurd cc) (λ e. absurd cc) (λ e. absurd cc)
      (λ _. inr (record { text = _; exports = record { tree = tree; holds = holds; short = reported.0; reported = refl }; takes = reported.1 })) (λ e. absurd cc)
      (quiet false _ _ source reported.2 files) (inr (inr (inr (inr (inr (inl refl))))))
  export_reported tree status.Deep holds reported files =
      outcome status.Deep (λ e. absurd cc) (λ e. absurd cc) (λ e. absurd cc) (λ e. absurd cc) (λ e. absurd cc) (λ e. absurd cc)
      (λ _. (record { tree = tree; holds = holds; deep = reported.0 }, reported.1))
      (line_fault _ _ source files) (inr (inr (inr (inr (inr (inr refl))))))
  export_reported tree status.Missing holds reported files = absurd reported
  export_reported tree status.Usage holds reported files = absurd reported
  export_reported tree status.SourceFailed holds reported files = absurd reported
  export_reported tree status.FilesFailed holds reported files = absurd reported
  export_reported tree status.LongInput holds reported files = absurd reported
  export_reported tree status.Refused holds reported files = absurd reported

-- ---- before the words are read

-- want of memory
pub export_memory : (outside : Outside) → ExportOutcome status.Memory outside outside
export_memory outside =
    export_stopped outside outside (record { left = refl; file = refl }) refl refl s.Memory status.Memory (memory_reason outside.file) (λ e. absurd (if_memory _ refl e)) (λ _. refl) (refl, (refl, refl))

-- no export answers that the words are wrong
pub export_asked : (answer : Status) → IsExportStatus answer → answer ≡ status.Usage → ⊥
export_asked answer (inl z) e = cc
export_asked answer (inr (inl z)) e = cc
export_asked answer (inr (inr (inl z))) e = cc
export_asked answer (inr (inr (inr (inl z)))) e = cc
export_asked answer (inr (inr (inr (inr (inl z))))) e = cc
export_asked answer (inr (inr (inr (inr (inr (inl z)))))) e = cc
export_asked answer (inr (inr (inr (inr (inr (inr z)))))) e = cc
