-- The results of programs, stated of the source, the sink and the files that they get, before and after.
use Rattle.std.specs.Prelude.{◌≡◌, ◌⊎◌, ℕ, List, map}
use Rattle.std.specs.Borrow.{Bor}
use Rattle.bp_command.specs.Programs.{Asks, Program}
use Rattle.bp_io.specs.Views.{View, SinkView, SourceView}
use Rattle.bp_layout.specs.Words.{Image}
use Rattle.bp_script.specs.Sayings.{notice_text}
use Rattle.bp_script.specs.declared.notices.Notice.TheVariants.{Usage}
use Rattle.bp_session.specs.Outside.{Outside, outside}
use Rattle.bp_session.specs.Faults.{Prints}
use Rattle.bp_shell.specs.Running.{IsMountedFrom, ProgramOutcome, RunOutcome, RunsProgram, file_name}
use Rattle.bp_shell.specs.declared.status.Status.{Status}
use Rattle.bp_shell.specs.declared.status.Status.TheVariants as status
use Rattle.pm_region.specs.Memory.{Memory}

-- The texts of borrowed arguments.
abbrev pub texts_of : List (Bor (List ℕ)) → List (List ℕ)
texts_of words = map (λ (word : Bor (List ℕ)). word.now) words

-- ---- a source that is read

-- A program ends so, stated of the views of source, sink and files before and after. FILE is the file of this name.
abbrev pub EndsAs : {S K F : Type 0} → (Outside → Outside → Type 0) → List ℕ → (S → SourceView) → (K → SinkView) → (F → View)
    → S → K → F → S → K → F → Type 0
EndsAs Ends name source_of sink_of files_of source sink files source_now sink_now files_now =
    Ends (outside (source_of source) (sink_of sink) (files_of files) name)
    (outside (source_of source_now) (sink_of sink_now) (files_of files_now) name)

-- The result of `run` over a file system, from whichever file it was mounted.
abbrev pub RunsMounted : {S K F : Type 0} → Status → (S → SourceView) → (K → SinkView) → (F → View)
    → S → K → F → Memory → S → K → F → Type 0
RunsMounted answer source_of sink_of files_of source sink files memory source_now sink_now files_now =
    (before : View) (name : List ℕ) (image : Image) → IsMountedFrom name image before (files_of files) memory
    → RunOutcome answer (outside (source_of source) (sink_of sink) before name)
    (outside (source_of source_now) (sink_of sink_now) (files_of files_now) name)

-- The result of a program.
abbrev pub ProgramEnds : {S K F : Type 0} → Program → Status → (S → SourceView) → (K → SinkView) → (F → View)
    → S → K → F → S → K → F → Type 0
ProgramEnds program answer source_of sink_of files_of source sink files source_now sink_now files_now =
    EndsAs (ProgramOutcome program answer) (file_name program) source_of sink_of files_of
    source sink files source_now sink_now files_now

-- The result of the program for which these arguments ask in the plain form.
abbrev pub AnswersAsAsked : {S K F : Type 0} → List (List ℕ) → Status → (S → SourceView) → (K → SinkView) → (F → View)
    → S → K → F → S → K → F → Type 0
AnswersAsAsked words answer source_of sink_of files_of source sink files source_now sink_now files_now =
    (program : Program) → Asks words program
    → ProgramEnds program answer source_of sink_of files_of source sink files source_now sink_now files_now

-- Unless the result is `Usage`, the arguments ask for a program, and this is its result; or allocation failed before
-- they were read, and nothing changed.
abbrev pub AnswersIfTaken : {S K F : Type 0} → List (List ℕ) → Status → (S → SourceView) → (K → SinkView) → (F → View)
    → S → K → F → S → K → F → Type 0
AnswersIfTaken words answer source_of sink_of files_of source sink files source_now sink_now files_now =
    ¬ (answer ≡ status.Usage)
    → RunsProgram words answer (λ name. outside (source_of source) (sink_of sink) (files_of files) name)
    (λ name. outside (source_of source_now) (sink_of sink_now) (files_of files_now) name)
    ⊎ ((answer ≡ status.Memory) × (source_now ≡ source) × (sink_now ≡ sink) × (files_now ≡ files))

-- The usage line is printed, as far as the sink takes it.
abbrev pub PrintsUsage : SinkView → SinkView → Type 0
PrintsUsage sink sink_now = Prints (notice_text Usage) sink.taken sink_now.taken sink.faults sink_now.faults

-- ---- no source

-- A program ends so, whatever bytes a source has left. FILE is the file of this name.
abbrev pub EndsUnread : (Outside → Outside → Type 0) → List ℕ → SinkView → View → SinkView → View → Type 0
EndsUnread Ends name sink files sink_now files_now =
    (source : SourceView) → Ends (outside source sink files name) (outside source sink_now files_now name)
