-- How a program ends before it serves or reports on its file, and the result of a program that only reads its file.
use Rattle.std.specs.Prelude.{Some, ◌≡◌, ◌⊎◌, ℕ, List, Option}
use Rattle.std.specs.Io.KnownBytes.{Appends}
use Rattle.bp_layout.specs.Bytes.{image_bytes}
use Rattle.bp_layout.specs.Words.{Image}
use Rattle.bp_script.specs.Sayings.{notice_text}
use Rattle.bp_script.specs.declared.notices.Notice.{Notice}
use Rattle.bp_script.specs.declared.notices.Notice.TheVariants.{NoFile}
use Rattle.bp_session.specs.Files.{AreWordsOf64Bits, IsAbsent}
use Rattle.bp_session.specs.Outside.{Outside}
use Rattle.bp_session.specs.Faults.{FilesFailed, SinkFailed, IsFirstFault, IsIdle, IsUntouched, Prints, PrintsLine}
use Rattle.bp_replies.specs.Taking.{TakesPart}
use Rattle.bp_shell.specs.Opening.{IsShortFileSystem, RefusesFile}
use Rattle.bp_shell.specs.Statuses.{IsReadStatus, broken_by, prints_line}
use Rattle.bp_shell.specs.declared.status.Status.{Status}
use Rattle.bp_shell.specs.declared.status.Status.TheVariants as status
use Rattle.bp_shell.specs.declared.stop.Stop.{Stop}
use Rattle.bp_shell.specs.declared.stop.Stop.TheVariants as stop

-- ---- at a `Stop`

-- Nothing is printed, and the sink does not fail.
abbrev pub PrintsNothing : Option (List ℕ) → Option (List ℕ) → ℕ → ℕ → Type 0
PrintsNothing taken taken_now faults faults_now = (taken_now ≡ taken) × (faults_now ≡ faults)

-- The status and the line of a program that ends for this reason.
abbrev pub PrintsStop : Stop → Status → Option (List ℕ) → Option (List ℕ) → ℕ → ℕ → Type 0
PrintsStop stop.Missing answer taken taken_now faults faults_now =
    (answer ≡ status.Missing) × Prints (notice_text NoFile) taken taken_now faults faults_now
PrintsStop stop.Outside answer taken taken_now faults faults_now =
    (answer ≡ status.FilesFailed) × PrintsNothing taken taken_now faults faults_now
PrintsStop (stop.Refused notice) answer taken taken_now faults faults_now =
    (answer ≡ status.Refused) × Prints (notice_text notice) taken taken_now faults faults_now
PrintsStop stop.Memory answer taken taken_now faults faults_now =
    (answer ≡ status.Memory) × PrintsNothing taken taken_now faults faults_now

-- The common results of `run`, `check` and `play` before the source is read: FILE does not exist (`Missing`), is
-- refused (`Refused`), or memory is lacking (`Memory`). The first fault ends the program.
pub record StopOutcome (answer : Status) (before after : Outside) : Type 0 where
  pub missing : answer ≡ status.Missing → IsAbsent before.file × IsUntouched before after × PrintsLine NoFile before after
  pub refused : answer ≡ status.Refused → (notice : Notice) × RefusesFile before.file notice × IsUntouched before after
      × PrintsLine notice before after
  pub memory : answer ≡ status.Memory → IsIdle before after
  pub first : IsFirstFault (broken_by answer) (prints_line answer) before.faults after.faults

-- ---- a program that only reads FILE

-- If FILE is known to have the bytes of a file system of at most `max_file_blocks` blocks, and neither sink nor files
-- fail, the result is `Done` or `Memory`.
abbrev pub IsReadComplete : Status → Outside → Outside → Type 0
IsReadComplete answer before after =
    (image : Image) → before.file ≡ Some (Some (image_bytes image)) → AreWordsOf64Bits image
    → IsShortFileSystem image → ¬ SinkFailed before after → ¬ FilesFailed before after
    → (answer ≡ status.Done) ⊎ (answer ≡ status.Memory)

-- The results of `check` and `play`, and their conditions. They print a text of this kind, read no input, and leave
-- FILE unchanged.
pub record ReadOutcome (Reports : List ℕ → Type 0) (answer : Status) (before after : Outside) : Type 0 where
  pub whole : answer ≡ status.Done → (text : List ℕ) × Reports text × Appends before.taken after.taken text
  pub sink : answer ≡ status.SinkFailed → (text : List ℕ) × Reports text × TakesPart text before.taken after.taken
  pub files : answer ≡ status.FilesFailed → IsIdle before after
  pub stops : StopOutcome answer before after
  pub untouched : IsUntouched before after
  pub flushed : after.is_flushed ≡ before.is_flushed
  pub complete : IsReadComplete answer before after
  pub one_of : IsReadStatus answer
