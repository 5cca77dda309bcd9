-- How a failure of the source, the sink or the files shows, and what a run that did nothing leaves.
use Rattle.std.specs.Prelude.{◌≡◌, ℕ, Bool, false, List, take, Option, Some}
use Rattle.std.specs.Io.KnownBytes.{Appends}
use Rattle.bp_io.specs.Causes.{Rose}
use Rattle.bp_script.specs.Sayings.{notice_text}
use Rattle.bp_script.specs.declared.notices.Notice.{Notice}
use Rattle.bp_session.specs.Outside.{Faults, Outside}
use Rattle.bp_session.specs.declared.broken.Broken.{Broken}
use Rattle.bp_session.specs.declared.broken.Broken.TheVariants as cause

abbrev pub SourceFailed : Outside → Outside → Type 0
SourceFailed before after = Rose before.faults.source after.faults.source

abbrev pub SinkFailed : Outside → Outside → Type 0
SinkFailed before after = Rose before.faults.sink after.faults.sink

abbrev pub FilesFailed : Outside → Outside → Type 0
FilesFailed before after = Rose before.faults.files after.faults.files

-- The first fault ends the program, and the end records it. Source and files failed exactly if they are the cause;
-- the sink failed if it is the cause, and otherwise at most while the line of another end was printed.
pub record IsFirstFault (ended : Option Broken) (prints_line : Bool) (before after : Faults) : Type 0 where
  pub source : ended ≡ Some cause.Source → Rose before.source after.source
  pub sink : ended ≡ Some cause.Sink → Rose before.sink after.sink
  pub files : ended ≡ Some cause.Files → Rose before.files after.files
  pub no_source : ¬ (ended ≡ Some cause.Source) → after.source ≡ before.source
  pub no_sink : prints_line ≡ false → ¬ (ended ≡ Some cause.Sink) → after.sink ≡ before.sink
  pub no_files : ¬ (ended ≡ Some cause.Files) → after.files ≡ before.files

-- No byte was read, and FILE is unchanged.
pub record IsUntouched (before after : Outside) : Type 0 where
  pub left : after.left ≡ before.left
  pub file : after.file ≡ before.file

-- No byte was read, FILE is unchanged, and nothing was printed.
pub record IsIdle (before after : Outside) : Type 0 where
  pub untouched : IsUntouched before after
  pub taken : after.taken ≡ before.taken

-- A sink took a prefix of a text, and all of it if the sink did not fail.
pub record Prints (text : List ℕ) (taken taken_now : Option (List ℕ)) (faults faults_now : ℕ) : Type 0 where
  pub some : (count : ℕ) × Appends taken taken_now (take count text)
  pub all : ¬ Rose faults faults_now → Appends taken taken_now text

abbrev pub PrintsLine : Notice → Outside → Outside → Type 0
PrintsLine notice before after =
    Prints (notice_text notice) before.taken after.taken before.faults.sink after.faults.sink
