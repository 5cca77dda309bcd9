-- The statuses of programs: the exit status of each, the causes of some, and the statuses that each program can have.
use Rattle.std.specs.Prelude.{◌≡◌, ◌⊎◌, ℕ, Bool, true, false, Option, None, Some}
use Rattle.bp_session.specs.declared.broken.Broken.{Broken}
use Rattle.bp_session.specs.declared.broken.Broken.TheVariants as cause
use Rattle.bp_shell.specs.declared.status.Status.{Status}
use Rattle.bp_shell.specs.declared.status.Status.TheVariants.{Done, Missing, Usage, SourceFailed, SinkFailed}
use Rattle.bp_shell.specs.declared.status.Status.TheVariants.{FilesFailed, LongInput, Refused, Memory, Deep}

-- The exit status.
abbrev pub code_of : Status → ℕ
code_of Done = 0
code_of Missing = 1
code_of Usage = 2
code_of SourceFailed = 3
code_of SinkFailed = 4
code_of FilesFailed = 5
code_of LongInput = 6
code_of Refused = 7
code_of Memory = 8
code_of Deep = 9

-- The status of a run that this cause breaks off.
abbrev pub status_by : Broken → Status
status_by cause.Source = SourceFailed
status_by cause.Sink = SinkFailed
status_by cause.Files = FilesFailed
status_by cause.LongInput = LongInput

-- The cause of a status that comes from a failing device or a long input, the inverse of `status_by`.
abbrev pub broken_by : Status → Option Broken
broken_by SourceFailed = Some cause.Source
broken_by SinkFailed = Some cause.Sink
broken_by FilesFailed = Some cause.Files
broken_by LongInput = Some cause.LongInput
broken_by other = None

-- Whether a program with this status prints a line at its end that says why.
abbrev pub prints_line : Status → Bool
prints_line Missing = true
prints_line Usage = true
prints_line Refused = true
prints_line Deep = true
prints_line other = false

-- No byte of the source is read with this status.
abbrev pub ReadsNothing : Status → Type 0
ReadsNothing answer =
    (answer ≡ Missing) ⊎ (answer ≡ Usage) ⊎ (answer ≡ Refused) ⊎ (answer ≡ Memory) ⊎ (answer ≡ Deep)

-- ---- the statuses of each program

abbrev pub IsFormatStatus : Status → Type 0
IsFormatStatus answer = (answer ≡ Done) ⊎ (answer ≡ SinkFailed) ⊎ (answer ≡ FilesFailed) ⊎ (answer ≡ Memory)

abbrev pub IsRunStatus : Status → Type 0
IsRunStatus answer =
    (answer ≡ Done) ⊎ (answer ≡ Missing) ⊎ (answer ≡ SourceFailed) ⊎ (answer ≡ SinkFailed) ⊎ (answer ≡ FilesFailed)
    ⊎ (answer ≡ LongInput) ⊎ (answer ≡ Refused) ⊎ (answer ≡ Memory)

-- The statuses of `check` and `play`.
abbrev pub IsReadStatus : Status → Type 0
IsReadStatus answer =
    (answer ≡ Done) ⊎ (answer ≡ Missing) ⊎ (answer ≡ SinkFailed) ⊎ (answer ≡ FilesFailed) ⊎ (answer ≡ Refused)
    ⊎ (answer ≡ Memory)

abbrev pub IsExportStatus : Status → Type 0
IsExportStatus answer =
    (answer ≡ Done) ⊎ (answer ≡ Missing) ⊎ (answer ≡ SinkFailed) ⊎ (answer ≡ FilesFailed) ⊎ (answer ≡ Refused)
    ⊎ (answer ≡ Memory) ⊎ (answer ≡ Deep)
