-- Why a program ends before it serves or reports on its file.
use Rattle.std.specs.Prelude.{◌≡◌, ℕ, IfErr, OnOk, Result}
use Rattle.bp_io.specs.Causes.{Rose}
use Rattle.bp_io.specs.Views.{Known}
use Rattle.bp_layout.specs.Checks.{number_of}
use Rattle.bp_scan.specs.declared.fault.MountFault.{MountFault}
use Rattle.bp_scan.specs.declared.fault.MountFault.TheVariants as fault
use Rattle.bp_script.specs.declared.notices.Notice.{Notice}
use Rattle.bp_script.specs.declared.notices.Notice.TheVariants.{NotFormatted, BadSize, Damaged}
use Rattle.bp_session.specs.Files.{IsAbsent}
use Rattle.bp_shell.specs.Opening.{RefusesFile}
use Rattle.bp_shell.specs.declared.stop.Stop.{Stop}
use Rattle.bp_shell.specs.declared.stop.Stop.TheVariants.{Missing, Outside, Refused, Memory}

-- The reason that comes from a fault of the image: the file is refused, or allocation failed.
abbrev pub stop_by : MountFault → Stop
stop_by fault.NotFormatted = Refused NotFormatted
stop_by (fault.BadSize found wanted) = Refused (BadSize found wanted)
stop_by (fault.Damaged check place) = Refused (Damaged (number_of check) place)
stop_by fault.Memory = Memory

-- The reason is true: the file does not exist where the reason is `Missing`, and is refused with this line where it
-- is `Refused`.
pub record IsReason (known : Known) (stop : Stop) : Type 0 where
  pub missing : stop ≡ Missing → IsAbsent known
  pub refused : (notice : Notice) → stop ≡ Refused notice → RefusesFile known notice

-- The files failed exactly where they are the reason.
pub record HasStopCause {T : Type 0} (before now : ℕ) (result : Result T Stop) : Type 0 where
  pub same : OnOk result (now ≡ before)
  pub failed : IfErr result (λ stop. stop ≡ Outside → Rose before now)
  pub others : IfErr result (λ stop. ¬ (stop ≡ Outside) → now ≡ before)
