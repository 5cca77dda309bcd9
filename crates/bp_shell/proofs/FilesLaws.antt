-- What a run leaves of the files.
use Rattle.std.proofs.Common.{sym, ◌∙◌, ◌≡◌, ℕ, List, true, inl, inr}
use Rattle.bp_io.specs.Files.{KeepsFiles, KeepsOthers, StaysAttached}
use Rattle.bp_io.specs.Views.{View}
use Rattle.bp_io.specs.declared.access.Access.TheVariants.{Write}
use Rattle.bp_command.specs.Programs.{Program}
use Rattle.bp_command.specs.Programs.Program.{formats, runs, checks, plays, exports}
use Rattle.bp_session.proofs.OthersLaws.{stays_same, stays_stays}
use Rattle.bp_session.proofs.SavingLaws.{still_attached}
use Rattle.bp_shell.specs.Opening.{AttachesAs, OnlyReads}
use Rattle.bp_shell.specs.Running.{LeavesFiles, OnlyWrites}

-- nothing was done but to open FILE
pub only_opened : (name : List ℕ) (old new : View) → AttachesAs Write name old new → KeepsFiles old new → OnlyWrites name old new
only_opened name old new (inl at) kept = inl (record { attached = at.0; may_write = at.1; others = λ other is. kept other })
only_opened name old new (inr stays) kept = inr (stays, kept)

module _ (name : List ℕ) (old opened new : View) (kept : KeepsFiles old opened) (attached : opened.is_attached name ≡ true) (may_write : opened.may_write ≡ true) where
  -- FILE was written
  pub only_written : StaysAttached opened new → KeepsOthers opened new → OnlyWrites name old new
  only_written stays others = inl (record {
    attached = stays.attached name ∙ attached;
    may_write = stays.may_write ∙ may_write;
    others = λ other is. stays_stays (old.contents other) (opened.contents other) (new.contents other) (kept other) (others other (sym (stays.attached other) ∙ is));
  })

-- nothing was done
only_read : (name : List ℕ) (files : View) → OnlyReads name files files
only_read name files = record { kept = λ other. stays_same (files.contents other); attached = inr (still_attached files) }

pub leaves_as_are : (program : Program) (files : View) → LeavesFiles program files files
leaves_as_are (formats name blocks version) files = inr (still_attached files, λ other. inl (stays_same (files.contents other)))
leaves_as_are (runs name) files = inr (still_attached files, λ other. stays_same (files.contents other))
leaves_as_are (checks name) files = only_read name files
leaves_as_are (plays name seed count) files = only_read name files
leaves_as_are (exports name) files = only_read name files
