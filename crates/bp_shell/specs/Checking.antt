-- The result of `check FILE`, and its conditions.
use Rattle.std.specs.Prelude.{◌≡◌, ℕ, List}
use Rattle.bp_io.specs.Views.{Known}
use Rattle.bp_layout.specs.Whole.{HasSpace}
use Rattle.bp_layout.specs.Words.{Image}
use Rattle.bp_roles.specs.Mounted.{by_roles}
use Rattle.bp_layout.specs.Totals.{HasTotals}
use Rattle.bp_layout.specs.declared.totals.Totals.{Totals}
use Rattle.bp_script.specs.Sayings.{notice_text}
use Rattle.bp_script.specs.declared.notices.Notice.{Notice}
use Rattle.bp_script.specs.declared.notices.Notice.TheVariants.{Clean}
use Rattle.bp_shell.specs.Ending.{ReadOutcome}
use Rattle.bp_shell.specs.Opening.{HoldsFileSystem}
use Rattle.bp_shell.specs.declared.status.Status.{Status}
use Rattle.bp_session.specs.Outside.{Outside}

-- The line has the totals of this image, and the number of its free blocks.
pub record IsClean (image : Image) (notice : Notice) : Type 0 where
  pub totals : Totals
  pub free : ℕ
  pub holds : HasTotals image totals
  pub leaves : HasSpace image free
  pub line : notice ≡ Clean totals.files totals.dirs totals.bytes totals.live free

-- FILE holds a file system, and the line has its totals, as a mount sees them.
pub record Checks (known : Known) (notice : Notice) : Type 0 where
  pub image : Image
  pub found : HoldsFileSystem known image
  pub clean : IsClean (by_roles image) notice

-- FILE holds a file system, and the text is the line with its totals.
pub record ChecksBy (known : Known) (text : List ℕ) : Type 0 where
  pub notice : Notice
  pub checks : Checks known notice
  pub reported : text ≡ notice_text notice

-- The result of `check FILE`, and its conditions.
abbrev pub CheckOutcome : Status → Outside → Outside → Type 0
CheckOutcome answer before after = ReadOutcome (ChecksBy before.file) answer before after
