-- The checks that the names of a directory fail.
use Rattle.std.specs.Prelude.{◌≡◌, ℕ}
use Rattle.bp_layout.specs.Words.{Image}
use Rattle.bp_layout.specs.declared.check.Check.{Check}
use Rattle.bp_layout.specs.declared.check.Check.TheVariants.{NameForm, NameTwice}
use Rattle.bp_spelling.specs.Names.{AreWrong}
use Rattle.bp_spelling.specs.declared.fault.NameFault.{NameFault}
use Rattle.bp_spelling.specs.declared.fault.NameFault.TheVariants.{Form, Twice}

-- The check that fails for a fault of a name. `fault_place` is the place of the word at which it fails.
abbrev pub check_of : NameFault → Check
check_of (Form place) = NameForm
check_of (Twice place) = NameTwice

abbrev pub fault_place : NameFault → ℕ
fault_place (Form place) = place
fault_place (Twice place) = place

-- The names of a directory fail this check at this word.
pub record FailsNames (image : Image) (root size : ℕ) (c : Check) (p : ℕ) : Type 0 where
  pub fault : NameFault
  pub wrong : AreWrong image root size fault
  pub check : check_of fault ≡ c
  pub place : fault_place fault ≡ p
