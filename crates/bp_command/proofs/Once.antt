-- Words ask for at most one program.
use Rattle.std.proofs.Common.{◌≡◌, ℕ, List, Some, refl, sym, ◌∙◌, ap, ap₂, subst}
use Rattle.std.specs.Prelude.{codes}
use Rattle.std.specs.Str.Parse.{digits_value, without_leading_plus}
use Rattle.clap.specs.Words.{Row, Text}
use Rattle.bp_limits.specs.Numbers.{version_numbered}
use Rattle.bp_limits.specs.declared.version.Version.{Version}
use Rattle.bp_command.specs.Programs.{AsksForVersion, GivesNumber, Names, Program, Requests}
use Rattle.bp_command.specs.Programs.Program.{formats, runs, checks, plays, exports}
use Rattle.bp_command.proofs.Apart.{apart}

inside : {A : Type 0} {x y : A} → Some x ≡ Some y → x ≡ y
inside e = cc

-- values name one program
module _ (rows : List Row) where
  number_once : (option : Text) (least most n k : ℕ) → GivesNumber option least most rows n → GivesNumber option least most rows k → k ≡ n
  number_once option least most n k first second = sym second.value ∙ ap (λ (t : Text). digits_value 10 (without_leading_plus t)) (inside (sym second.given ∙ first.given)) ∙ first.value

  version_once : (v w : Version) → AsksForVersion rows v → AsksForVersion rows w → w ≡ v
  version_once v w first second = second.is ∙ ap version_numbered (number_once _ _ _ _ _ first.gives second.gives) ∙ sym first.is

  named_once : (verb : Text) (program other : Program) → Names verb rows program → Names verb rows other → other ≡ program
  named_once verb (formats n b v) (formats m c w) first second =
      ap (λ (name : Text). formats name c w) (inside (sym second.1 ∙ first.1)) ∙ ap₂ (formats n) (number_once _ _ _ _ _ first.2 second.2) (version_once _ _ first.3 second.3)
  named_once verb (formats n b v) (runs m) first second = absurd (apart (codes "format") (codes "run") refl (sym first.0 ∙ second.0))
  named_once verb (formats n b v) (checks m) first second = absurd (apart (codes "format") (codes "check") refl (sym first.0 ∙ second.0))
  named_once verb (formats n b v) (plays m s c) first second = absurd (apart (codes "format") (codes "play") refl (sym first.0 ∙ second.0))
  named_once verb (formats n b v) (exports m) first second = absurd (apart (codes "format") (codes "export") refl (sym first.0 ∙ second.0))
  named_once verb (runs n) (runs m) first second = ap runs (inside (sym second.1 ∙ first.1))
  named_once verb (runs n) (formats m c w) first second = absurd (apart (codes "run") (codes "format") refl (sym first.0 ∙ second.0))
  named_once verb (runs n) (checks m) first second = absurd (apart (codes "run") (codes "check") refl (sym first.0 ∙ second.0))
  named_once verb (runs n) (plays m s c) first second = absurd (apart (codes "run") (codes "play") refl (sym first.0 ∙ second.0))
  named_once verb (runs n) (exports m) first second = absurd (apart (codes "run") (codes "export") refl (sym first.0 ∙ second.0))
  named_once verb (checks n) (checks m) first second = ap checks (inside (sym second.1 ∙ first.1))
  named_once verb (checks n) (formats m c w) first second = absurd (apart (codes "check") (codes "format") refl (sym first.0 ∙ second.0))
  named_once verb (checks n) (runs m) first second = absurd (apart (codes "check") (codes "run") refl (sym first.0 ∙ second.0))
  named_once verb (checks n) (plays m s c) first second = absurd (apart (codes "check") (codes "play") refl (sym first.0 ∙ second.0))
  named_once verb (checks n) (exports m) first second = absurd (apart (codes "check") (codes "export") refl (sym first.0 ∙ second.0))
  named_once verb (plays n s c) (plays m t d) first second =
      ap (λ (name : Text). plays name t d) (inside (sym second.1 ∙ first.1)) ∙ ap₂ (plays n) (number_once _ _ _ _ _ first.2 second.2) (number_once _ _ _ _ _ first.3 second.3)
  named_once verb (plays n s c) (formats m b w) first second = absurd (apart (codes "play") (codes "format") refl (sym first.0 ∙ second.0))
  named_once verb (plays n s c) (runs m) first second = absurd (apart (codes "play") (codes "run") refl (sym first.0 ∙ second.0))
  named_once verb (plays n s c) (checks m) first second = absurd (apart (codes "play") (codes "check") refl (sym first.0 ∙ second.0))
  named_once verb (plays n s c) (exports m) first second = absurd (apart (codes "play") (codes "export") refl (sym first.0 ∙ second.0))
  named_once verb (exports n) (exports m) first second = ap exports (inside (sym second.1 ∙ first.1))
  named_once verb (exports n) (formats m b w) first second = absurd (apart (codes "export") (codes "format") refl (sym first.0 ∙ second.0))
  named_once verb (exports n) (runs m) first second = absurd (apart (codes "export") (codes "run") refl (sym first.0 ∙ second.0))
  named_once verb (exports n) (checks m) first second = absurd (apart (codes "export") (codes "check") refl (sym first.0 ∙ second.0))
  named_once verb (exports n) (plays m s c) first second = absurd (apart (codes "export") (codes "play") refl (sym first.0 ∙ second.0))

pub requested_once : (words : List Text) (program other : Program) → Requests words program → Requests words other → other ≡ program
requested_once words program other first second =
    let same : (second.verb, second.rows) ≡ (first.verb, first.rows) = inside (sym second.is ∙ first.is) in
    let names : Names first.verb first.rows other = subst (λ (p : Text × List Row). Names p.0 p.1 other) same second.names in
    named_once first.rows first.verb program other first.names names
