use Rattle.bp_layout.proofs.BothTrees.{checks_suffice_whole, none_fails_whole}
use Rattle.bp_layout.proofs.image_laws.file_system_by_checks.Goals as goal

pub returns : goal.returns
returns c = (
  λ is. (is.first.formatted, record { none = none_fails_whole c.args.image.now is }),
  λ both. checks_suffice_whole c.args.image.now both.1 both.0,
)
