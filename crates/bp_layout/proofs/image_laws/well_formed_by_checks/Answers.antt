use Rattle.bp_layout.proofs.ChecksLaws.{none_fails}
use Rattle.bp_layout.proofs.ChecksSuffice.{checks_suffice}
use Rattle.bp_layout.proofs.image_laws.well_formed_by_checks.Goals as goal

pub returns : goal.returns
returns c = (
  λ wf. (wf.formatted, record { none = none_fails c.args.image.now wf }),
  λ both. checks_suffice c.args.image.now both.1 both.0,
)
