use Rattle.std.proofs.Common.{sym, ◌∙◌}
use Rattle.std.proofs.lemmas.Slice.Eq.{bytes_eq-Decides}
use Rattle.bp_path.proofs.BesideLaws.{same_prefix}
use Rattle.bp_path.proofs.path.Path.is_beside.Goals as goal

pub returns-clause-reported : goal.returns-clause-reported
returns-clause-reported c = λ beside.
    c.eq.ensures
    ∙ (bytes_eq-Decides c.split_last.result.0.now c.split_last-2.result.0.now).1
    (same_prefix c.args.self.now c.args.other.now c.split_last.result.0.now c.split_last-2.result.0.now c.split_last.result.1.now c.split_last-2.result.1.now
    (sym c.text.ensures.names ∙ c.split_last.ensures.split) (sym c.text-2.ensures.names ∙ c.split_last-2.ensures.split) beside)
