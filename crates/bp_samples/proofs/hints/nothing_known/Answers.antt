use Rattle.bp_layout.proofs.HintLaws.{right-empty}
use Rattle.bp_samples.proofs.hints.nothing_known.Goals as goal

pub returns : goal.returns
returns g c image =
    let known = rw c.expect-names.ensures at c.new.ensures in
    rw known (right-empty image)
