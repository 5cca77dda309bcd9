use Rattle.bp_plain.proofs.Walked.{map_walked}
use Rattle.bp_plain.proofs.laws.trees_are_walked.Goals as goal

pub returns : goal.returns
returns c = λ map is. map_walked map is
