use Rattle.bp_calls.proofs.FreeCounts.{no_free}
use Rattle.bp_calls.proofs.laws.set_has_the_free.Goals as goal

pub returns-clause-none : goal.returns-clause-none
returns-clause-none c = λ in_snapshot exact none. no_free c.args.image.now in_snapshot c.args.blocks.now exact none
