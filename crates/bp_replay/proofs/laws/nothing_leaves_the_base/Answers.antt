use Rattle.bp_replay.proofs.Ends.{replay_nothing}
use Rattle.bp_replay.proofs.laws.nothing_leaves_the_base.Goals as goal

pub returns-clause-words : goal.returns-clause-words
returns-clause-words c = replay_nothing
