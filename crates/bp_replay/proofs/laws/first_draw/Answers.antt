use Rattle.std.proofs.Common.{refl}
use Rattle.bp_replay.specs.Generator.{next_state, drawn}
use Rattle.bp_replay.proofs.laws.first_draw.Goals as goal

pub returns-clause-state : goal.returns-clause-state
unfolding next_state
returns-clause-state c = refl

pub returns-clause-drawn : goal.returns-clause-drawn
unfolding next_state drawn
returns-clause-drawn c = refl
