use Rattle.pm_cores.proofs.Replays.{choice_right, choice_replays}
use Rattle.pm_cores.proofs.laws.a_choice_leaves_the_memory.Goals as goal

pub returns-clause-right : goal.returns-clause-right
returns-clause-right c = λ caches events moment coherent within played. choice_right caches coherent events moment within played

pub returns-clause-replay : goal.returns-clause-replay
returns-clause-replay c = λ base caches events moment coherent within played. choice_replays caches coherent events moment within played base
