use Rattle.std.proofs.Common.{arith}
use Rattle.std.proofs.lemmas.Grind.{common_steps}
use Rattle.pm_epochs.proofs.Cuts.{stores_of_none}
use Rattle.pm_epochs.proofs.replay.Keeper.keeps.Goals as goal

-- nothing is kept after the mask, nor after the epoch's barrier
pub returns-in-None-clause-stores : goal.returns-in-None-clause-stores
returns-in-None-clause-stores c = λ rest. grind (arith, common_steps, stores_of_none rest)

pub returns-else-self-gt0-2-clause-stores : goal.returns-else-self-gt0-2-clause-stores
returns-else-self-gt0-2-clause-stores c = λ rest. grind (arith, common_steps, stores_of_none rest)
