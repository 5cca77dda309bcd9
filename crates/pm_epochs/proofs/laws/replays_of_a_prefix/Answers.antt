use Rattle.pm_epochs.proofs.CrashLaws.{replay_of_prefix}
use Rattle.pm_epochs.proofs.laws.replays_of_a_prefix.Goals as goal

pub returns : goal.returns
returns c = replay_of_prefix
