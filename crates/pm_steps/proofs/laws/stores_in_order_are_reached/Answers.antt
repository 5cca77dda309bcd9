use Rattle.pm_steps.proofs.Reaching.{reached_in_log_order}
use Rattle.pm_steps.proofs.laws.stores_in_order_are_reached.Goals as goal

pub returns : goal.returns
returns c = reached_in_log_order
