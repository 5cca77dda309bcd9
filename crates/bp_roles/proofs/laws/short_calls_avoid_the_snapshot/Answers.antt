use Rattle.bp_roles.proofs.Short.{short_avoids_snapshot}
use Rattle.bp_roles.proofs.laws.short_calls_avoid_the_snapshot.Goals as goal

pub returns : goal.returns
returns c = short_avoids_snapshot
