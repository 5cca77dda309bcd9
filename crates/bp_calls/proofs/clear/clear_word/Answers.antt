use Rattle.bp_read.proofs.OneStore.{stored_here}
use Rattle.bp_calls.proofs.clear.clear_word.Goals as goal

pub returns-then-load-ne0-clause-cleared : goal.returns-then-load-ne0-clause-cleared
returns-then-load-ne0-clause-cleared g c =
    stored_here (g.R.Region.memory c.args.region.now) (g.R.Region.memory c.store.new.self) c.args.at 0 c.store.ensures c.requires.in_range
