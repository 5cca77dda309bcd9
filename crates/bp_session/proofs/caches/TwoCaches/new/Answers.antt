use Rattle.std.proofs.Common.{arith, ◌/◌}
use Rattle.bp_session.proofs.caches.TwoCaches.new.Goals as goal

pub new-requires-clause-whole : goal.new-requires-clause-whole
new-requires-clause-whole c = (c.args.words / 8, omega arith, omega arith)
