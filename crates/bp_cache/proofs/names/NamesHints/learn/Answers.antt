use Rattle.bp_cache.proofs.Maps.{learned-known}
use Rattle.bp_cache.proofs.names.NamesHints.learn.Goals as goal

pub returns-clause-learned : goal.returns-clause-learned
returns-clause-learned c reported = rw (c.put.ensures.put reported) (learned-known (c.args.dir, c.args.name.now) c.args.slot c.args.self.now.room c.args.self.now.pairs c.put.ensures.room)
