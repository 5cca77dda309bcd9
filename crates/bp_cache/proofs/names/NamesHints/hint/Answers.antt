use Rattle.std.proofs.Common.{sym, ◌∙◌, ap}
use Rattle.bp_cache.specs.Names.{known_of}
use Rattle.bp_cache.proofs.Maps.{known-slot, recalled-known}
use Rattle.bp_cache.proofs.names.NamesHints.hint.Goals as goal

pub returns-clause-hint : goal.returns-clause-hint
returns-clause-hint c = c.recall.ensures.slot ∙ sym (known-slot c.args.self.now.pairs (c.args.dir, c.args.name.now))

pub returns-clause-same : goal.returns-clause-same
returns-clause-same c = ap known_of c.recall.ensures.recalled ∙ recalled-known (c.args.dir, c.args.name.now) c.args.self.now.pairs
