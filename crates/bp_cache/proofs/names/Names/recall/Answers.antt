use Rattle.std.proofs.Common.{sym, ap}
use Rattle.bp_cache.specs.Names.{remembered}
use Rattle.bp_cache.proofs.Pairs.{long-slot, long-recalled, short-recalled}
use Rattle.bp_cache.proofs.names.Names.recall.Goals as goal

pub returns-then-name-gt-MAX_NAME-clause-slot : goal.returns-then-name-gt-MAX_NAME-clause-slot
returns-then-name-gt-MAX_NAME-clause-slot c =
    rw (← c.self.view_is) (sym (long-slot (c.args.dir, c.args.name.now) c.self.inside.cache.entries c.self.invariant c.if-name-gt-MAX_NAME.true))

pub returns-then-name-gt-MAX_NAME-clause-recalled : goal.returns-then-name-gt-MAX_NAME-clause-recalled
returns-then-name-gt-MAX_NAME-clause-recalled c =
    rw (← c.self.view_is) (ap (λ es. remembered es c.self.inside.cache.cap) (sym (long-recalled (c.args.dir, c.args.name.now) c.self.inside.cache.entries c.self.invariant c.if-name-gt-MAX_NAME.true)))

pub invariant_of-self : goal.invariant_of-self
invariant_of-self c = rw (c.get.follows.holds-at-none, c.set.ensures) (short-recalled (c.args.dir, c.args.name.now) c.self.inside.cache.entries c.self.invariant)
