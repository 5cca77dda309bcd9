use Rattle.std.proofs.Common.{sym, ◌∙◌, ap, eqb-true}
use Rattle.bp_cache.specs.Names.{remembered, known_of}
use Rattle.bp_cache.proofs.Pairs.{long-forgot, short-forgot}
use Rattle.bp_cache.proofs.Maps.{forgot-known, long-known, none-known}
use Rattle.bp_cache.proofs.names.Names.forget.Goals as goal

pub returns-then-is_empty-clause-known : goal.returns-then-is_empty-clause-known
returns-then-is_empty-clause-known c =
    none-known (c.args.dir, c.args.name.now) c.self.inside.cache.entries (eqb-true _ 0 (sym c.is_empty.ensures ∙ c.if-is_empty.true)) (known_of c.args.self.now) (ap known_of (sym c.self.view_is))

pub returns-then-name-gt-MAX_NAME-clause-forgot : goal.returns-then-name-gt-MAX_NAME-clause-forgot
returns-then-name-gt-MAX_NAME-clause-forgot c =
    rw (← c.self.view_is) (ap (λ es. remembered es c.self.inside.cache.cap) (sym (long-forgot (c.args.dir, c.args.name.now) c.self.inside.cache.entries c.self.invariant c.if-name-gt-MAX_NAME.true)))

pub returns-then-name-gt-MAX_NAME-clause-known : goal.returns-then-name-gt-MAX_NAME-clause-known
returns-then-name-gt-MAX_NAME-clause-known c =
    long-known (c.args.dir, c.args.name.now) c.self.inside.cache.entries c.self.invariant c.if-name-gt-MAX_NAME.true (known_of c.args.self.now) (ap known_of (sym c.self.view_is))

pub invariant_of-self : goal.invariant_of-self
invariant_of-self c = rw (c.pop-slot.ensures.entries, c.set.ensures) (short-forgot (c.args.dir, c.args.name.now) c.self.inside.cache.entries c.self.invariant)

pub returns-clause-known : goal.returns-clause-known
returns-clause-known c =
    rw (← c.self.view_is, c.pop-slot.ensures.entries, c.set.ensures) (forgot-known (c.args.dir, c.args.name.now) c.self.inside.cache.entries c.len-known.ensures.valid.0)
