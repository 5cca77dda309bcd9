use Rattle.std.proofs.Common.{sym, subst, ap, ◌∙◌}
use Rattle.bp_free.specs.Words.{HoldRoom, set_in}
use Rattle.bp_free.proofs.Words.{word_seen, clear_blank, clear_holds, clear_seen}
use Rattle.bp_free.proofs.bits.Bits.remove.Goals as goal

pub get-requires : goal.get-requires
get-requires c = word_seen _ _ _ c.args.i c.self.invariant c.self.view_is c.requires

pub set_stored-requires-clause-in_range : goal.set_stored-requires-clause-in_range
set_stored-requires-clause-in_range c = word_seen _ _ _ c.args.i c.self.invariant c.self.view_is c.requires

pub invariant_of-self : goal.invariant_of-self
invariant_of-self c =
    subst (λ words. HoldRoom words c.self.inside.room) (sym c.set_stored.ensures)
    (clear_holds _ _ _ c.args.i _ c.self.invariant c.self.view_is c.requires c.get.ensures)

pub returns : goal.returns
returns c =
    ap (λ words. set_in words c.self.inside.room) c.set_stored.ensures
    ∙ clear_seen _ _ _ c.args.i _ c.self.invariant c.self.view_is c.requires c.get.ensures

pub set_stored-requires-clause-blank : goal.set_stored-requires-clause-blank
set_stored-requires-clause-blank c =
    clear_blank _ _ _ c.args.i _ c.self.invariant c.self.view_is c.requires c.get.ensures
