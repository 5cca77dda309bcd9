use Rattle.std.proofs.Common.{length, subst, sym, ◌∙◌, ap}
use Rattle.bp_free.specs.Set.{empty}
use Rattle.bp_free.specs.Words.{HoldRoom, set_in}
use Rattle.bp_free.proofs.Words.{empty_holds, empty_set, room_seen}
use Rattle.bp_free.proofs.bits.Bits.clear.Goals as goal

pub invariant_of-self : goal.invariant_of-self
invariant_of-self c =
    subst (λ words. HoldRoom words c.self.inside.room) (sym c.clear.ensures)
    (empty_holds (length c.self.inside.words) c.self.inside.room c.self.invariant.fits c.self.invariant.long c.self.invariant.short)

pub returns : goal.returns
returns c =
    ap (λ words. set_in words c.self.inside.room) c.clear.ensures
    ∙ empty_set (length c.self.inside.words) c.self.inside.room
    ∙ ap empty (room_seen _ _ _ c.self.view_is)
