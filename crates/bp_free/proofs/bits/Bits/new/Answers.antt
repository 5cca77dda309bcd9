use Rattle.std.proofs.Common.{arith, subst, sym, ◌∙◌, ap}
use Rattle.std.proofs.lemmas.Grind.{div_ceil_times}
use Rattle.bp_free.specs.Words.{HoldRoom, set_in}
use Rattle.bp_free.proofs.Words.{empty_holds, empty_set}
use Rattle.bp_free.proofs.bits.Bits.new.Goals as goal

pub invariant_of-result : goal.invariant_of-result
invariant_of-result c =
    let size = div_ceil_times c.args.room 64 (omega arith) in
    subst (λ words. HoldRoom words c.args.room) (sym c.in_ok-words.ensures)
    (empty_holds c.div_ceil.result c.args.room c.ranges.room.fits (omega (arith, size.0, c.div_ceil.ensures)) (omega (arith, size.1, c.div_ceil.ensures)))

pub returns : goal.returns
returns c = ap (λ words. set_in words c.args.room) c.in_ok-words.ensures ∙ empty_set c.div_ceil.result c.args.room
