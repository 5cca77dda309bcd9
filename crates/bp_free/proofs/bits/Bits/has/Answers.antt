use Rattle.std.proofs.Common.{arith}
use Rattle.bp_free.proofs.Words.{word_seen, has_seen}
use Rattle.bp_free.proofs.bits.Bits.has.Goals as goal

pub get-requires : goal.get-requires
get-requires g c =
    let low = word_seen _ _ _ c.args.i c.self.invariant c.self.view_is c.requires in
    omega (arith, low)

pub returns-clause-has : goal.returns-clause-has
returns-clause-has g c = has_seen _ _ _ c.args.i _ c.self.invariant c.self.view_is c.requires c.get.ensures
