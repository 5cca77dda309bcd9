use Rattle.std.proofs.Common.{arith, refl}
use Rattle.bp_free.proofs.Words.{word_seen, alone_reports}
use Rattle.bp_free.proofs.bits.Bits.member.Goals as goal

pub get-requires : goal.get-requires
get-requires g c =
    let low = word_seen _ _ _ c.args.i c.self.invariant c.self.view_is c.requires in
    omega (arith, low)

pub returns : goal.returns
returns g c = record {
  number = refl;
  alone = alone_reports _ _ _ c.args.i c.get.result c.self.invariant c.self.view_is c.requires c.get.ensures;
  look = c.look.ensures;
}
