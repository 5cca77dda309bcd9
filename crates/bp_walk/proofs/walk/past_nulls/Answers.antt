use Rattle.std.proofs.Common.{arith, inl, inr}
use Rattle.std.proofs.lemmas.Bool.{cases_lt}
use Rattle.bp_walk.proofs.Places.{zero_there}
use Rattle.bp_walk.proofs.walk.past_nulls.Goals as goal

pub loop-next-preserved : goal.loop-next-preserved
loop-next-preserved c =
    let next = c.loop-next.next in
    record {
      further = omega (arith, c.loop-next.invariant.further);
      most = omega (arith, c.loop-next-test.true);
      nulls = λ i beyond low. elim (cases_lt i next) [
        | inl before ↦ c.loop-next.invariant.nulls i beyond before
        | inr late ↦ zero_there c.args.pointers.now next i late low (omega (arith, c.loop-next-test.true)) (c.are_null.ensures c.if-are_null.true)
      ];
    }
