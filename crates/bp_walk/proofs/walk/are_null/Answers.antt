use Rattle.std.proofs.Common.{ℕ, slice_index, slice_index_or, ◌∙◌, ap, arith, inl, inr}
use Rattle.std.proofs.lemmas.Bool.{cases_eq}
use Rattle.std.proofs.lemmas.Nat.{le_or_l, le_or_r}
use Rattle.bp_walk.proofs.walk.are_null.Goals as goal

pub loop-pointer-preserved : goal.loop-pointer-preserved
loop-pointer-preserved c none i low =
    let pointer : ℕ = slice_index_or c.args.pointers.now c.loop-pointer.pointer-index 0 in
    elim (cases_eq i c.loop-pointer.pointer-index) [
      | inl here ↦ ap (slice_index c.args.pointers.now) here ∙ omega (arith, none, le_or_r c.loop-pointer.bits pointer)
      | inr apart ↦ c.loop-pointer.invariant (omega (arith, none, le_or_l c.loop-pointer.bits pointer)) i (omega (arith, low, apart))
    ]
