use Rattle.std.proofs.Common.{ℕ, List, length, ap, arith}
use Rattle.bp_cow.proofs.touched.Touched.few_shared.Goals as goal

pub returns : goal.returns
returns c =
    let fresh = ap (λ (items : List ℕ). length items) c.new-fresh.ensures in
    let inner = ap (λ (items : List ℕ). length items) c.new-inner.ensures in
    record {
      fresh = record { few = λ i low. absurd (omega (arith, low, fresh)); right = λ i d low. absurd (omega (arith, low, fresh)) };
      ends = record { leaves = c.first_leaves-leaves.ensures c.requires.few; each = omega (arith, inner, c.requires.few); right = λ k low. absurd (omega (arith, low, inner)) };
    }
