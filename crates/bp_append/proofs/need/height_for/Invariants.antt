use Rattle.std.proofs.Common.{◌≡◌, ℕ, ◌<◌, nat_le, false}
use Rattle.bp_layout.specs.Tree.{span}
use Rattle.bp_append.proofs.need.height_for.Given as goal

abbrev pub invariant-loop-height : goal.invariant-loop-height
invariant-loop-height l = record { none : (h : ℕ) → h < l.height → nat_le l.bytes (span h) ≡ false }
