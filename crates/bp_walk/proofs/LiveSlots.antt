-- The slots of a node whose first byte is below the size.
use Rattle.std.proofs.Common.{◌≡◌, ℕ, zero, suc, ◌+◌, ◌-◌, ◌*◌, ◌/◌, ◌<◌, ◌≤◌, sym, ◌∙◌, ap, arith}
use Rattle.bp_layout.specs.Tree.{covered}
use Rattle.bp_layout.proofs.TreeLaws.{covered-suc}
use Rattle.bp_read.proofs.Below.{span_some, slots_live, slots_all}

pub covered_some : (level : ℕ) → 1 ≤ level → 0 < covered level
covered_some zero least = absurd (omega (arith, least))
covered_some (suc level) least = span_some level

-- a node covers 512 times what a slot of it covers
pub node_covers : (level wide step : ℕ) → wide ≡ covered (level + 1) → step ≡ covered level → wide ≡ 512 * step
node_covers level wide step node slot =
    let next : level + 1 ≡ suc level = omega arith in
    node ∙ ap covered next ∙ covered-suc level ∙ ap (λ n. 512 * n) (sym slot)

in_row : (index step slot : ℕ) → (512 * index + slot) * step ≡ index * (512 * step) + slot * step
in_row index step slot = omega arith

module _ (index size wide step slot : ℕ) (some : 0 < step) (times : wide ≡ 512 * step) where
  whole : index * wide ≡ index * (512 * step)
  whole = ap (λ n. index * n) times

  pub row_live : index * wide < size → slot < (size - index * wide - 1) / step + 1 → (512 * index + slot) * step < size
  row_live live low =
      let left : 0 < size - index * wide = omega (arith, live) in
      let below : slot * step < size - index * wide = slots_live (size - index * wide) step slot left some low in
      omega (arith, below, whole, in_row index step slot)

  pub row_all : (512 * index + slot) * step < size → slot < (size - index * wide - 1) / step + 1
  row_all live =
      let below : slot * step < size - index * wide = omega (arith, whole, live, in_row index step slot) in
      slots_all (size - index * wide) step slot some below
