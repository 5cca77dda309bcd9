-- Few bytes need few blocks.
use Rattle.std.proofs.Common.{◌≡◌, ◌⊎◌, ℕ, zero, suc, ◌+◌, ◌-◌, ◌*◌, ◌/◌, ◌<◌, ◌≤◌, length, Bool, true, false, not, ◌&&◌, ◌==◌, nat_lt, if◌then◌else◌, inl, inr, arith}
use Rattle.std.proofs.lemmas.Bool.{cases_lt}
use Rattle.std.proofs.Math.Nat.{div-lt_iff_lt-mul, lt-div-mul-add}
use Rattle.bp_limits.specs.Limits.{max_height}
use Rattle.bp_layout.specs.Words.{Image, block_of, height_of}
use Rattle.bp_layout.specs.Nodes.{height_with, nodes_for}
use Rattle.bp_layout.specs.Tree.{span}
use Rattle.bp_append.specs.Needs.{lack, raised_at, needs}
use Rattle.bp_append.specs.Risen.{idle}
use Rattle.bp_append.specs.Tally.{met}
use Rattle.bp_append.proofs.NeedLaws.{need_is, tall_low}
use Rattle.bp_append.proofs.TallyLaws.{met_none, met_some, span-leaf, span-positive, span-suc}

-- as far apart as as many steps, two offsets have quotients that are no further apart
pub div_near : (a b s many : ℕ) → 0 < s → a ≤ b + many * s → a / s ≤ b / s + many
div_near a b s many some near =
    let rest = lt-div-mul-add {a = b} {b = s} some in
    let parts : (b / s + many + 1) * s ≡ b / s * s + s + many * s = grind arith in
    let low : a < (b / s + many + 1) * s = omega (arith, near, rest, parts) in
    let less = (div-lt_iff_lt-mul {k = s} {x = a} {y = b / s + many + 1} some).1 low in
    omega (arith, less)

met_near : (level from to many : ℕ) → to ≤ from + many * span level → met level from to ≤ many + 1
met_near level from to many near = go (cases_lt from to)
  where
    go : (from < to) ⊎ (to ≤ from) → met level from to ≤ many + 1
    go (inl some) =
        let close = div_near (to - 1) from (span level) many (span-positive level) (omega (arith, near)) in
        rw (met_some level from to some) (omega (arith, close))
    go (inr none) = rw (met_none level from to none) (omega arith)

idle_few : (from to level : ℕ) → idle from to level ≤ 1
idle_few from to level = go (nat_lt from _)
  where
    go : (b : Bool) → (if b then 0 else 1) ≤ 1
    go true = omega arith
    go false = omega arith

raised_few : (root size from to level : ℕ) → raised_at root size from to level ≤ 1
raised_few root size from to level = go (nat_lt 0 size && not (block_of root == 0) && nat_lt (height_of root) level)
  where
    go : (b : Bool) → (if b then idle from to level else 0) ≤ 1
    go true = idle_few from to level
    go false = omega arith

module _ (image : Image) (root size from to many : ℕ) (few : many ≤ 512) (near : to ≤ from + many * 4096) where
  -- one leaf more than the bytes fill, with one more above the root
  leaves_few : lack image root size from to 0 + raised_at root size from to 0 ≤ many + 2
  leaves_few =
      let leaves : met 0 from to ≤ many + 1 = met_near 0 from to many near in
      omega (arith, leaves, raised_few root size from to 0)

  -- two nodes of each level above, with one more above the root
  level_few : (level : ℕ) → lack image root size from to (suc level) + raised_at root size from to (suc level) ≤ 3
  level_few level =
      let wide : 2097152 ≤ span (suc level) = let up = span-suc level in let leaf : 4096 ≤ span level = span-leaf level in omega (arith, up, leaf) in
      let nodes : met (suc level) from to ≤ 1 + 1 = met_near (suc level) from to 1 (omega (arith, few, near, wide)) in
      omega (arith, nodes, raised_few root size from to (suc level))

  levels_few : (levels : ℕ) → needs image root size from to (suc levels) ≤ many + 2 + 3 * levels
  levels_few zero = omega (arith, leaves_few)
  levels_few (suc level) = omega (arith, levels_few level, level_few level)

  -- as many at most
  pub few_needed : size ≤ from → (0 < size → height_of root ≤ max_height) → length (nodes_for image root size from to) ≤ many + 2 + 3 * max_height
  few_needed past_end low =
      let all = levels_few (height_with root size to) in
      let tall : height_with root size to ≤ max_height = tall_low root size to low in
      omega (arith, all, tall, need_is image root size from to past_end)
