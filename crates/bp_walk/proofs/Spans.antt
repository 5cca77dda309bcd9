-- What a pointer covers, by the level of its block.
use Rattle.std.proofs.Common.{◌≡◌, ℕ, zero, suc, ◌-◌, ◌*◌, ◌^◌, ◌≤◌, sym, arith}
use Rattle.bp_layout.specs.Tree.{covered}
use Rattle.bp_layout.proofs.TreeLaws.{span-is}
use Rattle.bp_limits.specs.Limits.{block_size, block_words}

pub span-covered : (level : ℕ) → 1 ≤ level → block_size * block_words ^ (level - 1) ≡ covered level
span-covered zero some = absurd (omega (arith, some))
span-covered (suc level) some = let below : suc level - 1 ≡ level = omega arith in rw below (sym (span-is level))
