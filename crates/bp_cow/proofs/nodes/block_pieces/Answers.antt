use Rattle.std.proofs.Common.{◌≡◌, ℕ, ◌-◌, ◌*◌, ◌/◌, ◌^◌, ◌∙◌, ap, arith}
use Rattle.std.proofs.Math.Nat.{div-div-eq-div-mul}
use Rattle.pm_words.proofs.Digits.{power_of_two}
use Rattle.bp_cow.proofs.nodes.block_pieces.Goals as goal

pub returns-clause-live : goal.returns-clause-live
returns-clause-live c slot small below =
    let power : ℕ = 512 ^ c.args.level in
    let last : c.saturating_sub.result / 8 / 2 ^ (9 * c.args.level) ≡ (c.args.size - 1) / (8 * power) =
    ap (λ n. c.saturating_sub.result / 8 / n) (power_of_two c.args.level) ∙ ap (λ n. n / 8 / power) c.saturating_sub.ensures ∙ div-div-eq-div-mul (c.args.size - 1) 8 power in
    omega (arith, c.saturating_sub-2.ensures, last, below, small, c.min-slot.ensures)
