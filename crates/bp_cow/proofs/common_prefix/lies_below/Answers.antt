use Rattle.std.proofs.Common.{◌/◌, ◌^◌, ◌<◌, ◌≤◌, subst, arith}
use Rattle.std.proofs.lemmas.Bool.{leb-true, le-leb}
use Rattle.pm_words.proofs.Digits.{power_of_two}
use Rattle.bp_cow.proofs.common_prefix.lies_below.Goals as goal

pub returns-then-first-level : goal.returns-then-first-level
returns-then-first-level c =
    let power = power_of_two c.args.level in
    let low : c.args.first / 512 ^ c.args.level ≤ c.args.number = subst (λ n. c.args.first / n ≤ c.args.number) power c.if-first-level.true in
    rw power (λ is. (low, leb-true c.args.number (c.args.last / 512 ^ c.args.level) is), λ both. le-leb c.args.number (c.args.last / 512 ^ c.args.level) both.1)

pub returns-else-first-level : goal.returns-else-first-level
returns-else-first-level c =
    let power = power_of_two c.args.level in
    rw power (
      λ is. absurd (omega (arith, leb-true (c.args.first / 512 ^ c.args.level) c.args.number is, subst (λ n. c.args.number < c.args.first / n) power c.if-first-level.false)),
      λ both. le-leb (c.args.first / 512 ^ c.args.level) c.args.number both.0,
    )
