use Rattle.std.proofs.Common.{arith, ap, sym, ◌∙◌, ◌<◌, ◌≤◌, List, ℕ, get_or}
use Rattle.bp_roles.proofs.PlaceLaws.{seen_at-past, seen_at-listed}
use Rattle.bp_roles.proofs.roles.Roles.seen_at.Goals as goal

pub returns-then-word-lt-HEAD_WORDS : goal.returns-then-word-lt-HEAD_WORDS
returns-then-word-lt-HEAD_WORDS c =
    let low : c.args.word < 8 = omega arith in
    ap (λ (xs : List ℕ). get_or xs c.args.word 0) c.seen_places.ensures ∙ seen_at-listed c.args.self c.args.word low

pub returns-else-word-lt-HEAD_WORDS : goal.returns-else-word-lt-HEAD_WORDS
returns-else-word-lt-HEAD_WORDS c =
    let past : 8 ≤ c.args.word = omega arith in
    sym (seen_at-past c.args.self c.args.word past)
