use Rattle.std.proofs.Common.{arith, ap, sym, ◌∙◌, ◌<◌, ◌≤◌, List, ℕ, get_or}
use Rattle.bp_roles.specs.Roles.{stored_at}
use Rattle.bp_roles.specs.declared.roles.Roles.{Roles}
use Rattle.bp_roles.proofs.PlaceLaws.{stored_at-past, stored_at-listed}
use Rattle.bp_roles.proofs.places.Places.stored_at.Goals as goal

pub returns-then-word-lt-HEAD_WORDS : goal.returns-then-word-lt-HEAD_WORDS
returns-then-word-lt-HEAD_WORDS c =
    let low : c.args.word < 8 = omega arith in
    ap (λ (xs : List ℕ). get_or xs c.args.word 0) c.self.invariant.0 ∙ stored_at-listed c.self.inside.roles c.args.word low
    ∙ ap (λ (roles : Roles). stored_at roles c.args.word) c.self.view_is

pub returns-else-word-lt-HEAD_WORDS : goal.returns-else-word-lt-HEAD_WORDS
returns-else-word-lt-HEAD_WORDS c =
    let past : 8 ≤ c.args.word = omega arith in
    sym (stored_at-past c.args.self.now c.args.word past)
