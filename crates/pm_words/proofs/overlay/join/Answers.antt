use Rattle.std.proofs.Common.{arith}
use Rattle.pm_words.proofs.ShiftLaws.{joined-high, joined-low}
use Rattle.pm_words.proofs.overlay.join.Goals as goal

pub returns-clause-lowest : goal.returns-clause-lowest
returns-clause-lowest c = λ k early. rw c.low_bytes-kept.ensures (joined-low c.args.low c.args.high c.args.count k (omega (arith, early, c.requires)) early)

pub returns-clause-others : goal.returns-clause-others
returns-clause-others c = λ k late few. rw c.low_bytes-kept.ensures (joined-high c.args.low c.args.high c.args.count k few late)
