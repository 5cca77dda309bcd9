use Rattle.std.proofs.Common.{arith, length, true}
use Rattle.std.proofs.lemmas.List.{get_or-replicate}
use Rattle.bp_session.proofs.save.dirty_each.Goals as goal

pub returns-clause-each : goal.returns-clause-each
returns-clause-each c = λ i low. rw (c.fill.ensures.after (λ y same. same)) (get_or-replicate (length c.args.flags.now) i c.args.value true (omega (arith, low, c.fill.ensures.len)))
