use Rattle.std.proofs.Common.{arith}
use Rattle.bp_session.proofs.DirtyLaws.{dirty_within}
use Rattle.bp_session.proofs.save.dirty_words.Goals as goal

pub returns-clause-dirtied : goal.returns-clause-dirtied
returns-clause-dirtied c =
    dirty_within c.loop-block.flags c.args.first c.args.count c.min-end.result c.loop-block.block c.requires.some (omega (arith, c.min-end.ensures, c.loop-block.invariant.size)) c.loop-block-test.false c.loop-block.invariant.dirtied
