use Rattle.bp_session.proofs.DirtyLaws.{all_are_dirty}
use Rattle.bp_session.proofs.actions.dirty_crash.Goals as goal

pub returns-then-is_crash-clause-crashed : goal.returns-then-is_crash-clause-crashed
returns-then-is_crash-clause-crashed c = λ _. all_are_dirty c.dirty_each.new.flags c.dirty_each.ensures.each
