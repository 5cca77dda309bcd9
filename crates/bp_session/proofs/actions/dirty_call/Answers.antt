use Rattle.bp_session.proofs.DirtyLaws.{covers_all, covers_call}
use Rattle.bp_session.proofs.actions.dirty_call.Goals as goal

pub returns-in-UpgradeToThree : goal.returns-in-UpgradeToThree
returns-in-UpgradeToThree g c = rw c.in-UpgradeToThree.is (covers_all c.args.dirty.now c.dirty_each.new.flags c.dirty_each.ensures.size c.dirty_each.ensures.each)

pub returns-in_default : goal.returns-in_default
returns-in_default g c = covers_call c.args.call.now (g.R.Region.memory c.args.region.now) _ _ c.in_default.not-UpgradeToThree c.dirty_drained.ensures
