use Rattle.bp_cow.proofs.CopiesNeed.{none-begins}
use Rattle.bp_cow.proofs.WaysAlike.{first-range}
use Rattle.bp_cow.proofs.laws.what_can_be_committed_has_a_cover.Goals as goal

pub returns-clause-inside : goal.returns-clause-inside
returns-clause-inside c bound in_snapshot free can d alike = first-range c.args.image.now bound c.args.touched.now free c.requires can d alike

pub returns-clause-apart : goal.returns-clause-apart
returns-clause-apart c bound in_snapshot free can = none-begins c.args.image.now bound c.args.touched.now free c.requires can
