use Rattle.bp_cow.specs.Job.{IsTurned}
use Rattle.bp_cow.specs.Touched.{job_of}
use Rattle.bp_cow.proofs.CommitLaws.{committed_commits, size_after, led_has, has_led}
use Rattle.bp_cow.proofs.laws.commits_on_trees.Goals as goal

pub returns-clause-reported : goal.returns-clause-reported
returns-clause-reported c bound cover forest stage before after file directories =
    committed_commits c.args.old.now c.args.new.now bound forest (IsTurned (job_of c.args.touched.now) cover) (job_of c.args.touched.now) stage before after file directories

pub returns-clause-sizes : goal.returns-clause-sizes
returns-clause-sizes c bound cover i forest stage reached = size_after c.args.old.now c.args.new.now bound forest (IsTurned (job_of c.args.touched.now) cover) (job_of c.args.touched.now) stage i reached

pub returns-clause-blocks : goal.returns-clause-blocks
returns-clause-blocks c bound cover b forest stage one = led_has c.args.old.now c.args.new.now bound forest (IsTurned (job_of c.args.touched.now) cover) (job_of c.args.touched.now) stage b one

pub returns-clause-led : goal.returns-clause-led
returns-clause-led c bound cover b t forest stage reached has = has_led c.args.old.now c.args.new.now bound forest (IsTurned (job_of c.args.touched.now) cover) (job_of c.args.touched.now) stage b t reached has
