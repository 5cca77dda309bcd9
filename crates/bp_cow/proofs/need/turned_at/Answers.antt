use Rattle.std.proofs.Common.{length, sym, ◌∙◌, ap, arith}
use Rattle.bp_cow.specs.Job.{turned_for}
use Rattle.bp_cow.specs.Touched.{job_of}
use Rattle.bp_cow.proofs.SkipLaws.{all-begun, turned-none}
use Rattle.bp_cow.proofs.need.turned_at.Goals as goal

pub returns-then-adds_no_block-clause-result : goal.returns-then-adds_no_block-clause-result
returns-then-adds_no_block-clause-result c =
    let touched = c.args.touched.now in
    sym (turned-none (job_of touched) c.args.from c.args.i (length ((job_of touched).way c.args.i)) (all-begun touched c.args.from c.args.i (c.adds_no_block.ensures.none c.if-adds_no_block.true)) (omega arith))

pub returns-clause-result : goal.returns-clause-result
returns-clause-result c =
    let job = job_of c.args.touched.now in
    c.turned_for.ensures.result ∙ ap (λ n. turned_for job c.args.from n (length (job.way n))) c.way.ensures.index
