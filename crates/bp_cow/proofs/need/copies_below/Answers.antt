use Rattle.std.proofs.Common.{◌≡◌, ◌+◌, ◌<◌, ◌≤◌, length, ◌∙◌, sym, ap, subst, arith}
use Rattle.bp_cow.specs.Touched.{job_of}
use Rattle.bp_cow.specs.Job.{ways, turned_upto}
use Rattle.bp_cow.proofs.CommitEnd.{copied-some, copied-none}
use Rattle.bp_cow.proofs.NeedLaws.{upto-next}
use Rattle.bp_cow.proofs.RunsLaws.{leaves-few}
use Rattle.bp_cow.proofs.need.copies_below.Goals as goal

pub way_len-requires-clause-i : goal.way_len-requires-clause-i
way_len-requires-clause-i c = c.requires.touched.some

pub returns-then-way_len-from : goal.returns-then-way_len-from
returns-then-way_len-from c = sym (copied-none (job_of c.args.touched.now) c.args.found.now.cover.len (omega (arith, c.way_len.ensures, c.if-way_len-from.true)))

pub turned_at-count-requires-clause-i : goal.turned_at-count-requires-clause-i
turned_at-count-requires-clause-i c = subst (λ n. c.loop-i.i < n) c.ways-ways.ensures c.loop-i-test.true

pub overflow_add-count : goal.overflow_add-count
overflow_add-count c =
    let touched = c.requires.touched in
    let leaves = leaves-few c.args.touched.now.runs.now touched.runs in
    omega (arith, c.loop-i.invariant.few, c.turned_at-count.ensures.few, c.loop-i-test.true, c.ways-ways.ensures, leaves, touched.few_runs, touched.few)

pub loop-i-preserved : goal.loop-i-preserved
loop-i-preserved c = record {
  count = omega (arith, c.loop-i.invariant.count, c.turned_at-count.ensures.result, upto-next (job_of c.args.touched.now) c.args.found.now.cover.len c.loop-i.i);
  few = omega (arith, c.loop-i.invariant.few, c.turned_at-count.ensures.few);
}

pub returns : goal.returns
returns c =
    let job = job_of c.args.touched.now in
    let short : c.args.found.now.cover.len ≤ length (job.way 0) = omega (arith, c.way_len.ensures, c.if-way_len-from.false) in
    let end : c.loop-i.i ≡ ways job = omega (arith, c.loop-i-test.false, c.loop-i.auto.i-end, c.ways-ways.ensures) in
    c.loop-i.invariant.count ∙ ap (λ n. 1 + turned_upto job c.args.found.now.cover.len n) end ∙ omega arith ∙ sym (copied-some job c.args.found.now.cover.len short)
