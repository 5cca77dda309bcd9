use Rattle.std.proofs.Common.{subst, arith}
use Rattle.bp_layout.specs.WordPaths.{WordPath}
use Rattle.bp_cow.proofs.SharedLaws.{AreAlike, shared-root}
use Rattle.bp_cow.proofs.common_prefix.prefixes_of_run.Goals as goal

pub returns-then-above-len : goal.returns-then-above-len
returns-then-above-len c d =
    let run = c.args.run.now in
    let root = c.as_slice.ensures.value in
    let is : AreAlike c.args.slots.now c.as_slice.result.now c.common-above.result = record {
      here = c.common-above.ensures.these;
      there = c.common-above.ensures.those;
      same = c.common-above.ensures.same;
      most = c.common-above.ensures.most;
    } in
    let alike : AreAlike c.args.slots.now run.root.items c.common-above.result = subst (λ (p : WordPath). AreAlike c.args.slots.now p c.common-above.result) root is in
    shared-root run c.args.leaves c.args.slots.now (omega (arith, c.if-leaves-eq0.false)) c.common-above.result alike (omega (arith, c.if-above-len.true, c.len.ensures.value)) d
