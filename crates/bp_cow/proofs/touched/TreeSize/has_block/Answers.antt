use Rattle.std.proofs.Common.{nat_eq, ◌∙◌, ap, subst, arith}
use Rattle.bp_layout.specs.WordPaths.{WordPath}
use Rattle.bp_cow.proofs.SharedLaws.{AreAlike}
use Rattle.bp_cow.proofs.WordLive.{block-by-alike}
use Rattle.bp_cow.proofs.touched.TreeSize.has_block.Goals as goal

pub returns : goal.returns
returns c =
    let tree = c.args.self.now in
    let path = c.args.path.now in
    let above = c.len-above.ensures.value in
    let alike : AreAlike path c.as_slice.result.now c.common.result = record { here = c.common.ensures.these; there = c.common.ensures.those; same = c.common.ensures.same; most = c.common.ensures.most } in
    ap (nat_eq c.common.result) above
    ∙ block-by-alike tree path c.args.depth c.common.result c.requires (omega (arith, above, c.if-depth-above.false)) (omega (arith, above, c.if-above-self.false))
    (subst (λ (p : WordPath). AreAlike path p c.common.result) c.as_slice.ensures.value alike)
