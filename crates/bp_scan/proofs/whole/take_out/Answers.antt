use Rattle.std.proofs.Common.{◌≡◌, ◌∙◌, sym, length}
use Rattle.bp_free.specs.Set.{members}
use Rattle.bp_scan.proofs.BothScans.{loses_none}
use Rattle.bp_scan.proofs.whole.take_out.Goals as goal

pub returns-then-count-eq0 : goal.returns-then-count-eq0
returns-then-count-eq0 c =
    let few : length (members c.args.lost.now) ≡ 0 = sym c.count.ensures ∙ c.if-count-eq0.true in
    loses_none c.args.lost.now c.args.blocks.now few
