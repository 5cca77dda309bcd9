use Rattle.std.proofs.Common.{sym}
use Rattle.bp_plain.proofs.PathLaws.{below_none, below_some}
use Rattle.bp_plain.proofs.trees.entries.moved_path.Goals as goal

pub returns-in-Some : goal.returns-in-Some
returns-in-Some c =
    rw (below_some c.args.from.now c.args.path.now c.in-Some.ensures.cases.0, sym c.in-Some.ensures.cases.1) c.joined.ensures

pub returns-in-None : goal.returns-in-None
returns-in-None c =
    rw (below_none c.args.from.now c.args.path.now c.in-None.ensures.cases) (c.copied.ensures)
