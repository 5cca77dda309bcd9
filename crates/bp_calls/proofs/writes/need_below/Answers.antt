use Rattle.std.proofs.Common.{◌∙◌, arith, rules}
use Rattle.bp_calls.proofs.SameWrites.{WritesIn, writes_in}
use Rattle.bp_calls.proofs.WriteBelow.{write_apart, write_can, write_few, write_inside, write_needs}
use Rattle.bp_calls.proofs.writes.need_below.Given.{Over}
use Rattle.bp_calls.proofs.writes.need_below.Goals.{After-touched_by}
use Rattle.bp_calls.proofs.writes.need_below.Goals as goal

-- the run of the bytes is all that is touched
write : (g : Over) (c : After-touched_by g) → WritesIn g.R.Region.memory c.args.parts.now c.args.ino c.args.offset c.args.bytes.now c.touched_by.result
write g c =
    let is = c.touched_by.ensures in
    writes_in g.R.Region.memory c.args.parts.now c.args.ino c.args.offset c.args.bytes.now c.touched_by.result c.run_for.result c.requires.mounted c.requires.can
    c.requires.below is.runs is.words is.trees c.run_for.ensures

pub need_cover-requires : goal.need_cover-requires
need_cover-requires g c =
    let here = write g (goal.at.need_cover-requires g c).After-touched_by in
    record { touched = (write_can here).shape; some = search rules; in_range = write_inside here; apart = write_apart here }

pub returns : goal.returns
returns g c =
    let here = write g (goal.at.returns g c).After-touched_by in
    record { need = c.need_cover.ensures ∙ write_needs here; few = omega (arith, c.need_cover.ensures, write_few here) }
