use Rattle.std.proofs.Common.{arith}
use Rattle.bp_calls.proofs.SameWrites.{WritesIn}
use Rattle.bp_calls.proofs.WriteBelow.{write_can, write_loose, write_room}
use Rattle.bp_calls.proofs.WriteCommits.{write_commits}
use Rattle.bp_calls.proofs.writes.write_below.Given.{Over}
use Rattle.bp_calls.proofs.writes.write_below.Goals.{After-touched_by-touched}
use Rattle.bp_calls.proofs.writes.write_below.Goals as goal

-- the run of the bytes is all that is touched
write : (g : Over) (c : After-touched_by-touched g)
    → WritesIn g.R.Region.memory c.args.parts.now c.args.ino c.args.offset c.args.bytes.now c.touched_by-touched.result
write g c =
    let is = c.touched_by-touched.ensures in
    record {
      into = c.requires.can.into;
      below = c.requires.below;
      touches = record { run = c.run_for.result; one = is.runs; no_words = is.words; no_trees = is.trees; is = c.run_for.ensures };
    }

pub commit_below-requires-clause-can : goal.commit_below-requires-clause-can
commit_below-requires-clause-can g c = write_can (write g (goal.at.commit_below-requires-clause-can g c).After-touched_by-touched)

pub commit_below-requires-clause-loose : goal.commit_below-requires-clause-loose
commit_below-requires-clause-loose g c =
    write_loose (write g (goal.at.commit_below-requires-clause-loose g c).After-touched_by-touched) c.requires.can.clear

pub commit_below-requires-clause-room : goal.commit_below-requires-clause-room
commit_below-requires-clause-room g c = write_room (write g (goal.at.commit_below-requires-clause-room g c).After-touched_by-touched) c.requires.can.room

pub returns : goal.returns
returns g c =
    write_commits g.R.Region.memory c.args.parts.now c.commit_below.new.parts c.args.ino c.args.offset c.args.bytes.now c.touched_by-touched.result
    c.requires.exact (write g (goal.at.returns g c).After-touched_by-touched) (λ k. omega (arith, c.type_inv.bytes k))
    c.commit_below.result c.commit_below.ensures
