use Rattle.bp_calls.specs.Overwritten.{patches_seen}
use Rattle.bp_calls.proofs.PatchCommits.{TouchesPatches, overwrite_can, overwrite_loose, overwrite_room}
use Rattle.bp_calls.proofs.WriteCommits.{overwrite_commits}
use Rattle.pm_region.specs.Memory.{current_words}
use Rattle.bp_calls.proofs.batches.overlay.Given.{Over}
use Rattle.bp_calls.proofs.batches.overlay.Goals.{After-touched_by-touched}
use Rattle.bp_calls.proofs.batches.overlay.Goals as goal

-- the patches may be written, and just they are touched
touches : (g : Over) (c : After-touched_by-touched g)
    → TouchesPatches (current_words (g.R.Region.memory c.args.parts.now.region)) (patches_seen c.args.patches.now) c.touched_by-touched.result
touches g c = record {
  well_formed = c.requires.can.well_formed;
  can = c.requires.can.can;
  runs = rw (c.touched_by-touched.ensures.runs, c.as_slice.ensures.value) c.runs_of-runs.ensures;
  no_words = c.touched_by-touched.ensures.words;
  no_trees = c.touched_by-touched.ensures.trees;
}

pub commit_below-requires-clause-can : goal.commit_below-requires-clause-can
commit_below-requires-clause-can g c =
    overwrite_can c.requires.can (touches g (goal.at.commit_below-requires-clause-can g c).After-touched_by-touched)

pub commit_below-requires-clause-loose : goal.commit_below-requires-clause-loose
commit_below-requires-clause-loose g c =
    overwrite_loose c.requires.can (touches g (goal.at.commit_below-requires-clause-loose g c).After-touched_by-touched)

pub commit_below-requires-clause-room : goal.commit_below-requires-clause-room
commit_below-requires-clause-room g c =
    overwrite_room c.requires.can (touches g (goal.at.commit_below-requires-clause-room g c).After-touched_by-touched)

pub returns : goal.returns
returns g c =
    overwrite_commits g.R.Region.memory c.args.parts.now c.commit_below.new.parts (patches_seen c.args.patches.now) c.touched_by-touched.result
    c.requires.exact c.requires.can (touches g (goal.at.returns g c).After-touched_by-touched) c.commit_below.result c.commit_below.ensures
