use Rattle.bp_calls.specs.Resized.{ResizesFile}
use Rattle.bp_calls.proofs.CommitLaws.{committed_thawed, lacking_space}
use Rattle.bp_calls.proofs.SameWrites.{grow_after_thaw}
use Rattle.bp_calls.proofs.ThawedParts.{mounted_thawed}
use Rattle.bp_layout.specs.Need.Change.{resizes}
use Rattle.bp_calls.proofs.resize.grow_file.Goals as goal

pub lengthen-requires-clause-can : goal.lengthen-requires-clause-can
lengthen-requires-clause-can g c =
    grow_after_thaw g.R.Region.memory c.args.parts.now c.thaw_end.new.parts c.requires.mounted c.args.ino c.args.size c.requires.reached c.requires.file c.requires.longer c.requires.fits c.in-Ok.ensures.thaws c.in-Ok.ensures.room

pub lengthen-requires-clause-exact : goal.lengthen-requires-clause-exact
lengthen-requires-clause-exact g c =
    (mounted_thawed g.R.Region.memory (resizes c.args.ino c.args.size) c.args.parts.now c.thaw_end.new.parts c.requires.mounted c.requires.reached c.in-Ok.ensures.thaws).exact

pub returns-in-Ok : goal.returns-in-Ok
returns-in-Ok g c =
    committed_thawed g.R.Region.memory (resizes c.args.ino c.args.size) (ResizesFile c.args.ino c.args.size) c.args.parts.now c.thaw_end.new.parts c.lengthen.new.parts c.requires.mounted c.requires.reached c.in-Ok.ensures.thaws
    _ c.lengthen.ensures

pub returns-in-Err : goal.returns-in-Err
returns-in-Err g c = lacking_space g.R.Region.memory c.args.parts.now c.thaw_end.new.parts c.requires.mounted.exact c.in-Err.ensures.refused c.in-Err.ensures.same
