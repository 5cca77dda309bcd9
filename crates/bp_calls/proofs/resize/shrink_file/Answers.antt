use Rattle.std.proofs.Common.{◌∙◌}
use Rattle.bp_changes.proofs.ReachedOn.{reached_on}
use Rattle.bp_calls.specs.Resized.{ResizesFile}
use Rattle.bp_layout.specs.Need.Change.{resizes}
use Rattle.pm_region.specs.Memory.{current_words}
use Rattle.bp_calls.proofs.CommitLaws.{committed_thawed, lacking_space}
use Rattle.bp_calls.proofs.ThawedParts.{mounted_thawed, thawed_clear}
use Rattle.bp_calls.proofs.resize.shrink_file.Goals as goal

pub shorten-requires-clause-mounted : goal.shorten-requires-clause-mounted
shorten-requires-clause-mounted g c =
    mounted_thawed g.R.Region.memory (resizes c.args.ino c.args.size) c.args.parts.now c.thaw_size.new.parts c.requires.mounted c.requires.reached c.in-Ok.ensures.thaws

pub shorten-requires-clause-clear : goal.shorten-requires-clause-clear
shorten-requires-clause-clear g c =
    thawed_clear g.R.Region.memory (resizes c.args.ino c.args.size) c.args.parts.now c.thaw_size.new.parts c.requires.mounted c.requires.reached c.in-Ok.ensures.thaws

pub shorten-requires-clause-reached : goal.shorten-requires-clause-reached
shorten-requires-clause-reached g c =
    let memory = g.R.Region.memory in
    reached_on (current_words (memory c.args.parts.now.region)) (current_words (memory c.thaw_size.new.parts.region)) c.in-Ok.ensures.thaws.thaws.shape.meaning c.args.ino c.requires.reached

pub shorten-requires-clause-file : goal.shorten-requires-clause-file
shorten-requires-clause-file g c = c.in-Ok.ensures.thaws.thaws.shape.meaning.kind c.args.ino c.requires.reached ∙ c.requires.file

pub shorten-requires-clause-smaller : goal.shorten-requires-clause-smaller
shorten-requires-clause-smaller g c = rw (c.in-Ok.ensures.thaws.thaws.shape.sizes c.args.ino c.requires.reached) c.requires.smaller

pub returns-in-Ok : goal.returns-in-Ok
returns-in-Ok g c =
    committed_thawed g.R.Region.memory (resizes c.args.ino c.args.size) (ResizesFile c.args.ino c.args.size) c.args.parts.now c.thaw_size.new.parts c.shorten.new.parts c.requires.mounted c.requires.reached c.in-Ok.ensures.thaws
    _ c.shorten.ensures

pub returns-in-Err : goal.returns-in-Err
returns-in-Err g c = lacking_space g.R.Region.memory c.args.parts.now c.thaw_size.new.parts c.requires.mounted.exact c.in-Err.ensures.refused c.in-Err.ensures.same
