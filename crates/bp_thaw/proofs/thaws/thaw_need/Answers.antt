use Rattle.std.proofs.Common.{length, map, ◌∙◌, ap}
use Rattle.std.proofs.lemmas.List.{length-map}
use Rattle.pm_region.specs.Memory.{current_words}
use Rattle.bp_free.specs.Set.{has}
use Rattle.bp_layout.specs.WordPaths.{address}
use Rattle.bp_layout.specs.Thaw.{thawed_on}
use Rattle.bp_thaw.specs.Thaws.{paths_in}
use Rattle.bp_thaw.proofs.Found.{found_is}
use Rattle.bp_thaw.proofs.thaws.thaw_need.Goals as goal

pub returns-clause-need : goal.returns-clause-need
returns-clause-need g c =
    let image = current_words (g.R.Region.memory c.args.parts.now.region) in
    let in_snapshot = has c.args.parts.now.snapshot_blocks in
    let paths = paths_in c.args.targets.now in
    c.len.ensures.value ∙ ap length (c.find.ensures ∙ ap (map (address image)) (found_is image c.requires.well_formed in_snapshot paths c.requires.ways)) ∙ length-map (thawed_on image in_snapshot paths) (address image)
