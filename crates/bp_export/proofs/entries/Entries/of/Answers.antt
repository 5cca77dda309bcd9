use Rattle.pm_region.specs.Memory.{current_words}
use Rattle.bp_export.proofs.NamesInOrder.{are_entries}
use Rattle.bp_export.proofs.entries.Entries.of.Goals as goal

pub returns : goal.returns
returns g c =
    are_entries (current_words (g.R.Region.memory c.args.region.now)) c.requires.well_formed c.args.ino c.requires.reached c.requires.directory _
    (rw (← c.in_ok-entries.ensures) c.sort.ensures.all) c.sort.ensures.sorted
