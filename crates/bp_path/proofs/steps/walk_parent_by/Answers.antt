use Rattle.pm_region.specs.Memory.{current_words}
use Rattle.bp_layout.specs.Reached.IsReached.{inode_file}
use Rattle.bp_path.proofs.WalkLaws.{there, right_kind}
use Rattle.bp_path.proofs.steps.walk_parent_by.Goals as goal

pub get-requires-clause-sound : goal.get-requires-clause-sound
get-requires-clause-sound g c = c.requires.well.sound 0 inode_file

pub get-requires-clause-there : goal.get-requires-clause-there
get-requires-clause-there g c = there (current_words (g.R.Region.memory c.args.region.now)) c.in_ok-dir.field-0.ino c.requires.well c.in_ok-dir.ensures.reached

pub get-requires-clause-least : goal.get-requires-clause-least
get-requires-clause-least g c = (right_kind (current_words (g.R.Region.memory c.args.region.now)) c.in_ok-dir.field-0.ino c.requires.well c.in_ok-dir.ensures.reached c.in_ok-dir.ensures.some).0

pub get-requires-clause-most : goal.get-requires-clause-most
get-requires-clause-most g c = (right_kind (current_words (g.R.Region.memory c.args.region.now)) c.in_ok-dir.field-0.ino c.requires.well c.in_ok-dir.ensures.reached c.in_ok-dir.ensures.some).1
