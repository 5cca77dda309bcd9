use Rattle.std.proofs.Common.{◌∙◌, sym, ap}
use Rattle.bp_layout.specs.Fields.{kind_word}
use Rattle.bp_calls.proofs.ReadingLaws.{inode_file_sound}
use Rattle.bp_volume.proofs.AskingLaws.{inode_found}
use Rattle.bp_volume.proofs.WalkingLaws.{no_file}
use Rattle.bp_volume.proofs.lookup.file_on.Goals as goal

pub get-inode-requires-clause-sound : goal.get-inode-requires-clause-sound
get-inode-requires-clause-sound g c = inode_file_sound _ c.requires.well_formed

pub get-inode-requires-clause-some : goal.get-inode-requires-clause-some
get-inode-requires-clause-some g c = (inode_found _ c.requires.well_formed c.args.path.now _ c.in_ok-ino.ensures.found).low

pub get-inode-requires-clause-there : goal.get-inode-requires-clause-there
get-inode-requires-clause-there g c = (inode_found _ c.requires.well_formed c.args.path.now _ c.in_ok-ino.ensures.found).high

pub get-inode-requires-clause-least : goal.get-inode-requires-clause-least
get-inode-requires-clause-least g c = (inode_found _ c.requires.well_formed c.args.path.now _ c.in_ok-ino.ensures.found).least

pub get-inode-requires-clause-most : goal.get-inode-requires-clause-most
get-inode-requires-clause-most g c = (inode_found _ c.requires.well_formed c.args.path.now _ c.in_ok-ino.ensures.found).most

pub returns-in-Dir-clause-refused : goal.returns-in-Dir-clause-refused
returns-in-Dir-clause-refused g c = no_file _ c.args.path.now _ c.in_ok-ino.ensures.found (sym c.get-inode.ensures.kind ∙ ap kind_word c.in-Dir.is)
