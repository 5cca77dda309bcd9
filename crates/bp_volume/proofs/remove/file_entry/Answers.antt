use Rattle.std.proofs.Common.{◌∙◌, sym, ap}
use Rattle.std.proofs.lemmas.Result.{err_from_is_err_and}
use Rattle.bp_layout.specs.Fields.{kind_word}
use Rattle.bp_calls.proofs.ReadingLaws.{inode_file_sound}
use Rattle.bp_volume.proofs.AskingLaws.{inode_found}
use Rattle.bp_volume.proofs.LeavingLaws.{unlink_directory, unlink_stops}
use Rattle.bp_volume.proofs.remove.file_entry.Goals as goal

pub get-requires-clause-sound : goal.get-requires-clause-sound
get-requires-clause-sound g c = inode_file_sound _ c.requires.well_formed

pub get-requires-clause-some : goal.get-requires-clause-some
get-requires-clause-some g c = (inode_found _ c.requires.well_formed c.in_ok-entry.ensures.found.path _ c.in_ok-entry.ensures.found.entry.inode).low

pub get-requires-clause-there : goal.get-requires-clause-there
get-requires-clause-there g c = (inode_found _ c.requires.well_formed c.in_ok-entry.ensures.found.path _ c.in_ok-entry.ensures.found.entry.inode).high

pub get-requires-clause-least : goal.get-requires-clause-least
get-requires-clause-least g c = (inode_found _ c.requires.well_formed c.in_ok-entry.ensures.found.path _ c.in_ok-entry.ensures.found.entry.inode).least

pub get-requires-clause-most : goal.get-requires-clause-most
get-requires-clause-most g c = (inode_found _ c.requires.well_formed c.in_ok-entry.ensures.found.path _ c.in_ok-entry.ensures.found.entry.inode).most

pub returns-in-Dir-clause-refused : goal.returns-in-Dir-clause-refused
returns-in-Dir-clause-refused g c = unlink_directory _ c.args.text.now _ _ _ c.in_ok-entry.ensures.found (sym c.get.ensures.kind ∙ ap kind_word c.in-Dir.is)

pub returns-in_err-entry-clause-refused : goal.returns-in_err-entry-clause-refused
returns-in_err-entry-clause-refused g c =
    let p = err_from_is_err_and c.from_residual.result c.from_residual.ensures.1 in
    rw (p.1, p.2) (unlink_stops _ c.args.text.now _ c.in_err-entry.ensures.refused)
