use Rattle.std.proofs.Common.{◌∙◌, sym, ap}
use Rattle.std.proofs.lemmas.Result.{IfOk-weaker}
use Rattle.bp_layout.specs.Fields.{kind_word}
use Rattle.bp_volume.proofs.AskingLaws.{at_reached, at_low, list_file, listed_or_full, list_memory, list_reports}
use Rattle.bp_calls.proofs.ReadingLaws.{inode_file_sound, inode_reached}
use Rattle.bp_volume.proofs.EntryLaws.{listing-names}
use Rattle.bp_volume.proofs.queries.list_inode.Goals as goal

pub get-requires-clause-sound : goal.get-requires-clause-sound
get-requires-clause-sound g c = inode_file_sound _ c.requires.well_formed

pub get-requires-clause-some : goal.get-requires-clause-some
get-requires-clause-some g c = at_low _ c.requires.well_formed c.args.text.now c.args.ino c.requires.at

pub get-requires-clause-there : goal.get-requires-clause-there
get-requires-clause-there g c = (inode_reached _ c.requires.well_formed c.args.ino (at_reached _ c.requires.well_formed c.args.text.now c.args.ino c.requires.at) (at_low _ c.requires.well_formed c.args.text.now c.args.ino c.requires.at)).high

pub get-requires-clause-least : goal.get-requires-clause-least
get-requires-clause-least g c = (inode_reached _ c.requires.well_formed c.args.ino (at_reached _ c.requires.well_formed c.args.text.now c.args.ino c.requires.at) (at_low _ c.requires.well_formed c.args.text.now c.args.ino c.requires.at)).least

pub get-requires-clause-most : goal.get-requires-clause-most
get-requires-clause-most g c = (inode_reached _ c.requires.well_formed c.args.ino (at_reached _ c.requires.well_formed c.args.text.now c.args.ino c.requires.at) (at_low _ c.requires.well_formed c.args.text.now c.args.ino c.requires.at)).most

pub list-requires-clause-reached : goal.list-requires-clause-reached
list-requires-clause-reached g c = at_reached _ c.requires.well_formed c.args.text.now c.args.ino c.requires.at

pub list-requires-clause-directory : goal.list-requires-clause-directory
list-requires-clause-directory g c = sym c.get.ensures.kind ∙ ap kind_word c.in-Dir.is

pub returns-in-File : goal.returns-in-File
returns-in-File g c = list_file _ c.args.text.now c.args.ino c.requires.at (sym c.get.ensures.kind ∙ ap kind_word c.in-File.is)

pub returns-in-Dir : goal.returns-in-Dir
returns-in-Dir g c =
    let kind = sym c.get.ensures.kind ∙ ap kind_word c.in-Dir.is in
    listed_or_full _ c.args.text.now c.list.result c.map_err.result c.map_err.ensures.cases
    (IfOk-weaker c.list.result _ _ (λ reported lists. list_reports _ c.args.text.now c.args.ino c.requires.at kind reported (λ tree here stands at. listing-names _ tree stands here c.args.ino at kind _ lists)) c.list.ensures)
    (list_memory _ c.args.text.now c.args.ino c.requires.at kind)
