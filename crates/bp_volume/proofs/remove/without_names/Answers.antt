use Rattle.std.proofs.Common.{◌∙◌, sym, ap, true≢false}
use Rattle.bp_layout.specs.Fields.{kind_word}
use Rattle.bp_calls.proofs.ReadingLaws.{inode_file_sound}
use Rattle.bp_volume.proofs.AskingLaws.{inode_found}
use Rattle.bp_volume.proofs.LeavingLaws.{rmdir_file, rmdir_not_empty}
use Rattle.bp_volume.proofs.WalkLaws.{reached_at}
use Rattle.bp_volume.proofs.remove.without_names.Goals as goal

pub get-inode-requires-clause-sound : goal.get-inode-requires-clause-sound
get-inode-requires-clause-sound g c = inode_file_sound _ c.requires.well_formed

pub get-inode-requires-clause-some : goal.get-inode-requires-clause-some
get-inode-requires-clause-some g c = (inode_found _ c.requires.well_formed c.requires.at.path _ c.requires.at.entry.inode).low

pub get-inode-requires-clause-there : goal.get-inode-requires-clause-there
get-inode-requires-clause-there g c = (inode_found _ c.requires.well_formed c.requires.at.path _ c.requires.at.entry.inode).high

pub get-inode-requires-clause-least : goal.get-inode-requires-clause-least
get-inode-requires-clause-least g c = (inode_found _ c.requires.well_formed c.requires.at.path _ c.requires.at.entry.inode).least

pub get-inode-requires-clause-most : goal.get-inode-requires-clause-most
get-inode-requires-clause-most g c = (inode_found _ c.requires.well_formed c.requires.at.path _ c.requires.at.entry.inode).most

pub is_empty-requires : goal.is_empty-requires
is_empty-requires g c =
    rw (c.of-tree.ensures.root ∙ c.get-inode.ensures.root, c.of-tree.ensures.size ∙ c.get-inode.ensures.size) (c.requires.well_formed.sound c.args.entry.now.ino (reached_at _ c.requires.well_formed c.requires.at.path _ c.requires.at.entry.inode))

pub returns-in-File-clause-refused : goal.returns-in-File-clause-refused
returns-in-File-clause-refused g c = rmdir_file _ c.args.text.now _ _ _ c.requires.at (sym c.get-inode.ensures.kind ∙ ap kind_word c.in-File.is)

pub returns-else-is_empty-clause-refused : goal.returns-else-is_empty-clause-refused
returns-else-is_empty-clause-refused g c =
    rmdir_not_empty _ c.args.text.now _ _ _ c.requires.at (sym c.get-inode.ensures.kind ∙ ap kind_word c.in-Dir.is)
    (λ none. true≢false (sym (c.is_empty.ensures.1 (rw (c.of-tree.ensures.root ∙ c.get-inode.ensures.root, c.of-tree.ensures.size ∙ c.get-inode.ensures.size) none)) ∙ c.if-is_empty.false))
