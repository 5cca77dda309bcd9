use Rattle.std.proofs.Common.{sym, ◌∙◌, ap, true≢false}
use Rattle.bp_calls.proofs.ReadingLaws.{inode_file_sound}
use Rattle.bp_layout.specs.Fields.{kind_word}
use Rattle.bp_volume.proofs.AskingLaws.{inode_found}
use Rattle.bp_volume.proofs.LeavingLaws.{directory_leaves, file_leaves}
use Rattle.bp_volume.proofs.RenameLaws.{empty_goes, files_go, found_goes, found_stops, not_empty_stops, onto_directory, onto_file, other_ends, target_entry}
use Rattle.bp_volume.proofs.WalkLaws.{reached_at}
use Rattle.bp_volume.proofs.rename.may_replace.Goals as goal

pub get-source-requires-clause-sound : goal.get-source-requires-clause-sound
get-source-requires-clause-sound g c = inode_file_sound _ c.requires.well_formed

pub get-source-requires-clause-some : goal.get-source-requires-clause-some
get-source-requires-clause-some g c = (inode_found _ c.requires.well_formed c.requires.found.source_path _ c.requires.found.are.source.inode).low

pub get-source-requires-clause-there : goal.get-source-requires-clause-there
get-source-requires-clause-there g c = (inode_found _ c.requires.well_formed c.requires.found.source_path _ c.requires.found.are.source.inode).high

pub get-source-requires-clause-least : goal.get-source-requires-clause-least
get-source-requires-clause-least g c = (inode_found _ c.requires.well_formed c.requires.found.source_path _ c.requires.found.are.source.inode).least

pub get-source-requires-clause-most : goal.get-source-requires-clause-most
get-source-requires-clause-most g c = (inode_found _ c.requires.well_formed c.requires.found.source_path _ c.requires.found.are.source.inode).most

pub get-target-requires-clause-sound : goal.get-target-requires-clause-sound
get-target-requires-clause-sound g c = inode_file_sound _ c.requires.well_formed

pub get-target-requires-clause-some : goal.get-target-requires-clause-some
get-target-requires-clause-some g c = (inode_found _ c.requires.well_formed c.requires.found.target_path _ (c.requires.found.are.target.there c.args.there c.requires.there).inode).low

pub get-target-requires-clause-there : goal.get-target-requires-clause-there
get-target-requires-clause-there g c = (inode_found _ c.requires.well_formed c.requires.found.target_path _ (c.requires.found.are.target.there c.args.there c.requires.there).inode).high

pub get-target-requires-clause-least : goal.get-target-requires-clause-least
get-target-requires-clause-least g c = (inode_found _ c.requires.well_formed c.requires.found.target_path _ (c.requires.found.are.target.there c.args.there c.requires.there).inode).least

pub get-target-requires-clause-most : goal.get-target-requires-clause-most
get-target-requires-clause-most g c = (inode_found _ c.requires.well_formed c.requires.found.target_path _ (c.requires.found.are.target.there c.args.there c.requires.there).inode).most

pub is_empty-requires : goal.is_empty-requires
is_empty-requires g c = rw (c.of-tree.ensures.root ∙ c.get-target.ensures.root, c.of-tree.ensures.size ∙ c.get-target.ensures.size) (c.requires.well_formed.sound c.args.there.ino (reached_at _ c.requires.well_formed c.requires.found.target_path _ (c.requires.found.are.target.there c.args.there c.requires.there).inode))

pub returns-in-File-kind-clause-leaves : goal.returns-in-File-kind-clause-leaves
returns-in-File-kind-clause-leaves g c = file_leaves _ c.args.to.now _ _ _ (target_entry _ c.args.from.now c.args.to.now c.args.ends.now c.requires.found c.args.there c.requires.there) (sym c.get-target.ensures.kind ∙ ap kind_word c.in-File.is)

pub returns-in-File-kind-clause-allowed : goal.returns-in-File-kind-clause-allowed
returns-in-File-kind-clause-allowed g c = found_goes _ c.args.from.now c.args.to.now c.args.ends.now c.requires.found (files_go _ c.requires.found.source_path c.requires.found.target_path c.args.ends.now c.requires.found.are c.args.there c.requires.there (sym c.get-source.ensures.kind ∙ ap kind_word c.in-File-kind.is) (sym c.get-target.ensures.kind ∙ ap kind_word c.in-File.is))

pub returns-in-Dir-kind-clause-refused : goal.returns-in-Dir-kind-clause-refused
returns-in-Dir-kind-clause-refused g c = found_stops _ c.args.from.now c.args.to.now c.args.ends.now c.requires.found _ (onto_file _ c.requires.found.source_path c.requires.found.target_path c.args.ends.now c.requires.found.are c.args.there c.requires.there (sym c.get-source.ensures.kind ∙ ap kind_word c.in-Dir-kind.is) (sym c.get-target.ensures.kind ∙ ap kind_word c.in-File.is))

pub returns-in-File-kind-2-clause-refused : goal.returns-in-File-kind-2-clause-refused
returns-in-File-kind-2-clause-refused g c = found_stops _ c.args.from.now c.args.to.now c.args.ends.now c.requires.found _ (onto_directory _ c.requires.found.source_path c.requires.found.target_path c.args.ends.now c.requires.found.are c.args.there c.requires.there (sym c.get-source.ensures.kind ∙ ap kind_word c.in-File-kind-2.is) (sym c.get-target.ensures.kind ∙ ap kind_word c.in-Dir.is))

pub returns-then-is_empty-clause-leaves : goal.returns-then-is_empty-clause-leaves
returns-then-is_empty-clause-leaves g c =
    directory_leaves _ c.args.to.now _ _ _ (target_entry _ c.args.from.now c.args.to.now c.args.ends.now c.requires.found c.args.there c.requires.there)
    (rw (c.of-tree.ensures.root ∙ c.get-target.ensures.root, c.of-tree.ensures.size ∙ c.get-target.ensures.size) at (c.is_empty.ensures.0 c.if-is_empty.true))

pub returns-then-is_empty-clause-allowed : goal.returns-then-is_empty-clause-allowed
returns-then-is_empty-clause-allowed g c =
    found_goes _ c.args.from.now c.args.to.now c.args.ends.now c.requires.found
    (empty_goes _ c.requires.found.source_path c.requires.found.target_path c.args.ends.now c.requires.found.are c.args.there c.requires.there (sym c.get-source.ensures.kind ∙ ap kind_word c.in-Dir-kind-2.is) (sym c.get-target.ensures.kind ∙ ap kind_word c.in-Dir.is)
    (rw (c.of-tree.ensures.root ∙ c.get-target.ensures.root, c.of-tree.ensures.size ∙ c.get-target.ensures.size) at (c.is_empty.ensures.0 c.if-is_empty.true)))

pub returns-else-is_empty-clause-refused : goal.returns-else-is_empty-clause-refused
returns-else-is_empty-clause-refused g c =
    found_stops _ c.args.from.now c.args.to.now c.args.ends.now c.requires.found _
    (not_empty_stops _ c.requires.found.source_path c.requires.found.target_path c.args.ends.now c.requires.found.are c.args.there c.requires.there (other_ends _ c.requires.found.source_path c.requires.found.target_path c.args.ends.now c.requires.found.are c.requires.other) (sym c.get-source.ensures.kind ∙ ap kind_word c.in-Dir-kind-2.is) (sym c.get-target.ensures.kind ∙ ap kind_word c.in-Dir.is)
    (λ none. true≢false (sym (c.is_empty.ensures.1 (rw (c.of-tree.ensures.root ∙ c.get-target.ensures.root, c.of-tree.ensures.size ∙ c.get-target.ensures.size) none)) ∙ c.if-is_empty.false)))
