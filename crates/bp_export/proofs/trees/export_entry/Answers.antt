use Rattle.std.proofs.Common.{◌++◌, sym, ◌∙◌, ap, subst}
use Rattle.std.specs.Prelude.{Ok}
use Rattle.std.proofs.lemmas.Result.{err_from_is_err_and}
use Rattle.bp_layout.specs.Fields.{kind_word}
use Rattle.bp_layout.specs.Inode.{IsDirectory, attributes_of}
use Rattle.bp_layout.specs.Paths.Node.{dir}
use Rattle.bp_layout.specs.Words.{Image}
use Rattle.bp_plain.specs.Export.{calls_for}
use Rattle.pm_region.specs.Memory.{current_words}
use Rattle.bp_export.specs.Walking.{RemembersFirsts, itself}
use Rattle.bp_export.specs.declared.firsts.Firsts.{Firsts}
use Rattle.bp_export.proofs.NameLaws.{directory_here, directory_remembered, fails_so, fits_directory, inode_found, toured_so, tours_end}
use Rattle.bp_export.proofs.RowLaws.{inode_file_sound}
use Rattle.bp_export.proofs.TreeLaws.{found_low, written_here}
use Rattle.bp_export.proofs.trees.export_entry.Goals as goal

pub get-inode-requires-clause-sound : goal.get-inode-requires-clause-sound
get-inode-requires-clause-sound g c = inode_file_sound _ c.requires.well_formed

pub get-inode-requires-clause-some : goal.get-inode-requires-clause-some
get-inode-requires-clause-some g c = found_low (current_words (g.R.Region.memory c.args.region.now)) c.requires.well_formed c.requires.stands.0.path c.args.ino c.requires.stands.1.found

pub get-inode-requires-clause-there : goal.get-inode-requires-clause-there
get-inode-requires-clause-there g c =
    (inode_found (current_words (g.R.Region.memory c.args.region.now)) c.requires.well_formed c.args.counts.now c.args.ino c.args.work.now.path.items c.args.work.now.firsts c.requires.stands.0 c.requires.stands.1).high

pub get-inode-requires-clause-least : goal.get-inode-requires-clause-least
get-inode-requires-clause-least g c =
    (inode_found (current_words (g.R.Region.memory c.args.region.now)) c.requires.well_formed c.args.counts.now c.args.ino c.args.work.now.path.items c.args.work.now.firsts c.requires.stands.0 c.requires.stands.1).least

pub get-inode-requires-clause-most : goal.get-inode-requires-clause-most
get-inode-requires-clause-most g c =
    (inode_found (current_words (g.R.Region.memory c.args.region.now)) c.requires.well_formed c.args.counts.now c.args.ino c.args.work.now.path.items c.args.work.now.firsts c.requires.stands.0 c.requires.stands.1).most

pub export_directory-requires-clause-inode : goal.export_directory-requires-clause-inode
export_directory-requires-clause-inode g c = written_here _ c.requires.well_formed c.requires.stands.0.path c.args.ino c.requires.stands.1.found c.args.work.now.attributes c.requires.attributes

pub export_directory-requires-clause-short : goal.export_directory-requires-clause-short
export_directory-requires-clause-short g c =
    let image : Image = current_words (g.R.Region.memory c.args.region.now) in
    let kind : IsDirectory image c.args.ino = sym c.get-inode.ensures.kind ∙ ap kind_word c.in-Dir.is in
    fits_directory image c.requires.well_formed c.args.counts.now c.args.ino c.args.work.now.path.items c.args.work.now.firsts c.requires.stands.0 c.requires.stands.1 c.requires.below kind

pub returns-in_err-export_directory-in-Dir-clause-tours : goal.returns-in_err-export_directory-in-Dir-clause-tours
returns-in_err-export_directory-in-Dir-clause-tours g c place stands =
    let image : Image = current_words (g.R.Region.memory c.args.region.now) in
    let kind : IsDirectory image c.args.ino = sym c.get-inode.ensures.kind ∙ ap kind_word c.in-Dir.is in
    let p = err_from_is_err_and c.from_residual-in_err-export_directory-in-Dir.result c.from_residual-in_err-export_directory-in-Dir.ensures.1 in
    tours_end image c.requires.well_formed c.args.counts.now c.args.ino c.args.work.now.path.items c.args.work.now.firsts place stands _ p.0 p.1 _ _ _ _ _
    (fails_so image c.requires.well_formed c.args.counts.now c.args.ino c.args.work.now.path.items c.args.work.now.firsts place stands (Unit {0}) _ _ p.0 p.2 _ _ _ _ _
    (directory_here image c.requires.well_formed c.args.counts.now c.args.ino c.args.work.now.path.items c.args.work.now.firsts place stands c.requires.below kind) c.in_err-export_directory-in-Dir.ensures.goes _)

pub returns-in_ok-export_directory-in-Dir-clause-tours : goal.returns-in_ok-export_directory-in-Dir-clause-tours
returns-in_ok-export_directory-in-Dir-clause-tours g c place stands =
    let image : Image = current_words (g.R.Region.memory c.args.region.now) in
    let counts = c.args.counts.now in
    let text = c.args.work.now.path.items in
    let firsts = c.args.work.now.firsts in
    let kind : IsDirectory image c.args.ino = sym c.get-inode.ensures.kind ∙ ap kind_word c.in-Dir.is in
    let noted = place.noted ++ itself image c.args.ino place.tree place.path in
    toured_so image c.requires.well_formed counts c.args.ino text firsts place stands (Ok c.get-inode.result.kind) _ _ _ _ (calls_for text (dir (attributes_of image c.args.ino)))
    (directory_here image c.requires.well_formed counts c.args.ino text firsts place stands c.requires.below kind) c.in_ok-export_directory-in-Dir.ensures.goes _
    (subst (λ (after : Firsts). RemembersFirsts image counts after noted) (sym c.in_ok-export_directory-in-Dir.ensures.firsts) (directory_remembered image c.requires.well_formed counts c.args.ino text firsts place stands c.requires.below kind))
