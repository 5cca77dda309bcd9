use Rattle.std.proofs.Common.{◌∙◌, ◌==◌, sym, ap, ap₂}
use Rattle.std.specs.Prelude.{if◌then◌else◌}
use Rattle.bp_read.specs.Names.{name_count}
use Rattle.bp_layout.specs.Fields.{kind_word}
use Rattle.bp_layout.specs.Inode.{root_of, size_of}
use Rattle.bp_layout.specs.Words.{Image}
use Rattle.bp_layout.specs.declared.fields.Stat.TheVariants as stat
use Rattle.pm_region.specs.Memory.{current_words}
use Rattle.bp_calls.proofs.ReadingLaws.{inode_file_sound, inode_reached}
use Rattle.bp_calls.proofs.queries.stat.Goals as goal

pub get-inode-requires-clause-sound : goal.get-inode-requires-clause-sound
get-inode-requires-clause-sound g c = inode_file_sound _ c.requires.well_formed

pub get-inode-requires-clause-there : goal.get-inode-requires-clause-there
get-inode-requires-clause-there g c = (inode_reached _ c.requires.well_formed c.args.ino c.requires.reached c.requires.inode).high

pub get-inode-requires-clause-least : goal.get-inode-requires-clause-least
get-inode-requires-clause-least g c = (inode_reached _ c.requires.well_formed c.args.ino c.requires.reached c.requires.inode).least

pub get-inode-requires-clause-most : goal.get-inode-requires-clause-most
get-inode-requires-clause-most g c = (inode_reached _ c.requires.well_formed c.args.ino c.requires.reached c.requires.inode).most

pub returns-in-File : goal.returns-in-File
returns-in-File g c =
    let image : Image = current_words (g.R.Region.memory c.args.region.now) in
    ap stat.File c.get-inode.ensures.size
    ∙ ap (λ k. if k == 1 then stat.File (size_of image c.args.ino) else stat.Dir (name_count image (root_of image c.args.ino) (size_of image c.args.ino))) (ap kind_word (sym c.in-File.is) ∙ c.get-inode.ensures.kind)

pub returns-in-Dir : goal.returns-in-Dir
returns-in-Dir g c =
    let image : Image = current_words (g.R.Region.memory c.args.region.now) in
    ap stat.Dir (c.count.ensures ∙ ap₂ (name_count image) c.get-inode.ensures.root c.get-inode.ensures.size)
    ∙ ap (λ k. if k == 1 then stat.File (size_of image c.args.ino) else stat.Dir (name_count image (root_of image c.args.ino) (size_of image c.args.ino))) (ap kind_word (sym c.in-Dir.is) ∙ c.get-inode.ensures.kind)
