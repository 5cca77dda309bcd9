use Rattle.bp_layout.proofs.Format.{formatted_alone, formatted_file_system, formatted_version, shown_formatted_root, shown_formatted_else}
use Rattle.bp_layout.proofs.image_laws.format_shows_the_root.Goals as goal

pub returns : goal.returns
returns c = record {
  well_formed = formatted_file_system c.args.image.now c.args.version c.args.blocks c.requires.whole c.requires.least c.requires.most;
  single = formatted_alone c.args.image.now c.args.version c.args.blocks c.requires.whole c.requires.least c.requires.most;
  version = formatted_version c.args.image.now c.args.version c.args.blocks c.requires.whole c.requires.least;
  root = shown_formatted_root c.args.image.now c.args.version c.args.blocks c.requires.whole c.requires.least c.requires.most;
  alone = shown_formatted_else c.args.image.now c.args.version c.args.blocks c.requires.whole c.requires.least c.requires.most;
}
