use Rattle.bp_layout.proofs.Upgrade.{upgraded_alone, upgraded_one, upgraded_shown, upgraded_version, upgraded_file_system}
use Rattle.bp_layout.proofs.image_laws.upgrade_shows_the_same.Goals as goal

pub returns : goal.returns
returns c = record {
  well_formed = upgraded_file_system c.args.image.now c.requires;
  single = upgraded_alone c.args.image.now c.requires;
  version = upgraded_version c.args.image.now c.requires;
  shows = λ none. upgraded_shown c.args.image.now c.requires none;
  one = upgraded_one c.args.image.now c.requires;
}
