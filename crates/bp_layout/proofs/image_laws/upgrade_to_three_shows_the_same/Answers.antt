use Rattle.bp_layout.proofs.ToThree.{to_three_alone, to_three_file_system, to_three_one, to_three_shown, to_three_version}
use Rattle.bp_layout.proofs.image_laws.upgrade_to_three_shows_the_same.Goals as goal

pub returns : goal.returns
returns c = record {
  well_formed = to_three_file_system c.args.image.now c.requires;
  single = to_three_alone c.args.image.now c.requires;
  version = to_three_version c.args.image.now c.requires;
  shows = λ clear none. to_three_shown c.args.image.now c.requires clear none;
  one = to_three_one c.args.image.now c.requires;
}
