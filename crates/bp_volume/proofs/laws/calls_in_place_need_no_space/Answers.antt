use Rattle.bp_volume.proofs.FullLaws.{rmdir_plainly, set_plainly, truncate_plainly, unlink_plainly, write_plainly}
use Rattle.bp_volume.proofs.laws.calls_in_place_need_no_space.Goals as goal

pub returns : goal.returns
returns c = record {
  unlink = λ tree stands alone text. unlink_plainly c.args.image.now tree stands alone text;
  rmdir = λ tree stands alone text. rmdir_plainly c.args.image.now tree stands alone text;
  truncate = λ tree stands alone text size. truncate_plainly c.args.image.now tree stands alone text size;
  write = λ tree stands alone text new i offset. write_plainly c.args.image.now tree stands alone text new i offset;
  set_attribute = λ tree stands alone text number value few. set_plainly c.args.image.now tree stands alone text number value few;
}
