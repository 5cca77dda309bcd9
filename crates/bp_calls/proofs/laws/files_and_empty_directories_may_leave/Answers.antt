use Rattle.bp_calls.proofs.MayLeave.{directory_may_leave, emptied_counts_none, file_may_leave, found_ino, found_spelled}
use Rattle.bp_calls.proofs.laws.files_and_empty_directories_may_leave.Goals as goal

pub returns : goal.returns
returns c = record {
  ino = found_ino c.args.image.now;
  spelled = found_spelled c.args.image.now;
  file = file_may_leave c.args.image.now;
  directory = directory_may_leave c.args.image.now;
  no_other = λ i s j can. emptied_counts_none c.args.image.now j i s can;
}
