use Rattle.std.proofs.Common.{rules}
use Rattle.bpfs_c.specs.Serves.Asks.{asked}
use Rattle.bp_volume.specs.Seen.{list_answer_of}
use Rattle.bpfs_c.proofs.snapshot.bpfs_snap_list.Goals as goal

pub returns : goal.returns
returns c = asked c.in-Some.mounted.value (list_answer_of c.look_snap_list-ending.result) (search rules) (search rules) (search rules) (search rules)
