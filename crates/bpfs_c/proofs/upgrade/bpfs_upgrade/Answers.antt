use Rattle.std.proofs.Common.{rules}
use Rattle.bpfs_c.specs.Serves.Exported.{full, served}
use Rattle.bp_plain.specs.Calls.Answer.{done}
use Rattle.bpfs_c.proofs.upgrade.bpfs_upgrade.Goals as goal
use Rattle.bpfs_c.proofs.upgrade.bpfs_upgrade.Goals.{then-has_room, else-has_room}

pub returns : goal.returns
returns c =
    let held = c.in-Some.mounted.value in
    elim c.if-has_room.branch [
      | then-has_room w ↦ served held (search rules) (search rules) (record {
        answer = done;
        volume = w.upgrade.new.self;
        is_call = search rules;
        held = search rules;
        reported = search rules;
      })
      | else-has_room w ↦ full held (search rules) (search rules) (search rules) (search rules) (search rules)
    ]
