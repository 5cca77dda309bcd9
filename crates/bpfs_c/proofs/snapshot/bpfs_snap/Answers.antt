use Rattle.std.proofs.Common.{rules, Some, ap, sym, ◌∙◌}
use Rattle.bpfs_c.specs.Serves.Exported.{full, served}
use Rattle.bp_volume.specs.Seen.{unit_answer}
use Rattle.bpfs_c.proofs.Keeping.{unit_keeps}
use Rattle.bpfs_c.proofs.snapshot.bpfs_snap.Goals as goal
use Rattle.bpfs_c.proofs.snapshot.bpfs_snap.Goals.{then-has_room, else-has_room}

pub returns : goal.returns
returns c =
    let held = c.in-Some.mounted.value in
    elim c.if-has_room.branch [
      | then-has_room w ↦ served held (search rules) (search rules) (record {
        answer = unit_answer w.snap.result;
        volume = w.snap.new.self;
        is_call = search rules;
        held = search rules
            ∙ ap (λ kept. Some (record held { volume = w.snap.new.self; listing = kept })) (sym (unit_keeps held.listing w.snap.result));
        reported = search rules;
      })
      | else-has_room w ↦ full held (search rules) (search rules) (search rules) (search rules) (search rules)
    ]
