use Rattle.std.proofs.Common.{rules, Some, ap, sym, ◌∙◌}
use Rattle.bp_volume.specs.Seen.{unit_answer}
use Rattle.bpfs_c.specs.Serves.Exported.{full, served}
use Rattle.bpfs_c.proofs.Keeping.{unit_keeps}
use Rattle.bpfs_c.proofs.batch.bpfs_batch.Goals as goal
use Rattle.bpfs_c.proofs.batch.bpfs_batch.Goals.{then-has_room, else-has_room}

pub returns-clause-fit : goal.returns-clause-fit
returns-clause-fit c fit =
    let held = c.in-Some-take.mounted.value in
    elim c.if-has_room.branch [
      | then-has_room w ↦ served held (search rules) (search rules) (record {
        answer = unit_answer w.batch.result;
        volume = w.batch.new.self;
        is_call = search rules;
        held = search rules
            ∙ ap (λ kept. Some (record held { volume = w.batch.new.self; listing = kept })) (sym (unit_keeps held.listing w.batch.result));
        reported = search rules;
      })
      | else-has_room w ↦ full held (search rules) (search rules) (search rules) (search rules) (search rules)
    ]
