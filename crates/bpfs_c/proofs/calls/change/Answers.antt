use Rattle.std.proofs.Common.{rules, Some, ap, sym, ◌∙◌}
use Rattle.bpfs_c.specs.Serves.Exported.{full, served}
use Rattle.bp_volume.specs.Seen.{unit_answer}
use Rattle.bpfs_c.proofs.Keeping.{unit_keeps}
use Rattle.bpfs_c.proofs.calls.change.Goals as goal
use Rattle.bpfs_c.proofs.calls.change.Goals.{then-has_room, else-has_room}

pub returns : goal.returns
returns g c = λ call is.
    let held = c.in-Some.mounted.value in
    elim c.if-has_room.branch [
      | then-has_room w ↦ served held (search rules) (search rules) (record {
        answer = unit_answer w.act.result;
        volume = w.act.new.arg2;
        is_call = is _ _ w.act.result (record { shown = _; shows = search rules; left = _; met = w.act.ensures; leaves = search rules });
        held = search rules
            ∙ ap (λ kept. Some (record held { volume = w.act.new.arg2; listing = kept })) (sym (unit_keeps held.listing w.act.result));
        reported = search rules;
      })
      | else-has_room w ↦ full held (search rules) (search rules) (search rules) (search rules) (search rules)
    ]
