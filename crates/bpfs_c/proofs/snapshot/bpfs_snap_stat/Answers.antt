use Rattle.std.proofs.Common.{rules, Some, ap, sym, ◌∙◌}
use Rattle.bpfs_c.specs.Serves.Asks.{asked}
use Rattle.bp_volume.specs.Seen.{stat_answer_of}
use Rattle.bpfs_c.proofs.Keeping.{stat_keeps}
use Rattle.bpfs_c.proofs.snapshot.bpfs_snap_stat.Goals as goal

pub returns : goal.returns
returns c =
    let held = c.in-Some.mounted.value in
    asked held (stat_answer_of c.look_snap_stat.result) (search rules) (search rules)
    (search rules ∙ ap (λ kept. Some (record held { listing = kept })) (sym (stat_keeps held.listing c.look_snap_stat.result)))
    (search rules)
