use Rattle.std.proofs.Common.{◌≡◌, rules, subst}
use Rattle.bpfs_c.specs.Events.{held_events}
use Rattle.bpfs_c.specs.Runs.{HasPiece}
use Rattle.bpfs_c.proofs.runs.bpfs_run_at.Goals as goal

pub returns-clause-run : goal.returns-clause-run
returns-clause-run c =
    let reported = c.copy_run-count in
    let is : c.region.result.now.events ≡ held_events c.args.handle.now.held = search rules in
    subst (λ events. HasPiece events c.args.first c.args.reported.now c.args.values.now reported.result reported.new.reported reported.new.values) is reported.ensures
