use Rattle.std.proofs.Common.{refl, ap, ◌∙◌}
use Rattle.bp_session.proofs.ActingLaws.{does_sync}
use Rattle.bp_session.proofs.actions.act.Goals as goal

pub returns-in-Synced-clause-does : goal.returns-in-Synced-clause-does
returns-in-Synced-clause-does g c =
    let it = g.V.FileSystem.behaviour in
    let left = c.in-Synced.ensures.left refl in
    rw left.0 (does_sync it g.met.V.FileSystem.lawful (g.V.FileSystem.state c.args.system.now) _ _ (c.sync.ensures.drained ∙ ap it.drained left.1))

pub returns-in_default-clause-does : goal.returns-in_default-clause-does
returns-in_default-clause-does g c = c.act_but_sync.ensures.does c.in_default.not-Synced
