use Rattle.std.proofs.Common.{arith}
use Rattle.pm_epochs.proofs.Deciding.{kept_calls-le}
use Rattle.bp_play.proofs.TurnLaws.{few_call_ends}
use Rattle.bp_play.proofs.play.raise_storm.Goals as goal

pub count_storm-requires-clause-kept : goal.count_storm-requires-clause-kept
count_storm-requires-clause-kept g c =
    let few = few_call_ends (g.V.FileSystem.behaviour.memory (g.V.FileSystem.state c.args.system.now)) _ _ c.region.ensures c.event_count-events.ensures.count c.event_count-events.ensures.few c.requires.roomy in
    omega (arith, c.in-Ok.ensures.kept, kept_calls-le (g.V.FileSystem.behaviour.memory (g.V.FileSystem.state c.args.system.now)).events c.storm.new.choice.cut, few)

pub count_storm-requires-clause-of : goal.count_storm-requires-clause-of
count_storm-requires-clause-of g c =
    let few = few_call_ends (g.V.FileSystem.behaviour.memory (g.V.FileSystem.state c.args.system.now)) _ _ c.region.ensures c.event_count-events.ensures.count c.event_count-events.ensures.few c.requires.roomy in
    omega (arith, c.in-Ok.ensures.of, few)
