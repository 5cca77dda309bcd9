use Rattle.std.proofs.Common.{arith}
use Rattle.pm_epochs.specs.Kind.{event_of, value_at}
use Rattle.bp_session.proofs.ActingLaws.{one_more_barrier, one_more_call_end}
use Rattle.bp_session.proofs.actions.count_log.Goals as goal
use Rattle.bp_session.proofs.actions.count_log.Goals.{in-Store, in-Barrier, in-CallEnd}

pub loop-i-preserved : goal.loop-i-preserved
loop-i-preserved g c =
    let events = (g.R.Region.memory c.args.region.now).events in
    let event = event_of c.kind.result (value_at events c.loop-i.i) in
    let more_barriers = one_more_barrier events c.loop-i.i event c.kind.ensures.get in
    let more_dirty = one_more_call_end events c.loop-i.i event c.kind.ensures.get in
    elim c.match-kind.branch [
      | in-Store w ↦
          let b = rw w.in-Store.is at more_barriers in
          let m = rw w.in-Store.is at more_dirty in
          record { barriers = omega (arith, b, w.barriers-is); calls = omega (arith, m, w.calls-is); few_barriers = omega (arith, w.barriers-is); few_calls = omega (arith, w.calls-is) }
      | in-Barrier w ↦
          let b = rw w.in-Barrier.is at more_barriers in
          let m = rw w.in-Barrier.is at more_dirty in
          record { barriers = omega (arith, b, w.barriers-is); calls = omega (arith, m, w.calls-is); few_barriers = omega (arith, w.barriers-is); few_calls = omega (arith, w.calls-is) }
      | in-CallEnd w ↦
          let b = rw w.in-CallEnd.is at more_barriers in
          let m = rw w.in-CallEnd.is at more_dirty in
          record { barriers = omega (arith, b, w.barriers-is); calls = omega (arith, m, w.calls-is); few_barriers = omega (arith, w.barriers-is); few_calls = omega (arith, w.calls-is) }
    ]
