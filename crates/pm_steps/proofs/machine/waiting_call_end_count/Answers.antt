use Rattle.std.proofs.Common.{arith, false}
use Rattle.std.proofs.lemmas.Bool.Decides.{nat_tests}
use Rattle.std.proofs.lemmas.Option.{get_or_from_slice_get}
use Rattle.pm_epochs.specs.declared.event.Event.TheVariants.{Store}
use Rattle.pm_epochs.specs.Kind.{event_of, value_at}
use Rattle.pm_steps.proofs.Scan.{waiting_call_ends-drop}
use Rattle.pm_steps.proofs.machine.waiting_call_end_count.Goals as goal
use Rattle.pm_steps.proofs.machine.waiting_call_end_count.Goals.{in-Store+else-not-is_back, then-i-len, else-i-len, in-Barrier, in-CallEnd}

pub loop-i-preserved : goal.loop-i-preserved
loop-i-preserved g c =
    let events = (g.R.Region.memory c.args.region.now).events in
    let back = c.args.backs.now.back in
    let i = c.loop-i.i in
    let step = waiting_call_ends-drop events back i (Store 0 0) (omega arith) in
    let event = get_or_from_slice_get events i (event_of c.kind.result (value_at events i)) (Store 0 0) c.kind.ensures.get in
    elim c.match-kind.branch [
      | in-Store+else-not-is_back w ↦ elim w.if-i-len.branch [
        | then-i-len w' ↦
            let flag = get_or_from_slice_get back i w'.is_back-is_back.result false w'.is_back-is_back.ensures.get in
            grind (arith, nat_tests, step, event, flag)
        | else-i-len w' ↦ grind (arith, nat_tests, step, event)
      ]
      | in-Barrier w ↦ grind (arith, nat_tests, step, event)
      | in-CallEnd w ↦ grind (arith, nat_tests, step, event)
    ]
