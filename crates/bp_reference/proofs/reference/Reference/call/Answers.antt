use Rattle.std.proofs.Common.{ap}
use Rattle.pm_region.specs.Memory.{Memory, Adds}
use Rattle.bp_reference.proofs.LatestLaws.{counted_more, one_by_one}
use Rattle.bp_reference.specs.ByTree.{call_events}
use Rattle.bp_reference.proofs.reference.Reference.call.Goals as goal

pub invariant_of-self-2 : goal.invariant_of-self-2
invariant_of-self-2 c =
    let adds : Adds c.args.self.now.region c.end_call.new.self call_events = one_by_one c.args.self.now.region c.store.new.self c.barrier.new.self c.end_call.new.self c.store.ensures c.barrier.ensures c.end_call.ensures in
    record {
      in_step = record {
        counted = counted_more _ _ _ _ _ c.args.self.now.in_step.counted c.in_ok-push.ensures.items (ap (λ (m : Memory). m.events) adds);
        some = rw adds c.args.self.now.in_step.some;
        roomy = rw adds c.args.self.now.in_step.roomy;
      };
    }
