use Rattle.std.proofs.Common.{◌≡◌, drop, length, map, take}
use Rattle.bpfs_c.specs.Events.{seen_event}
use Rattle.bpfs_c.proofs.log.copy_events.Given as goal

abbrev pub invariant-loop-i : goal.invariant-loop-i
invariant-loop-i l =
    record {
      prefix : take l.i l.into ≡ map seen_event (take l.i (drop l.first l.region.events));
      rest : drop l.i l.into ≡ drop l.i l.fn.into;
      long : length l.into ≡ length l.fn.into;
    }
