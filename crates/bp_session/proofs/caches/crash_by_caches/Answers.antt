use Rattle.bp_session.proofs.caches.crash_by_caches.Goals as goal

pub cache-requires-clause-stores : goal.cache-requires-clause-stores
cache-requires-clause-stores g c = rw c.region-3.ensures (rw c.region.ensures at c.event_count-events.ensures.within)
