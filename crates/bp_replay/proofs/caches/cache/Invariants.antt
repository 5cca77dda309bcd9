use Rattle.std.proofs.Common.{◌≡◌, ◌*◌, ◌≤◌, length, map, take, drop, None}
use Rattle.pm_cores.specs.Caches.{caches_over}
use Rattle.pm_cores.specs.Played.{IsPlayed}
use Rattle.bp_replay.specs.Generator.{next_state}
use Rattle.bp_replay.specs.Cache.{cache_run, without_value, IsLike, IsWordBelow}
use Rattle.bp_replay.proofs.caches.cache.Given as goal

abbrev pub invariant-loop-i : goal.invariant-loop-i
invariant-loop-i g l =
    let base = (g.R.Region.memory l.region).base in
    let events = (g.R.Region.memory l.region).events in
    let played = map without_value events in
    let begun = caches_over l.fn.cores.cores l.fn.cores.words l.fn.cores.capacity in
    record {
      like : IsLike begun (2 * l.i) l.cores;
      last : IsWordBelow (length base) l.last;
      run : cache_run l.cores l.last l.generator.state (drop l.i (take l.moment played)) ≡ cache_run begun None (next_state l.seed) (take l.moment played);
      played : IsPlayed (take l.i played) l.cores.log;
      moment : l.moment ≤ length events;
    }
