use Rattle.std.proofs.Common.{◌≡◌, ◌+◌, ◌*◌, ◌∙◌, ap, sym, subst, arith, length, map, take, refl, None, Some, ◌%◌, ◌≤◌, [], ◌∷◌, ◌++◌}
use Rattle.pm_cores.specs.Played.{IsPlayed}
use Rattle.pm_epochs.specs.Replay.{Chosen}
use Rattle.std.proofs.Math.Nat.{mod-lt}
use Rattle.pm_cores.specs.Caches.{Caches, caches_over}
use Rattle.pm_cores.specs.Choice.{cut_at}
use Rattle.pm_epochs.specs.Kind.{event_of, value_at}
use Rattle.std.proofs.lemmas.List.{drop_all, length-map, length-take}
use Rattle.bp_replay.specs.Generator.{drawn, next_state}
use Rattle.bp_replay.specs.Cache.{after_event, after_draw, last_word, cache_moment, cache_run, without_value}
use Rattle.bp_replay.proofs.Blind.{below-bare, cut-blind, get-bare, right-bare, take-map}
use Rattle.bp_replay.proofs.CacheRuns.{event_like, draw_like, stored_below, last_below, dropped_at}
use Rattle.bp_replay.proofs.CachePlayed.{played_start, event_played, draw_played, taken_more}
use Rattle.bp_replay.proofs.caches.cache.Goals as goal

pub loop-i-init : goal.loop-i-init
loop-i-init g c =
    let few = mod-lt (drawn c.new-generator.result.state) {m = c.event_count.result + 1} (omega arith) in
    let state : c.draw_up_to-moment.new.self.state ≡ next_state c.args.seed = c.draw_up_to-moment.ensures.state ∙ ap next_state c.new-generator.ensures in
    record {
      like = rw c.begin.ensures (record { cores = refl; words = refl; capacity = refl; few = omega arith });
      last = tt;
      played = rw c.begin.ensures (played_start []);
      run = rw (c.begin.ensures, state) refl;
      moment = let count = c.event_count.ensures.count in let d = c.draw_up_to-moment.ensures.drawn in omega arith;
    }

pub play_kind-requires-clause-word : goal.play_kind-requires-clause-word
play_kind-requires-clause-word g c = λ word same.
    let base = (g.R.Region.memory c.args.region.now).base in
    let events = (g.R.Region.memory c.args.region.now).events in
    let value = value_at events c.loop-i.i in
    let low = stored_below (length base) events c.loop-i.i word value c.requires.stores (c.kind-kind.ensures.get ∙ ap (λ kind. Some (event_of kind value)) same) in
    let words = c.loop-i.invariant.like.words in
    let sized = c.requires.words in
    omega arith

pub play_kind-requires-clause-room : goal.play_kind-requires-clause-room
play_kind-requires-clause-room g c =
    let few = c.loop-i.invariant.like.few in
    let capacity = c.loop-i.invariant.like.capacity in
    let moment = c.loop-i.invariant.moment in
    let test = c.loop-i-test.true in
    let room = c.requires.room in
    omega arith

pub play_draw-requires-clause-cores : goal.play_draw-requires-clause-cores
play_draw-requires-clause-cores g c =
    let like = event_like _ (2 * c.loop-i.i) c.loop-i.cores (event_of c.kind-kind.result 0) c.loop-i.invariant.like in
    let cores = ap (λ (s : Caches). s.cores) c.play_kind.ensures in
    let same = like.cores in
    let two = c.requires.cores in
    omega arith

pub play_draw-requires-clause-room : goal.play_draw-requires-clause-room
play_draw-requires-clause-room g c =
    let like = event_like _ (2 * c.loop-i.i) c.loop-i.cores (event_of c.kind-kind.result 0) c.loop-i.invariant.like in
    let log = ap (λ (s : Caches). length s.log) c.play_kind.ensures in
    let capacity = ap (λ (s : Caches). s.capacity) c.play_kind.ensures in
    let few = like.few in
    let same = like.capacity in
    let moment = c.loop-i.invariant.moment in
    let test = c.loop-i-test.true in
    let room = c.requires.room in
    omega arith

pub play_draw-requires-clause-word : goal.play_draw-requires-clause-word
play_draw-requires-clause-word g c =
    let base = (g.R.Region.memory c.args.region.now).base in
    let events = (g.R.Region.memory c.args.region.now).events in
    let like = event_like _ (2 * c.loop-i.i) c.loop-i.cores (event_of c.kind-kind.result 0) c.loop-i.invariant.like in
    let words : c.play_kind.new.cores.words ≡ length base = ap (λ (s : Caches). s.words) c.play_kind.ensures ∙ like.words ∙ c.requires.words in
    let below = last_below (length base) c.loop-i.last (event_of c.kind-kind.result 0) c.loop-i.invariant.last (below-bare (length base) events c.loop-i.i c.kind-kind.result (value_at events c.loop-i.i) c.requires.stores c.kind-kind.ensures.get) in
    rw (words, c.word_after-last.ensures) below

pub loop-i-preserved : goal.loop-i-preserved
loop-i-preserved g c =
    let base = (g.R.Region.memory c.args.region.now).base in
    let events = (g.R.Region.memory c.args.region.now).events in
    let begun = caches_over c.args.cores.now.cores c.args.cores.now.words c.args.cores.now.capacity in
    let event = event_of c.kind-kind.result 0 in
    let moment = c.draw_up_to-moment.result in
    let like = draw_like begun (2 * c.loop-i.i + 1) (after_event c.loop-i.cores event) (last_word c.loop-i.last event) (drawn c.loop-i.generator.state) (event_like begun (2 * c.loop-i.i) c.loop-i.cores event c.loop-i.invariant.like) in
    let twice : (2 * c.loop-i.i + 1) + 1 ≡ 2 * (c.loop-i.i + 1) = omega arith in
    let cores_are : c.play_draw.new.cores ≡ after_draw (after_event c.loop-i.cores event) (last_word c.loop-i.last event) (drawn c.loop-i.generator.state) =
    c.play_draw.ensures ∙ rw (c.play_kind.ensures, c.word_after-last.ensures, c.draw.ensures.drawn) refl in
    let played = map without_value events in
    let there = get-bare events c.loop-i.i c.kind-kind.result (value_at events c.loop-i.i) c.kind-kind.ensures.get in
    let next = dropped_at played moment c.loop-i.i event c.loop-i-test.true there in
    record {
      like = rw (cores_are, ← twice) like;
      last = rw c.word_after-last.ensures (last_below (length base) c.loop-i.last event c.loop-i.invariant.last (below-bare (length base) events c.loop-i.i c.kind-kind.result (value_at events c.loop-i.i) c.requires.stores c.kind-kind.ensures.get));
      run = rw (cores_are, c.word_after-last.ensures, c.draw.ensures.state) (sym (ap (cache_run c.loop-i.cores c.loop-i.last c.loop-i.generator.state) next) ∙ c.loop-i.invariant.run);
      played = rw (cores_are, taken_more played c.loop-i.i event there)
          (draw_played (take c.loop-i.i played ++ event ∷ []) (after_event c.loop-i.cores event) (last_word c.loop-i.last event) (drawn c.loop-i.generator.state) (event_played (take c.loop-i.i played) c.loop-i.cores event c.loop-i.invariant.played));
      moment = c.loop-i.invariant.moment;
    }

pub returns-clause-chosen : goal.returns-clause-chosen
returns-clause-chosen g c =
    let events = (g.R.Region.memory c.args.region.now).events in
    let played = map without_value events in
    let begun = caches_over c.args.cores.now.cores c.args.cores.now.words c.args.cores.now.capacity in
    let state = next_state c.args.seed in
    let moment = c.draw_up_to-moment.result in
    let test = c.loop-i-test.false in
    let loop = c.loop-i in
    let none = drop_all loop.i (take moment played) (omega (arith, length-take moment played)) in
    let moment_is : moment ≡ cache_moment events c.args.seed =
    c.draw_up_to-moment.ensures.drawn ∙ ap (λ s. drawn s % (c.event_count.result + 1)) c.new-generator.ensures ∙ ap (λ n. drawn c.args.seed % (n + 1)) c.event_count.ensures.count in
    ap (λ (it : Chosen). it.cut) c.choice.ensures
    ∙ ap (λ it. cut_at it moment) (sym (ap (cache_run loop.cores loop.last loop.generator.state) none) ∙ loop.invariant.run)
    ∙ ap (λ es. cut_at (cache_run begun None state es) moment) (take-map moment events)
    ∙ cut-blind begun None state (take moment events) moment refl
    ∙ ap (λ n. cut_at (cache_run begun None state (take n events)) n) moment_is

pub returns-clause-right : goal.returns-clause-right
returns-clause-right g c =
    let events = (g.R.Region.memory c.args.region.now).events in
    let bare = map without_value events in
    let moment = c.draw_up_to-moment.result in
    let test = c.loop-i-test.false in
    let at : c.loop-i.i ≡ moment = omega arith in
    let played = subst (λ n. IsPlayed (take n bare) c.loop-i.cores.log) at c.loop-i.invariant.played in
    let fits = subst (λ n. moment ≤ n) (sym (length-map events without_value)) c.loop-i.invariant.moment in
    let cut_is = ap (λ (it : Chosen). it.cut) c.choice.ensures in
    rw cut_is (right-bare events (cut_at c.loop-i.cores moment) (c.a_choice_leaves_the_memory.ensures.right c.loop-i.cores bare moment c.is_coherent.ensures fits played))

pub play_draw-requires-clause-region : goal.play_draw-requires-clause-region
play_draw-requires-clause-region g c =
    let like = event_like _ (2 * c.loop-i.i) c.loop-i.cores (event_of c.kind-kind.result 0) c.loop-i.invariant.like in
    ap (λ (s : Caches). s.words) c.play_kind.ensures ∙ like.words ∙ c.requires.words

pub returns-clause-cores_like : goal.returns-clause-cores_like
returns-clause-cores_like g c =
    let like = c.loop-i.invariant.like in
    let most = c.loop-i.invariant.moment in
    let test = c.loop-i-test.false in
    record { cores = like.cores; words = like.words; capacity = like.capacity; few = let few = like.few in omega arith }
