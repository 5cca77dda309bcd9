use Rattle.std.proofs.Common.{◌≡◌, ◌∙◌, ap, arith, length, replicate}
use Rattle.std.specs.Vec.{with_items}
use Rattle.pm_cores.proofs.Cleaning.{fresh_sound, zero_at}
use Rattle.pm_cores.proofs.Report.{fresh_recorded}
use Rattle.pm_cores.proofs.Vectors.{stored_in_lasts, stored_in_since, zeroed}
use Rattle.pm_cores.proofs.Views.{begun_seen}
use Rattle.pm_cores.proofs.cores.Cores.begin.Goals.{After-clean_words}
use Rattle.pm_cores.proofs.cores.Cores.begin.Goals as goal

-- no word waits
clean : (c : After-clean_words) → (with_items c.self.inside.since c.clean_words.new.since).items ≡ replicate c.self.inside.words 0
clean c =
    zeroed c.self.inside.since _ _ c.deref_mut.ensures.value c.clean_words.ensures ∙ ap (λ n. replicate n 0) c.self.invariant.sound.as_many_since

pub clean_words-requires : goal.clean_words-requires
clean_words-requires c =
    rw (c.deref_mut.ensures.value, c.deref.ensures.value)
    (record { words = stored_in_since c.self.inside c.self.invariant; first = c.self.invariant.sound.first })

pub clean_words-requires-2 : goal.clean_words-requires-2
clean_words-requires-2 c =
    rw (c.deref_mut-2.ensures.value, c.deref-2.ensures.value)
    (record { words = stored_in_lasts c.self.inside c.self.invariant; first = c.self.invariant.recorded.store })

pub invariant_of-self : goal.invariant_of-self
invariant_of-self c =
    let inside = c.self.inside in
    let old = c.self.invariant in
    let since = clean (goal.at.invariant_of-self c).After-clean_words in
    let lasts = zeroed inside.lasts _ _ c.deref_mut-2.ensures.value c.clean_words-2.ensures ∙ ap (λ n. replicate n 0) old.recorded.as_many_lasts in
    let counts = zeroed inside.counts _ _ c.deref_mut-3.ensures.value c.clear_counts.ensures in
    let lows = zeroed inside.lows _ _ c.deref_mut-4.ensures.value c.clear_places.ensures in
    let log = c.clear.ensures in
    record {
      sound = rw (since, log.items, c.clear-2.ensures.items) (fresh_sound inside.words);
      recorded = rw (lasts, log.items, c.clear-3.ensures.items) (fresh_recorded inside.words);
      lows = λ core known. rw (log.items, lows) (λ place word waits. omega (arith, zero_at (length inside.lows.items) core));
      low_heights = λ core known. rw (log.items, lows) (omega (arith, zero_at (length inside.lows.items) core));
      counts = λ core known. rw (log.items, counts) (zero_at (length inside.counts.items) core);
      known_cores = rw log.items (λ place entry is. cc);
      as_many_lows = old.as_many_lows;
      some_core = old.some_core;
      fits = omega (arith, log.len);
      few = old.few;
      whole_lines = old.whole_lines;
      log_reserved = omega (arith, log.capacity, old.log_reserved);
      epochs_reserved = omega (arith, c.clear-2.ensures.capacity, old.epochs_reserved);
      befores_reserved = omega (arith, c.clear-3.ensures.capacity, old.befores_reserved);
    }

pub returns : goal.returns
returns c =
    let inside = c.self.inside in
    rw (← c.self.view_is, clean (goal.at.returns c).After-clean_words, c.clear.ensures.items, c.clear-2.ensures.items)
    (begun_seen inside.counts.len inside.words inside.room)
