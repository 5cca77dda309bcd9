-- Parts of a log as they stand in memory.
use Rattle.std.proofs.Common.{◌≡◌, ℕ, ◌+◌, ◌-◌, ◌^◌, ◌<◌, ◌≤◌, List, ◌++◌, length, take, drop, get_or, sym, ◌∙◌, ap, arith, subst}
use Rattle.std.specs.List.{range_with_len}
use Rattle.std.proofs.lemmas.List.{length-drop, length-take-le, take-append-drop, take_rest}
use Rattle.pm_epochs.specs.declared.event.Event.{Event}
use Rattle.pm_raw.specs.Entries.{events_of}
use Rattle.pm_raw.specs.LogRuns.{IsPart, events_in_log}
use Rattle.pm_raw.specs.RunWords.{AreRuns, words_from}
use Rattle.pm_raw.specs.declared.log.Log.TheInside.{Inside}
use Rattle.pm_raw.proofs.EntryLaws.{events_of-drop, events_of-take, length_events}
use Rattle.pm_raw.proofs.WordLaws.{begun_by, drop-words_from, length-words_from, runs-suffix, runs-prefix, runs-same, take-words_from, word_in, words-suffix, words-prefix, words-same, words_from-range}

module _ (log : Inside) (part : IsPart log) where
  abbrev pub firsts : List ℕ
  firsts = log.firsts.now

  abbrev pub starts : List ℕ
  starts = log.starts.now

  abbrev pub values : List ℕ
  values = log.values.now

  abbrev pub at : ℕ
  at = log.at

  runs : AreRuns firsts starts at (at + length values)
  runs = part.runs

  abbrev pub words : List ℕ
  words = words_from firsts starts at (length values)

  abbrev pub events : List Event
  events = events_of words values

  pub each : length values ≡ length words
  each = sym (length-words_from firsts starts at (length values))

  pub length-part : length events ≡ length values
  length-part = length_events words values each ∙ sym each

  -- it has an event for each value
  pub length-seen : (seen : List Event) → events_in_log log ≡ seen → length seen ≡ length values
  length-seen seen is = sym (ap length is) ∙ length-part

  -- what is left after the first events, with the runs from that of the first one of them on
  module _ (n run : ℕ) (fits : n ≤ length values) (inside : run < length starts) (begun : get_or starts run 0 ≤ at + n) (last : run + 1 < length starts → at + n < get_or starts (run + 1) 0) where
    abbrev rest : List ℕ
    rest = take (length values - n) (drop n values)

    long-rest : length rest ≡ length values - n
    long-rest = ap length (take_rest values n) ∙ length-drop n values

    ends : (at + n) + length rest ≡ at + length values
    ends = omega (arith, long-rest)

    pub suffix-runs : AreRuns (take (length firsts - run) (drop run firsts)) (take (length starts - run) (drop run starts)) (at + n) ((at + n) + length (take (length values - n) (drop n values)))
    suffix-runs =
        subst (AreRuns (take (length firsts - run) (drop run firsts)) (take (length starts - run) (drop run starts)) (at + n)) (sym ends)
        (runs-same (drop run firsts) (drop run starts) (take (length firsts - run) (drop run firsts)) (take (length starts - run) (drop run starts)) (take_rest firsts run) (take_rest starts run) (at + n) (at + length values)
        (runs-suffix firsts starts at (at + length values) runs run (at + n) (omega arith) (omega arith) inside begun last))

    pub suffix-small : (at + n) + length (take (length values - n) (drop n values)) < 2 ^ 64
    suffix-small = omega (arith, ends, part.small)

    pub suffix-events : events_of (words_from (take (length firsts - run) (drop run firsts)) (take (length starts - run) (drop run starts)) (at + n) (length (take (length values - n) (drop n values)))) (take (length values - n) (drop n values)) ≡ drop n events
    suffix-events =
        ap (λ ws. events_of ws rest) (words-same (drop run firsts) (drop run starts) (take (length firsts - run) (drop run firsts)) (take (length starts - run) (drop run starts)) (take_rest firsts run) (take_rest starts run) (at + n) (length rest))
        ∙ ap (λ k. events_of (words_from (drop run firsts) (drop run starts) (at + n) k) rest) long-rest
        ∙ ap (events_of (words_from (drop run firsts) (drop run starts) (at + n) (length values - n))) (take_rest values n)
        ∙ ap (λ ws. events_of ws (drop n values)) (words-suffix firsts starts at (at + length values) runs run (at + n) (length values - n) inside begun)
        ∙ ap (λ ws. events_of ws (drop n values)) (sym (drop-words_from firsts starts at n (length values) fits))
        ∙ events_of-drop n words values each

  -- the first events, with the first runs
  module _ (n run : ℕ) (fits : n ≤ length values) (within : run ≤ length starts) (some : 0 < n → 0 < run) (taken : (i : ℕ) → i < run → get_or starts i 0 < at + n) (later : 0 < n → run < length starts → at + n ≤ get_or starts run 0) where
    long-prefix : length (take n values) ≡ n
    long-prefix = length-take-le n values fits

    pub prefix-runs : AreRuns (take run firsts) (take run starts) at (at + length (take n values))
    prefix-runs =
        subst (λ k. AreRuns (take run firsts) (take run starts) at (at + k)) (sym long-prefix)
        (runs-prefix firsts starts at (at + length values) runs run (at + n) (omega arith) (omega arith) within (λ more. some (omega arith)) taken (λ more. later (omega arith)))

    pub prefix-small : at + length (take n values) < 2 ^ 64
    prefix-small = omega (arith, long-prefix, part.small)

    pub prefix-events : events_of (words_from (take run firsts) (take run starts) at (length (take n values))) (take n values) ≡ take n events
    prefix-events =
        ap (λ k. events_of (words_from (take run firsts) (take run starts) at k) (take n values)) long-prefix
        ∙ ap (λ ws. events_of ws (take n values)) (words-prefix firsts starts at (at + length values) runs run n some later)
        ∙ ap (λ ws. events_of ws (take n values)) (sym (take-words_from firsts starts at n (length values) fits))
        ∙ events_of-take n words values

  -- which those are, by the run of the last one
  pub prefix-taken : (n run : ℕ) → run < length starts → 0 < n → get_or starts run 0 ≤ at + (n - 1) → (i : ℕ) → i < run + 1 → get_or starts i 0 < at + n
  prefix-taken n run inside some begun i low = omega (arith, begun_by firsts starts at (at + length values) runs run i (at + (n - 1)) (omega arith) inside begun)

  -- the events of a run
  pub run-in : (run n : ℕ) (from word : ℕ) → run < length starts → get_or starts run 0 ≤ from → (run + 1 < length starts → from + n ≤ get_or starts (run + 1) 0) → word ≡ get_or firsts run 0 + (from - get_or starts run 0)
      → words_from firsts starts from n ≡ range_with_len word n
  run-in run n from word inside begun last is =
      words_from-range firsts starts from word n (λ i low high.
      let here = word_in firsts starts at (at + length values) runs run i inside (omega arith) (λ more. omega (arith, last more)) in
      omega (arith, here, is))

  -- as many events in prefix, where the first run has as many
  module _ (word n : ℕ) (some : 0 < length values) (is : word ≡ get_or firsts 0 0 + (at - get_or starts 0 0)) (fits : n ≤ length values) (within : 1 < length starts → at + n ≤ get_or starts 1 0) where
    pub first-row : events ≡ events_of (range_with_len word n) (take n values) ++ drop n events
    first-row =
        sym (take-append-drop n events)
        ∙ ap (λ es. es ++ drop n events) (sym (events_of-take n words values))
        ∙ ap (λ ws. events_of ws (take n values) ++ drop n events) (take-words_from firsts starts at n (length values) fits)
        ∙ ap (λ ws. events_of ws (take n values) ++ drop n events) (run-in 0 n at word (runs.some (omega arith)) runs.begun (λ more. within (omega arith)) is)

  -- the first word has 41 bits
  pub first-low : 0 < length values → get_or firsts 0 0 + (at - get_or starts 0 0) < 2 ^ 41
  first-low some =
      let here = word_in firsts starts at (at + length values) runs 0 at (runs.some (omega arith)) runs.begun runs.first in
      omega (arith, here, runs.fits at (omega arith) (omega arith))
