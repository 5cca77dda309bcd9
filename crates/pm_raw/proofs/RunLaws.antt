-- What the runs that code holds describe one event.
use Rattle.std.proofs.Common.{◌≡◌, ℕ, ◌+◌, ◌-◌, ◌^◌, ◌<◌, ◌≤◌, List, length, get_or, sym, ◌∙◌, ap, arith}
use Rattle.pm_raw.specs.RunWords.{AreRuns, Worded, words_from}
use Rattle.pm_raw.specs.RunsRoom.{HasRuns, worded_of}
use Rattle.pm_raw.specs.declared.runs.Runs.TheInside.{Inside}
use Rattle.pm_raw.proofs.WordLaws.{length-words_from, runs-same, word-low, word-read, words-same}

-- the run of an event is found in these slices, and they report these words
pub record IsFound (words firsts starts : List ℕ) (count event run : ℕ) : Type 0 where
  pub are : AreRuns firsts starts 0 count
  pub all : words_from firsts starts 0 count ≡ words
  pub many : length words ≡ count
  pub low : event < count
  pub word_low : get_or firsts run 0 + (event - get_or starts run 0) < 2 ^ 41
  pub word : get_or firsts run 0 + (event - get_or starts run 0) ≡ get_or words event 0

module _ (runs : Inside) (seen : Worded) (step : HasRuns runs) (is : worded_of runs ≡ seen) where
  -- there are as many words as events
  pub length-seen : length seen.words ≡ runs.count
  length-seen = sym (ap (λ (w : Worded). length w.words) is) ∙ length-words_from runs.firsts.items runs.starts.items 0 runs.count

  -- slices of the two vectors report the same, and the word of an event by its run
  pub found : (firsts starts : List ℕ) (event run : ℕ) → firsts ≡ runs.firsts.items → starts ≡ runs.starts.items → event < length seen.words
      → run < length starts → get_or starts run 0 ≤ event → (run + 1 < length starts → event < get_or starts (run + 1) 0)
      → IsFound seen.words firsts starts runs.count event run
  found firsts starts event run firsts_are starts_are inside there begun last =
      let are = runs-same runs.firsts.items runs.starts.items firsts starts firsts_are starts_are 0 runs.count step.are in
      let all = words-same runs.firsts.items runs.starts.items firsts starts firsts_are starts_are 0 runs.count ∙ ap (λ (w : Worded). w.words) is in
      let low : event < runs.count = omega (arith, inside, length-seen) in
      record {
        are = are;
        all = all;
        many = length-seen;
        low = low;
        word_low = word-low firsts starts runs.count are event run low there begun last;
        word = word-read firsts starts runs.count are event run low there begun last ∙ ap (λ ws. get_or ws event 0) all;
      }
