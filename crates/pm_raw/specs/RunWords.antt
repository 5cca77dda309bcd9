-- The words of a log's events, stored as runs of consecutive words.
use Rattle.std.specs.Prelude.{◌≡◌, ℕ, zero, suc, ◌+◌, ◌-◌, ◌^◌, ◌<◌, ◌≤◌, nat_lt, Bool, true, if◌then◌else◌, List, [], ◌∷◌, length, slice_index}

-- The words that a `Runs` has, and the number of words that it has memory for.
pub record Worded : Type 0 where
  pub words : List ℕ
  pub room : ℕ

-- Whether an event is before the first of these runs.
abbrev pub is_before : ℕ → List ℕ → Bool
is_before i [] = true
is_before i (start ∷ starts) = nat_lt i start

-- The word of an event, by its index, from the first words of the runs and the indices of their first events. The last
-- run has no end. Without a run, the result is greater than any word.
abbrev pub run_word_at : List ℕ → List ℕ → ℕ → ℕ
run_word_at [] starts i = 2199023255552
run_word_at (first ∷ firsts) [] i = 2199023255552
run_word_at (first ∷ firsts) (start ∷ starts) i = if is_before i starts then first + (i - start) else run_word_at firsts starts i

-- The words of this number of events, from this one on.
abbrev pub words_from : List ℕ → List ℕ → ℕ → ℕ → List ℕ
words_from firsts starts at zero = []
words_from firsts starts at (suc count) = run_word_at firsts starts at ∷ words_from firsts starts (suc at) count

-- Each number is greater than those before it.
abbrev pub Rises : List ℕ → Type 0
Rises numbers = (i j : ℕ) → i < j → j < length numbers → slice_index numbers i < slice_index numbers j

-- Runs in order, of the events from `at` on and before `end`. The event at `at` is in the first run, each run has an
-- event before the end, and the events' words are below 2^41.
pub record AreRuns (firsts starts : List ℕ) (at end : ℕ) : Type 0 where
  pub same : length firsts ≡ length starts
  pub some : at < end → 0 < length starts
  pub begun : slice_index starts 0 ≤ at
  pub first : 1 < length starts → at < slice_index starts 1
  pub taken : (i : ℕ) → i < length starts → slice_index starts i < end
  pub rises : Rises starts
  pub fits : (i : ℕ) → at ≤ i → i < end → run_word_at firsts starts i < 2 ^ 41
