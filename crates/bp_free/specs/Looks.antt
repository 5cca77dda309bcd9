-- How many words a search for the least number looks at.
use Rattle.std.specs.Prelude.{ℕ, ◌≡◌, ◌+◌, ◌/◌, ◌≤◌, Option, Some, None, MatchOption}

-- The most words that a search looks at which begins at the first word of the summary: each word of 64 numbers has a
-- bit in the summary. These are the words of bits up to the one of the number's word, and then that word itself. It
-- looks at none if the set is empty.
abbrev pub looks : Option ℕ → ℕ
looks None = 0
looks (Some i) = i / 4096 + 2

-- A search that begins at this word of bits looks at the words from there on, up to the one that it finds, and at none
-- if the set is empty. `before` and `after` count the looks.
abbrev pub LooksFrom : ℕ → ℕ → ℕ → Option ℕ → Type 0
LooksFrom from before after result = MatchOption result (after ≡ before) (λ i. after + from ≤ before + i / 4096 + 2)
