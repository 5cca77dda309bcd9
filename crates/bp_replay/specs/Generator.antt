-- The generator of storms and of `play`: a number of 64 bits, from which each draw computes the next.
use Rattle.std.specs.Prelude.{ℕ, ◌+◌, ◌*◌, ◌/◌, ◌%◌, ◌^◌}

-- The state after a draw.
unfoldable pub next_state : ℕ → ℕ
next_state state = (6364136223846793005 * state + 1442695040888963407) % 2 ^ 64

-- The number drawn in a state: the top 32 bits of the next state.
unfoldable pub drawn : ℕ → ℕ
drawn state = next_state state / 2 ^ 32
