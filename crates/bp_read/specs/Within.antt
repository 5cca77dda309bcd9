-- Consecutive words.
use Rattle.std.specs.Prelude.{ℕ, ◌+◌, ◌<◌, ◌≤◌}

-- one of `count` places from `first` on
pub record IsWithin (first count place : ℕ) : Type 0 where
  pub low : first ≤ place
  pub high : place < first + count
