-- The model of a region's words while they are being filled.
use Rattle.std.specs.Prelude.{ℕ, List}

-- The words present, and their final number.
pub record Part : Type 0 where
  pub words : List ℕ
  pub size : ℕ
