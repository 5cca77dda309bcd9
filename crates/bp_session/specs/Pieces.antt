-- How an input is read.
use Rattle.std.specs.Prelude.{ℕ}

-- The greatest number of bytes of one read.
abbrev pub piece_size : ℕ
piece_size = 65536
