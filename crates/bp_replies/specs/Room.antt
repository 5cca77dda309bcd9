-- The amount of data that may wait for a sink.
use Rattle.std.specs.Prelude.{ℕ}

-- The number of bytes that may wait while more follow.
abbrev pub gathered_size : ℕ
gathered_size = 65536
