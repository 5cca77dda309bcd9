-- Bytes that overlay others.
use Rattle.std.specs.Prelude.{ℕ, ◌+◌, ◌-◌, ◌&&◌, nat_le, nat_lt, if◌then◌else◌, List, length, slice_index}

-- The byte at an offset after an overlay of bytes from an offset on, given the byte that is there without it.
abbrev pub byte_over : ℕ → List ℕ → ℕ → ℕ → ℕ
byte_over from bytes offset old =
    if nat_le from offset && nat_lt offset (from + length bytes) then slice_index bytes (offset - from) else old
