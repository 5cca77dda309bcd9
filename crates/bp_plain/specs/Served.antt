-- The limits on a call that a volume carries out.
use Rattle.std.specs.Prelude.{◌<◌, ◌≤◌, length}
use Rattle.bp_limits.specs.Limits.{attributes, max_pieces, max_read}
use Rattle.bp_plain.specs.Calls.{Call}
use Rattle.bp_plain.specs.Calls.Call.{read, snap_read, batch, attribute, set_attribute}

-- a read, also of the snapshot, asks for at most `max_read` bytes, a batch has 1 to `max_pieces` pieces, and the number
-- of an attribute is below `attributes`
abbrev pub IsServed : Call → Type 0
IsServed (read text offset len) = len ≤ max_read
IsServed (snap_read text offset len) = len ≤ max_read
IsServed (batch pieces) = (1 ≤ length pieces) × (length pieces ≤ max_pieces)
IsServed (attribute text number) = number < attributes
IsServed (set_attribute text number value) = number < attributes
IsServed call = Unit {0}
