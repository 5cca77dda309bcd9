use Rattle.std.proofs.Common.{◌≡◌, ℕ, ◌<◌, length}
use Rattle.std.specs.List.{slice_index}
use Rattle.bp_limits.specs.Limits.{entry_size}
use Rattle.bp_calls.specs.Entries.{entry_byte}
use Rattle.bp_calls.proofs.new_entry.entry_bytes.Given as goal

abbrev pub invariant-loop-at : goal.invariant-loop-at
invariant-loop-at l = record {
  whole : length l.bytes ≡ entry_size;
  done : (k : ℕ) → k < l.at → slice_index l.bytes k ≡ entry_byte l.ino l.name k;
}
