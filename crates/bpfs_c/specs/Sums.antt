-- Block counts and totals of a volume, as C sees them.
use Rattle.std.specs.Prelude.{◌≡◌, ◌^◌, ◌%◌, ◌/◌}
use Rattle.pm_region.specs.Memory.{Memory}
use Rattle.bp_layout.specs.Whole.{HasSpace}
use Rattle.bp_roles.specs.Mounted.{served_words}
use Rattle.bp_layout.specs.Totals.{HasLive, HasTotals}
use Rattle.bp_layout.specs.declared.totals.Totals.{Totals}
use Rattle.bpfs_c.specs.declared.space.Blocks.{Blocks}
use Rattle.bpfs_c.specs.declared.space.Sums.{Sums}

abbrev pub HasBlockCounts : Memory → Blocks → Type 0
HasBlockCounts memory blocks = HasSpace (served_words memory) blocks.free × HasLive (served_words memory) blocks.live

-- The totals as C gets them. Only the sum of all bytes may exceed 64 bits: it is split into its quotient and its
-- remainder by 2^64.
abbrev pub sums_of : Totals → Sums
sums_of totals = record {
  files = totals.files;
  dirs = totals.dirs;
  bytes = totals.bytes % 2 ^ 64;
  bytes_above = totals.bytes / 2 ^ 64;
  live = totals.live;
}

abbrev pub HasSums : Memory → Sums → Type 0
HasSums memory sums = (totals : Totals) × HasTotals (served_words memory) totals × (sums ≡ sums_of totals)
