-- The events of a format, as C gets them.
use Rattle.std.specs.Prelude.{◌≡◌, ◌≤◌, ℕ, List}
use Rattle.bp_limits.specs.Limits.{max_blocks, min_blocks}
use Rattle.bp_limits.specs.Numbers.{version_numbered}
use Rattle.bp_mount.specs.Laid.{format_events}
use Rattle.bpfs_c.specs.Events.{HasEvents}
use Rattle.bpfs_c.specs.declared.log.Logged.{Logged}

-- An image may have this number of blocks, and this is the number of a version of the format.
pub record CanFormat (blocks version : ℕ) : Type 0 where
  pub least : min_blocks ≤ blocks
  pub most : blocks ≤ max_blocks
  pub first : 1 ≤ version
  pub last : version ≤ 3

-- The caller gets the events of the format, up to the length of its array. It gets none, and its variables keep their
-- contents, where no such image exists (38) or allocation fails (12).
pub data ReportsFormat (blocks version : ℕ) (old : List Logged) (count code : ℕ) (new : List Logged) (new_count : ℕ) : Type 0 where
  reported : CanFormat blocks version → code ≡ 0 →
      HasEvents (format_events (version_numbered version) blocks) 0 old new_count new →
      ReportsFormat blocks version old count code new new_count
  bad : ¬ CanFormat blocks version → code ≡ 38 → new ≡ old → new_count ≡ count →
      ReportsFormat blocks version old count code new new_count
  short : CanFormat blocks version → code ≡ 12 → new ≡ old → new_count ≡ count →
      ReportsFormat blocks version old count code new new_count
