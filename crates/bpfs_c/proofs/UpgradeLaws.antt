-- An upgrade to version 3 that is not to be called again was made.
use Rattle.std.proofs.Common.{◌≡◌, ℕ}
use Rattle.bpfs_c.specs.Upgrades.{ClearsOrUpgrades, Upgrades}
use Rattle.bpfs_c.specs.Upgrades.ClearsOrUpgrades.{again, ended}
use Rattle.pm_region.specs.Memory.{Memory}

pub upgrades_at_last : (old new : Memory) (code : ℕ) → ClearsOrUpgrades old code new → ¬ (code ≡ 39) → Upgrades old code new
upgrades_at_last old new code (again is clears) other = absurd (other is)
upgrades_at_last old new code (ended made) other = made
