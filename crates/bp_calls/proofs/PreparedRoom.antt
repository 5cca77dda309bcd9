-- The room of the log that a call asks for has that of its preparation, after a thaw.
use Rattle.std.proofs.Common.{◌≡◌, ℕ, suc, ◌+◌, ◌*◌, ◌≤◌, arith}
use Rattle.bp_changes.specs.Performs.{room_for}
use Rattle.bp_limits.specs.Limits.{max_height}

pub preparation_room : (needed made asked room : ℕ) → needed ≡ made → asked ≤ 512 * suc max_height → room_for needed ≤ room + 2 → 512 * made + asked + 4 ≤ room
preparation_room needed made asked room a b c = omega (arith, a, b, c)

-- where blocks are copied after the preparation
pub across_room : (needed made copies asked room : ℕ) → needed ≡ made + copies → asked ≤ 512 * suc max_height → room_for needed ≤ room + 2 → 512 * made + asked + 4 ≤ room
across_room needed made copies asked room a b c = omega (arith, a, b, c)
