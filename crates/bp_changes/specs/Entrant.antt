-- The inode of a new entry, determined by the least free inode.
use Rattle.std.specs.Prelude.{ℕ, Option, None, Some}
use Rattle.bp_layout.specs.Free.{IsLeastFree}
use Rattle.bp_layout.specs.Need.{Change, Entrant}
use Rattle.bp_layout.specs.Need.Change.{enters}
use Rattle.bp_layout.specs.Need.Entrant.{grown, taken}
use Rattle.bp_layout.specs.Words.{Image}

abbrev pub entrant_of : Option ℕ → Entrant
entrant_of None = grown
entrant_of (Some inode) = taken inode

-- The property holds of the change that creates a name in directory `i`. What this change touches and needs is
-- determined by the least free inode; if none is free, by the growth of the inode file. No field states that the entry
-- gets this very inode.
abbrev pub ForCreation : Image → ℕ → (Change → Type 0) → Type 0
ForCreation image i Holds = (free : Option ℕ) → IsLeastFree image free → Holds (enters i (entrant_of free))
