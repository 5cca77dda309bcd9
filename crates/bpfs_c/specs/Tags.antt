-- The tag of a mounted volume, which belongs to the caller.
use Rattle.std.specs.Prelude.{◌≡◌, ℕ, Option, None, Some}
use Rattle.bpfs_c.specs.declared.mounted.Mounted.{Mounted}

-- the tag of what a handle holds; a closed one has 0
abbrev pub held_tag : Option Mounted → ℕ
held_tag None = 0
held_tag (Some held) = held.tag

-- the tag is set, and nothing else has changed
abbrev pub IsTagged : Option Mounted → ℕ → ℕ → Option Mounted → Type 0
IsTagged None tag code new = (code ≡ 32) × (new ≡ None)
IsTagged (Some held) tag code new = (code ≡ 0) × (new ≡ Some (record held { tag = tag }))
