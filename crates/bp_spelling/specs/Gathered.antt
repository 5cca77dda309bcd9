-- The entries of a directory that a check has recorded so far.
use Rattle.std.specs.Prelude.{◌≡◌, ◌≢◌, ℕ, ◌+◌, ◌-◌, ◌/◌, ◌<◌, ◌≤◌, List, ◌++◌, min, take, All}
use Rattle.std.specs.List.{range_with_len}
use Rattle.bp_layout.specs.Words.{Image}
use Rattle.bp_layout.specs.Directory.{ino_in, name_in}
use Rattle.bp_layout.specs.Paths.{IsName}
use Rattle.bp_limits.specs.Limits.{block_entries, entry_size}
use Rattle.bp_spelling.specs.declared.entry.Spelled.{Spelled}
use Rattle.bp_spelling.specs.Hashes.{IsSpelled, places_of}
use Rattle.bp_spelling.specs.Places.{used_places}
use Rattle.bp_spelling.specs.Tables.{IsPresent}

-- The first `count` places of `entries` record the non-empty entries below a slot.
pub record IsGathered (image : Image) (root end slot : ℕ) (entries : List Spelled) (count : ℕ) : Type 0 where
  pub few : count ≤ slot
  pub gathered : places_of (take count entries) ++ used_places image root (range_with_len slot (end - slot))
      ≡ used_places image root (range_with_len 0 end)
  pub hashed : All (IsSpelled image) (take count entries)
  pub present : All IsPresent (take count entries)
  pub forms : (k : ℕ) → k < slot → ino_in image root k ≢ 0 → IsName (name_in image root k)

-- The slot after the leaf that begins with slot `first`, in a directory of this size.
abbrev pub leaf_end : ℕ → ℕ → ℕ
leaf_end size first = min (first + block_entries) (size / entry_size)

-- The first `count` places of `entries` record the non-empty entries up to the end of this leaf.
abbrev pub IsLeafGathered : Image → ℕ → ℕ → ℕ → List Spelled → ℕ → Type 0
IsLeafGathered image root size first entries count =
    IsGathered image root (size / entry_size) (leaf_end size first) entries count
