-- The names of a listing, whose bytes are stored one name after the other.
use Rattle.std.specs.Prelude.{ℕ, ◌+◌, ◌≤◌, List, All, map, length, take, drop}
use Rattle.bp_limits.specs.CallLimits.{max_name}
use Rattle.bp_layout.specs.declared.fields.Kind.{Kind}
use Rattle.bp_layout.specs.declared.listing.Listed.{Listed}

-- a name with its kind; its bytes are a part of the bytes of all names
abbrev pub listed_name : List ℕ → Listed → Kind × List ℕ
listed_name bytes entry = (entry.kind, take entry.len (drop entry.first bytes))

abbrev pub listed_names : List ℕ → List Listed → List (Kind × List ℕ)
listed_names bytes entries = map (listed_name bytes) entries

-- the bytes of each name are within the stored bytes, and no name is longer than `max_name`
abbrev pub AreWithin : List ℕ → List Listed → Type 0
AreWithin bytes entries = All (λ entry. (entry.first + entry.len ≤ length bytes) × (entry.len ≤ max_name)) entries
