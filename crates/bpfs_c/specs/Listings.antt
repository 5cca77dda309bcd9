-- The listing that a handle keeps.
use Rattle.std.specs.Prelude.{◌≡◌, ◌≤◌, ◌<◌, ◌⊎◌, ℕ, Bool, List, Option, None, Some, drop, length, slice_get, take}
use Rattle.bp_layout.specs.declared.fields.Kind.{Kind}
use Rattle.bp_plain.specs.Calls.{Answer}
use Rattle.bp_plain.specs.Calls.Answer.{names}
use Rattle.bpfs_c.specs.Kinds.{is_dir_kind}

-- The entries of a directory: a name, and the kind of the file or directory that it refers to.
abbrev pub Names : Type 0
Names = List (Kind × List ℕ)

-- The listing that a handle keeps after a call: that of a call that listed a directory, else the one before.
abbrev pub listing_after : Answer → Option Names → Option Names
listing_after (names listing) old = Some listing
listing_after answer old = old

-- The entry at an index of a listing, if there is a listing and it has the index.
abbrev pub entry_at : Option Names → ℕ → Option (Kind × List ℕ)
entry_at None index = None
entry_at (Some listing) index = slice_get listing index

-- The entry is written to the caller's variables, where there is one and the array has room for its name. Else the
-- number is 38, and the variables keep their contents.
abbrev pub ReportsName : Option (Kind × List ℕ) → List ℕ → ℕ → Bool → ℕ → List ℕ → ℕ → Bool → Type 0
ReportsName None name count is_dir code new_name new_count new_is_dir =
    (code ≡ 38) × (new_name ≡ name) × (new_count ≡ count) × (new_is_dir ≡ is_dir)
ReportsName (Some entry) name count is_dir code new_name new_count new_is_dir =
    ((length entry.1 ≤ length name) × (code ≡ 0) × (take new_count new_name ≡ entry.1)
    × (new_count ≡ length entry.1) × (drop new_count new_name ≡ drop new_count name)
    × (new_is_dir ≡ is_dir_kind entry.0))
    ⊎ ((length name < length entry.1) × (code ≡ 38) × (new_name ≡ name) × (new_count ≡ count)
    × (new_is_dir ≡ is_dir))
