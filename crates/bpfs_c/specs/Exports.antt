-- The effect of exports: the volume of the handle, before and after, and between them the old contents of the
-- caller's variables, the returned number, and their new contents.
use Rattle.std.specs.Prelude.{◌≡◌, ℕ, Bool, List, Option}
use Rattle.bp_plain.specs.Calls.{Call}
use Rattle.bpfs_c.specs.Codes.{IsEndedAs, IsRead, ReportsAttribute, ReportsFound}
use Rattle.bpfs_c.specs.Listings.{ReportsName, entry_at}
use Rattle.bpfs_c.specs.Serves.{Asks, Exported, Looked}
use Rattle.bpfs_c.specs.declared.queries.Found.{Found}
use Rattle.bpfs_c.specs.declared.codes.Lack.{Lack}
use Rattle.bpfs_c.specs.declared.mounted.Mounted.{Mounted}

-- A call that changes the tree. Its number and `Lack` say how it ended.
abbrev pub ExportsChange : Option Mounted → Call → Lack → ℕ → Lack → Option Mounted → Type 0
ExportsChange held call lack code new_lack new_held =
    Exported held call (λ answer. IsEndedAs answer lack code new_lack) (new_lack ≡ lack) code new_held

-- A read of bytes into the caller's array, and of their number into `count`.
abbrev pub AsksRead : Option Mounted → Call → List ℕ → ℕ → ℕ → List ℕ → ℕ → Option Mounted → Type 0
AsksRead held call into count code new_into new_count new_held =
    Asks held call (λ answer. IsRead answer into count code new_into new_count)
    ((new_into ≡ into) × (new_count ≡ count)) code new_held

-- A look at a path, which writes its size and whether it is a directory to the caller's `Found`.
abbrev pub AsksFound : Option Mounted → Call → Found → ℕ → Found → Option Mounted → Type 0
AsksFound held call found code new_found new_held =
    Asks held call (λ answer. ReportsFound answer found code new_found) (new_found ≡ found) code new_held

-- A look at an attribute, which writes its value to the caller's variable.
abbrev pub AsksAttribute : Option Mounted → Call → ℕ → ℕ → ℕ → Option Mounted → Type 0
AsksAttribute held call value code new_value new_held =
    Asks held call (λ answer. ReportsAttribute answer value code new_value) (new_value ≡ value) code new_held

-- A look at one entry of the listing that the handle keeps, by its index: the name, its length in bytes, and whether
-- the entry is a directory's.
abbrev pub LooksAtName : Option Mounted → ℕ → List ℕ → ℕ → Bool → ℕ → List ℕ → ℕ → Bool → Option Mounted → Type 0
LooksAtName held index name count is_dir code new_name new_count new_is_dir new_held =
    Looked held
    (λ mounted. ReportsName (entry_at mounted.listing index) name count is_dir code new_name new_count new_is_dir)
    ((new_name ≡ name) × (new_count ≡ count) × (new_is_dir ≡ is_dir)) code new_held
