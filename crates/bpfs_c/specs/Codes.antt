-- The numbers that an export returns to C for the end of a call, and the results that it writes with them. Each
-- definition takes the old contents of the caller's variables, then the returned number, and then the new contents.
use Rattle.std.specs.Prelude.{◌≡◌, ◌≤◌, ◌⊎◌, ℕ, List, Result, Ok, Err, true, false, drop, length, take}
use Rattle.bp_plain.specs.declared.errors.FsError.{FsError}
use Rattle.bp_plain.specs.Calls.{Answer, Refusal}
use Rattle.bp_plain.specs.Calls.Answer.{done, bytes, file_of, dir_of, names, links_of, attribute_of, refused}
use Rattle.bp_plain.specs.Calls.Refusal.{no_space}
use Rattle.bp_plain.specs.Refusals.{refusal_number}
use Rattle.bp_plain.specs.Seen.{refusal_of}
use Rattle.bp_roles.specs.Mounted.{served_words}
use Rattle.bp_volume.specs.Queries.{StopsWalk}
use Rattle.bp_fs.specs.Step.{PathFinds}
use Rattle.pm_region.specs.Memory.{Memory}
use Rattle.bpfs_c.specs.declared.queries.Found.{Found}
use Rattle.bpfs_c.specs.declared.codes.Lack.{Lack}

-- For `no_space` the caller's `Lack` gets the needed and the free blocks; for any other refusal it keeps its
-- contents.
abbrev pub HasLack : Refusal → Lack → Lack → Type 0
HasLack (no_space need free) old new = new ≡ record { need = need; free = free }
HasLack why old new = new ≡ old

-- The number, and the contents of `Lack`, after a call whose only result is success or a refusal.
abbrev pub IsEndedAs : Answer → Lack → ℕ → Lack → Type 0
IsEndedAs done old code new = (code ≡ 0) × (new ≡ old)
IsEndedAs (refused why) old code new = (code ≡ refusal_number why) × HasLack why old new
IsEndedAs answer old code new = ⊥

-- The number after a call whose only result is success or a refusal, and that never fails for lack of space.
abbrev pub IsEndedBy : Answer → ℕ → Type 0
IsEndedBy done code = code ≡ 0
IsEndedBy (refused why) code = code ≡ refusal_number why
IsEndedBy answer code = ⊥

-- On success the number is 0 and the caller's variable gets the count; else the number is that of the error.
abbrev pub ReportsCount : Result ℕ FsError → ℕ → ℕ → ℕ → Type 0
ReportsCount (Ok count) old code new = (code ≡ 0) × (new ≡ count)
ReportsCount (Err error) old code new = (code ≡ refusal_number (refusal_of error)) × (new ≡ old)

-- A read that succeeded wrote its bytes to the first elements of the caller's array and their number to `count`.
-- Elements after them keep their values; after a refusal all do.
abbrev pub IsRead : Answer → List ℕ → ℕ → ℕ → List ℕ → ℕ → Type 0
IsRead (bytes content) into count code new_into new_count =
    (code ≡ 0) × (take new_count new_into ≡ content) × (new_count ≤ length new_into)
    × (drop new_count new_into ≡ drop new_count into)
IsRead (refused why) into count code new_into new_count =
    (code ≡ refusal_number why) × (new_into ≡ into) × (new_count ≡ count)
IsRead answer into count code new_into new_count = ⊥

-- The size and the kind of the file or directory at a path, as written to the caller's `Found`.
abbrev pub ReportsFound : Answer → Found → ℕ → Found → Type 0
ReportsFound (file_of size) old code new = (code ≡ 0) × (new ≡ record { size = size; is_dir = false })
ReportsFound (dir_of count) old code new = (code ≡ 0) × (new ≡ record { size = count; is_dir = true })
ReportsFound (refused why) old code new = (code ≡ refusal_number why) × (new ≡ old)
ReportsFound answer old code new = ⊥

-- The number of links of a file, as written to the caller's variable.
abbrev pub ReportsLinks : Answer → ℕ → ℕ → ℕ → Type 0
ReportsLinks (links_of count) old code new = (code ≡ 0) × (new ≡ count)
ReportsLinks (refused why) old code new = (code ≡ refusal_number why) × (new ≡ old)
ReportsLinks answer old code new = ⊥

-- The number of the inode that a path finds, as written to the caller's variable. Else the number is that of the refusal
-- of the walk, and the variable keeps its contents.
abbrev pub ReportsInode : Memory → List ℕ → ℕ → ℕ → ℕ → Type 0
ReportsInode volume path old code new =
    ((code ≡ 0) × PathFinds (served_words volume) path new)
    ⊎ ((why : Refusal) × StopsWalk (served_words volume) path why × (code ≡ refusal_number why) × (new ≡ old))

-- The value of an attribute, as written to the caller's variable.
abbrev pub ReportsAttribute : Answer → ℕ → ℕ → ℕ → Type 0
ReportsAttribute (attribute_of value) old code new = (code ≡ 0) × (new ≡ value)
ReportsAttribute (refused why) old code new = (code ≡ refusal_number why) × (new ≡ old)
ReportsAttribute answer old code new = ⊥

-- The number of entries of a listed directory, as written to the caller's variable.
abbrev pub IsListed : Answer → ℕ → ℕ → ℕ → Type 0
IsListed (names listing) old code new = (code ≡ 0) × (new ≡ length listing)
IsListed (refused why) old code new = (code ≡ refusal_number why) × (new ≡ old)
IsListed answer old code new = ⊥
