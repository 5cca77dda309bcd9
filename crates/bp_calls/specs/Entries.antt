-- An entry after the last one of a directory: its bytes, and the tree before the size includes it.
use Rattle.std.specs.Prelude.{◌≡◌, ℕ, ◌+◌, ◌-◌, ◌<◌, List, length, nat_lt, slice_index, Bool, if◌then◌else◌}
use Rattle.bp_append.specs.Prepared.{PreparesWith}
use Rattle.bp_free.specs.Set.{members}
use Rattle.bp_free.specs.declared.parts.Parts.{Parts}
use Rattle.bp_layout.specs.Directory.{entry_count, ino_in, name_in}
use Rattle.bp_layout.specs.Paths.{Name}
use Rattle.bp_layout.specs.Inode.{root_of, size_of}
use Rattle.bp_layout.specs.Words.{byte_of}
use Rattle.bp_limits.specs.Limits.{entry_size}
use Rattle.bp_changes.specs.Sets.{in_snapshot_of}
use Rattle.pm_region.specs.Memory.{Memory, current_words}

-- A byte of an entry: eight bytes of the inode number, least significant first, eight of the name's length, and then
-- the name, followed by zeros.
abbrev pub entry_byte : ℕ → Name → ℕ → ℕ
entry_byte ino name at =
    if nat_lt at 8 then byte_of ino at
    else if nat_lt at 16 then byte_of (length name) (at - 8)
    else slice_index name (at - 16)

-- The bytes are those of an entry with this inode number and name.
abbrev pub AreEntryBytes : ℕ → Name → List ℕ → Type 0
AreEntryBytes ino name bytes = (at : ℕ) → at < entry_size → slice_index bytes at ≡ entry_byte ino name at

-- Directory `i` is prepared for one more entry, which refers to inode `j`. The entry is not visible yet.
pub record PutsPastEnd (in_snapshot : ℕ → Bool) (old new : Memory) (free_old free_new : List ℕ) (i j : ℕ) (name : Name) : Type 0 where
  pub bytes : List ℕ
  pub prepared : PreparesWith in_snapshot old new free_old free_new i (size_of (current_words old) i)
      (size_of (current_words old) i + entry_size) bytes
  pub ino : ino_in (current_words new) (root_of (current_words new) i) (entry_count (current_words old) i) ≡ j
  pub spelled : name_in (current_words new) (root_of (current_words new) i) (entry_count (current_words old) i) ≡ name

-- `PutsPastEnd` for the parts of a file system, with their free blocks.
abbrev pub PutsEntry : {R : Type 0} → (R → Memory) → Parts R → Parts R → ℕ → ℕ → Name → Type 0
PutsEntry memory old new i j name = PutsPastEnd (in_snapshot_of old) (memory old.region) (memory new.region) (members old.free_blocks)
    (members new.free_blocks) i j name
