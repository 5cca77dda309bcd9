-- When an index is correct for a directory.
use Rattle.std.specs.Prelude.{◌≡◌, ◌≢◌, ◌⊎◌, ℕ, ◌+◌, ◌/◌, ◌<◌, ◌≤◌, length, nat_eq, vec_capacity, IsSome, None, Some, true, false}
use Rattle.std.specs.HashMap.{get, hash_map_len, spare}
use Rattle.bp_free.specs.Set.{has}
use Rattle.bp_cache.specs.Collisions.{Collides}
use Rattle.bp_cache.specs.Hashes.{hash_of}
use Rattle.bp_cache.specs.Slots.{SetsSlot}
use Rattle.bp_cache.specs.declared.index.Index.{Index}
use Rattle.bp_layout.specs.Directory.{ino_in, name_in}
use Rattle.bp_layout.specs.Paths.{Name}
use Rattle.bp_layout.specs.Words.{Image}
use Rattle.bp_limits.specs.Limits.{entry_size}

-- The hash leads to this slot. The table has the least slot to which a hash leads; the others are among the collisions.
pub record Leads (index : Index) (hash slot : ℕ) : Type 0 where
  pub first : ℕ
  pub table : get nat_eq index.slots hash ≡ Some first
  pub here : (slot ≡ first) ⊎ ((first < slot) × Collides index.collisions hash slot)

-- The number of names in an index.
abbrev pub name_count : Index → ℕ
name_count index = hash_map_len index.slots + length index.collisions.slots.items

-- The index is correct for this entry. If the entry refers to an inode, the hash of its name leads to its slot. If it
-- is empty, its slot is among those that may be empty.
pub record IsIndexed (image : Image) (root slot : ℕ) (index : Index) : Type 0 where
  pub room : slot < length index.empties
  pub named : ino_in image root slot ≢ 0 → Leads index (hash_of (name_in image root slot)) slot
  pub empty : ino_in image root slot ≡ 0 → has index.empties slot ≡ true

-- The index is correct for each entry below the size.
pub record IsIndexOf (image : Image) (root size : ℕ) (index : Index) : Type 0 where
  pub each : (slot : ℕ) → slot < size / entry_size → IsIndexed image root slot index

-- The index has no name, and has room for at least this number of slots.
pub record IsEmptyIndex (slots : ℕ) (index : Index) : Type 0 where
  pub room : slots ≤ length index.empties
  pub none : name_count index ≡ 0

-- The index stays correct for each other slot for which it was.
abbrev pub KeepsIndexed : Image → ℕ → ℕ → Index → Index → Type 0
KeepsIndexed image root slot old new = (other : ℕ) → other ≢ slot → IsIndexed image root other old → IsIndexed image root other new

-- A hash leads to one slot more, if it did not lead there before.
pub record GainsSlot (old new : Index) (hash slot : ℕ) : Type 0 where
  pub leads : Leads new hash slot
  pub kept : (other_hash other : ℕ) → Leads old other_hash other → Leads new other_hash other
  pub count : name_count new ≤ name_count old + 1

-- If the hash leads to this slot, it leads there no longer. Each hash leads to all other slots as before.
pub record LosesSlot (old new : Index) (hash slot : ℕ) : Type 0 where
  pub kept : Leads old hash slot → (other_hash other : ℕ) → (other_hash ≡ hash → other ≢ slot) → Leads old other_hash other → Leads new other_hash other
  pub count : Leads old hash slot → name_count new + 1 ≡ name_count old

-- A name is added in a slot: its hash leads to this slot now, too.
pub record EntersSlot (old new : Index) (name : Name) (slot : ℕ) : Type 0 where
  pub room : slot < length old.empties
  pub names : GainsSlot old new (hash_of name) slot
  pub empties : SetsSlot old.empties new.empties slot false

-- The name of the entry in this slot is added.
abbrev pub EntersEntry : Image → ℕ → ℕ → Index → Index → Type 0
EntersEntry image root slot old new = EntersSlot old new (name_in image root slot) slot

-- A name can be added in a slot without more memory: there is room for the slot, and for one more name with this hash.
pub record CanEnter (index : Index) (name : Name) (slot : ℕ) : Type 0 where
  pub room : slot < length index.empties
  pub spare : 0 < spare index.slots
  pub shared : IsSome (get nat_eq index.slots (hash_of name)) → length index.collisions.slots.items < vec_capacity index.collisions.slots

-- A name is removed from its slot: its hash does not lead to the slot any more, and the slot may be empty, if there is
-- room for it.
pub record LeavesSlot (old new : Index) (name : Name) (slot : ℕ) : Type 0 where
  pub names : LosesSlot old new (hash_of name) slot
  pub room : length new.empties ≡ length old.empties
  pub empties : slot < length old.empties → SetsSlot old.empties new.empties slot true
  pub beyond : length old.empties ≤ slot → new.empties ≡ old.empties
