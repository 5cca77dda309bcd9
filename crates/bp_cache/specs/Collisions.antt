-- Slots that are recorded with the hashes of their names.
use Rattle.std.specs.Prelude.{◌≡◌, ◌≢◌, ℕ, ◌+◌, ◌<◌, List, length, Contains, Option, IfNone, IfSome, slice_index_or, nat_lt, if◌then◌else◌, None, Some}
use Rattle.bp_cache.specs.declared.collisions.Collisions.{Collisions}
use Rattle.bp_cache.specs.declared.collisions.HashedSlot.{HashedSlot}
use Rattle.bp_cache.specs.Entries.{IsEntryAt, IsNotAt}
use Rattle.bp_layout.specs.Paths.{Name}
use Rattle.bp_layout.specs.Words.{Image}
use Rattle.bp_read.specs.declared.spot.Found.{Found}

-- A slot with a hash.
abbrev pub hashed : ℕ → ℕ → HashedSlot
hashed hash slot = record { hash = hash; slot = slot }

-- The slot is recorded with this hash.
abbrev pub Collides : Collisions → ℕ → ℕ → Type 0
Collides collisions hash slot = Contains collisions.slots.items (hashed hash slot)

-- The slot is recorded with this hash, among the first `bound`.
abbrev pub CollidesBelow : List HashedSlot → ℕ → ℕ → ℕ → Type 0
CollidesBelow slots bound hash slot = (k : ℕ) × (k < bound) × (slice_index_or slots k (hashed hash slot) ≡ hashed hash slot)

-- The slot is recorded with this hash at this place.
pub record IsRecordedAt (collisions : Collisions) (at hash slot : ℕ) : Type 0 where
  pub in_list : at < length collisions.slots.items
  pub is : slice_index_or collisions.slots.items at (hashed hash slot) ≡ hashed hash slot

-- One slot more is recorded.
pub record AddsCollision (old new : Collisions) (hash slot : ℕ) : Type 0 where
  pub added : Collides new hash slot
  pub kept : (other_hash other : ℕ) → Collides old other_hash other → Collides new other_hash other
  pub count : length new.slots.items ≡ length old.slots.items + 1

-- The slot is removed, if it was recorded. All others are kept.
pub record RemovesCollision (old new : Collisions) (hash slot : ℕ) : Type 0 where
  pub kept : (other_hash other : ℕ) → (other_hash ≡ hash → other ≢ slot) → Collides old other_hash other → Collides new other_hash other
  pub count : Collides old hash slot → length new.slots.items + 1 ≡ length old.slots.items

-- The entry with this name in the least of these slots, if one of them has it.
pub record IsLeastNamed (image : Image) (root size : ℕ) (name : Name) (IsOne : ℕ → Type 0) (found : Option Found) : Type 0 where
  pub some : IfSome found (λ it. IsEntryAt image root size name it.slot it)
  pub least : IfSome found (λ it. (slot : ℕ) → IsOne slot → slot < it.slot → IsNotAt image root size name slot)
  pub none : IfNone found ((slot : ℕ) → IsOne slot → IsNotAt image root size name slot)

-- The one of two entries that is in the lesser slot.
abbrev pub lesser_found : Option Found → Option Found → Option Found
lesser_found None other = other
lesser_found (Some one) None = Some one
lesser_found (Some one) (Some other) = if nat_lt other.slot one.slot then Some other else Some one
