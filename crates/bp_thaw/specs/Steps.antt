-- The steps of a thaw: finding the blocks of the snapshot, taking blocks for their copies, and filling these.
use Rattle.std.specs.Prelude.{◌≡◌, ◌≢◌, ℕ, ◌+◌, ◌*◌, ◌/◌, ◌<◌, ◌≤◌, List, ◌∷◌, length, Bool, true, false}
use Rattle.pm_epochs.specs.Log.{StoresTo}
use Rattle.pm_epochs.specs.May.{AnyAt}
use Rattle.pm_region.specs.Memory.{Memory, current_words, room_in}
use Rattle.pm_region.specs.Safe.{AddsMay}
use Rattle.bp_limits.specs.Limits.{block_words}
use Rattle.bp_free.specs.Set.{Set, has, members}
use Rattle.bp_layout.specs.Inode.{size_of}
use Rattle.bp_layout.specs.Members.{AreApart, Each, Has}
use Rattle.bp_layout.specs.Words.{Image, block_count, word}
use Rattle.bp_changes.specs.Forest.{IsTreePointer}
use Rattle.bp_changes.specs.Trail.{Trail, block_on}
use Rattle.bp_changes.specs.Performs.{InBlock}
use Rattle.bp_thaw.specs.Copies.{Copies, blocks_of, places_of, source_of, turned_word}

-- The pointer is live and leads to a block of the snapshot.
pub record IsInSnapshot (image : Image) (in_snapshot : ℕ → Bool) (p : Trail) : Type 0 where
  pub pointer : IsTreePointer image (size_of image) p
  pub present : block_on image p ≢ 0
  pub is_in_snapshot : in_snapshot (block_on image p) ≡ true

-- A list of live pointers to blocks of the snapshot that has, with each pointer in a block of the snapshot, the pointer
-- to that block.
pub record AreInSnapshot (image : Image) (in_snapshot : ℕ → Bool) (trails : List Trail) : Type 0 where
  pub each : (p : Trail) → Has trails p → IsInSnapshot image in_snapshot p
  pub above : (slot : ℕ) (p : Trail) → Has trails (slot ∷ p) → in_snapshot (block_on image p) ≡ true → Has trails p

-- Exactly these numbers leave a set, which had all of them.
pub record TakesAll (before after : Set) (taken : List ℕ) : Type 0 where
  pub once : AreApart taken
  pub were : (b : ℕ) → Has taken b → has before b ≡ true
  pub gone : (b : ℕ) → Has taken b → has after b ≡ false
  pub others : (b : ℕ) → (Has taken b → ⊥) → has after b ≡ has before b
  pub count : length (members after) + length taken ≡ length (members before)
  pub size : length after ≡ length before

-- a word of one of these blocks
abbrev pub InBlocks : List ℕ → ℕ → Type 0
InBlocks blocks place = Has blocks (place / block_words)

-- a copy has the words of a block, with the pointers set to the copies
abbrev pub IsTurnedCopy : Copies → ℕ → ℕ → Memory → Memory → Type 0
IsTurnedCopy copies block copy old new = (slot : ℕ) → slot < block_words →
    word (current_words new) (block_words * copy + slot) ≡ turned_word (current_words old) copies (block_words * block + slot)

-- The stores go only to the copies, at least one to each. Each copy has the words of its block, with the pointers set
-- to the other copies.
pub record FillsCopies (copies : Copies) (old new : Memory) : Type 0 where
  pub part : AddsMay (AnyAt (InBlocks (blocks_of copies))) 0 (block_words * length copies) old new
  pub stored : Each (λ b. StoresTo (InBlock b) part.added) (blocks_of copies)
  pub words : (copy : ℕ × ℕ) (slot : ℕ) → Has copies copy → slot < block_words
      → word (current_words new) (block_words * copy.1 + slot)
      ≡ turned_word (current_words old) copies (block_words * source_of (current_words old) copy + slot)

-- The first number of each pair is a place of the image.
abbrev pub ArePlacesOf : Image → List (ℕ × ℕ) → Type 0
ArePlacesOf image pairs = (pair : ℕ × ℕ) → Has pairs pair → pair.0 < length image

-- The condition to fill copies: they are blocks of the image that contain neither the copied blocks nor the pointers to
-- these, and the log has room.
pub record CanFillCopies (copies : Copies) (memory : Memory) : Type 0 where
  pub places : AreApart (places_of copies)
  pub blocks : AreApart (blocks_of copies)
  pub inside : ArePlacesOf (current_words memory) copies
  pub outside : (copy : ℕ × ℕ) → Has copies copy → InBlocks (blocks_of copies) copy.0 → ⊥
  pub sources : (copy : ℕ × ℕ) → Has copies copy
      → source_of (current_words memory) copy < block_count (current_words memory)
  pub present : (copy : ℕ × ℕ) → Has copies copy → 0 < source_of (current_words memory) copy
  pub apart : (copy : ℕ × ℕ) → Has copies copy → Has (blocks_of copies) (source_of (current_words memory) copy) → ⊥
  pub not_null : (b : ℕ) → Has (blocks_of copies) b → 0 < b
  pub in_range : (b : ℕ) → Has (blocks_of copies) b → b < block_count (current_words memory)
  pub room : block_words * length copies ≤ room_in memory
