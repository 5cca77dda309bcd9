-- The effect of the walk down a tree to its last byte, past the tree's size.
use Rattle.std.specs.Prelude.{◌≡◌, ◌≢◌, ◌⊎◌, ℕ, suc, ◌+◌, ◌-◌, ◌*◌, ◌/◌, ◌%◌, ◌<◌, ◌≤◌, min, max, nat_lt, if◌then◌else◌, List, [], ◌∷◌, ◌++◌, length, Option, None, Some}
use Rattle.bp_limits.specs.Limits.{block_size, block_words, max_height}
use Rattle.bp_limits.specs.CallLimits.{max_size}
use Rattle.bp_layout.specs.Words.{Image, height_of, slot_word}
use Rattle.bp_layout.specs.Tree.{node, byte, span, IsLivePointer, HasBlock, IsSound, IsFull}
use Rattle.bp_layout.specs.Pieces.{child}
use Rattle.bp_layout.specs.Members.{Has}
use Rattle.bp_changes.specs.PastEnd.{IsPastEnd}
use Rattle.bp_layout.specs.Stores.{after_stores}
use Rattle.pm_region.specs.Memory.{Memory, current_words, room_in}
use Rattle.bp_append.specs.declared.visit.Link.{Link}
use Rattle.bp_append.specs.Into.{AddsInto}
use Rattle.bp_append.specs.Stores.{stores_past_end, room_past_end}
use Rattle.bp_append.specs.Given.{given, given_at}
use Rattle.bp_append.specs.Tally.{tally}
use Rattle.bp_append.specs.Spine.{spine}
use Rattle.bp_append.specs.Built.{InBlocks, IsBuilt}
use Rattle.bp_append.specs.Filled.{IsUsable, Builds}

-- the stores that must wait for a barrier
abbrev pub links_in : Option Link → List (ℕ × ℕ)
links_in None = []
links_in (Some link) = (link.place, link.pointer) ∷ []

-- the old bytes of a tree that starts at an offset, below the size, and after them the given ones
abbrev pub extended : Image → ℕ → ℕ → ℕ → List ℕ → ℕ → ℕ → ℕ
extended image root size from bytes start i =
    if nat_lt (start + i) size then byte image root i else given from bytes (start + i)

-- a store past the size of a tree, to a block of one part of it
pub record IsPastEndOfPart (image : Image) (root size part part_size place value : ℕ) : Type 0 where
  pub past_end : IsPastEnd image root size place value
  pub has : HasBlock image part part_size (place / block_words)

-- A live pointer of the tree is null, and a tree of the given bytes was built for it, since some of its bytes are
-- wanted.
pub record Hangs (old new : Image) (root size from to place pointer : ℕ) (bytes taken : List ℕ) : Type 0 where
  pub depth : ℕ
  pub index : ℕ
  pub live : IsLivePointer root size (suc depth) index
  pub null : node old root (suc depth) index ≡ 0
  pub present : node old root depth (index / block_words) ≢ 0
  pub at : block_words * node old root depth (index / block_words) + index % block_words ≡ place
  pub bits : pointer % block_size ≡ 0
  pub below : List ℕ
  pub inside : (b : ℕ) → Has below b → Has taken b
  pub built : IsBuilt new (pointer + live.level) (min (to - index * span live.level) (span live.level))
      (given_at from bytes (index * span live.level)) (Has below) (from ≤ index * span live.level)
  pub wanted : from < index * span live.level + span live.level

-- No store is pending, or only one, which links a new tree, for a null pointer, into a block of this part of the tree.
pub data AreHung (old new : Image) (root size from to : ℕ) (bytes taken : List ℕ) (InPart : ℕ → Type 0)
    (links : List (ℕ × ℕ)) : Type 0 where
  no_link : links ≡ [] → AreHung old new root size from to bytes taken InPart links
  one_link : (place pointer : ℕ) → links ≡ (place, pointer) ∷ []
      → Hangs old new root size from to place pointer bytes taken → InPart place
      → AreHung old new root size from to bytes taken InPart links

-- The condition to visit a block of the tree: it has the tree's last byte, enough blocks are free, and the log has
-- room.
pub record CanVisit (memory : Memory) (free : List ℕ) (root size level start block from to : ℕ) : Type 0 where
  pub depth : ℕ
  pub index : ℕ
  pub height : depth + level ≡ height_of root
  pub low : level ≤ max_height
  pub aligned : start ≡ index * span level
  pub begun : start < size
  pub inside : size ≤ start + span level
  pub past_end : size ≤ from
  pub order : size ≤ to
  pub few : start + span level ≤ 2 * max_size
  pub few_to : to ≤ 2 * max_size
  pub named : node (current_words memory) root depth index ≡ block
  pub some_block : 1 ≤ block
  pub in_range : block < length memory.base / block_words
  pub sound : IsSound (current_words memory) (block_size * block + level) (size - start)
  pub outside : (b : ℕ) → Has free b → HasBlock (current_words memory) (block_size * block + level) (size - start) b → ⊥
  pub usable : IsUsable (length memory.base / block_words) free
  pub enough : tally (suc level) (max from start) (min to (start + span level))
      ≤ length free + spine (current_words memory) root size from to (suc level)
  pub room : block_words * tally (suc level) (max from start) (min to (start + span level)) + room_past_end size from to level
      ≤ room_in memory + block_words * spine (current_words memory) root size from to (suc level)

-- With the pending links, the part of the tree under the block has its old bytes and the given ones, in its old blocks
-- and the taken ones.
pub record Visits (old new : Memory) (free_old free_new : List ℕ) (root size level start block from to : ℕ)
    (bytes : List ℕ) (links : List (ℕ × ℕ)) : Type 0 where
  pub taken : List ℕ
  pub takes : free_old ≡ taken ++ free_new
  pub counted : length taken + spine (current_words old) root size from to (suc level)
      ≡ tally (suc level) (max from start) (min to (start + span level))
  pub stores : AddsInto taken (λ place value. InBlocks taken place
      ⊎ IsPastEndOfPart (current_words old) root size (block_size * block + level) (size - start) place value)
      (block_words * length taken + stores_past_end size from to level) old new
  pub hung : AreHung (current_words old) (current_words new) root size from to bytes taken
      (λ place. HasBlock (current_words old) (block_size * block + level) (size - start) (place / block_words)) links
  pub tree : IsBuilt (after_stores (current_words new) links) (block_size * block + level)
      (min (to - start) (span level))
      (extended (current_words old) (block_size * block + level) size from bytes start)
      (λ b. HasBlock (current_words old) (block_size * block + level) (size - start) b ⊎ Has taken b)
      (IsFull (current_words old) (block_size * block + level) (size - start) × (from ≡ size))

-- the last slot of a node that starts before the size
pub record IsLast (size below start slot : ℕ) : Type 0 where
  pub few : slot < block_words
  pub begun : start + slot * span below < size
  pub ends : size ≤ start + slot * span below + span below

-- With the pending links, the part of the tree in this slot of a block, whose children have this level, has its old
-- bytes and the given ones, in its old blocks and the taken ones.
pub record VisitsSlot (old new : Memory) (free_old free_new : List ℕ) (root size below start block slot from to : ℕ)
    (bytes : List ℕ) (links : List (ℕ × ℕ)) : Type 0 where
  pub taken : List ℕ
  pub takes : free_old ≡ taken ++ free_new
  pub counted : length taken + spine (current_words old) root size from to (suc below)
      ≡ tally (suc below) (max from (start + slot * span below)) (min to (start + slot * span below + span below))
  pub stores : AddsInto taken (λ place value. InBlocks taken place
      ⊎ IsPastEndOfPart (current_words old) root size (child (current_words old) block below slot)
      (size - (start + slot * span below)) place value)
      (block_words * length taken + stores_past_end size from to below) old new
  pub hung : AreHung (current_words old) (current_words new) root size from to bytes taken
      (λ place. HasBlock (current_words old) (child (current_words old) block below slot)
      (size - (start + slot * span below)) (place / block_words) ⊎ (place ≡ block_words * block + slot)) links
  pub word : slot_word (after_stores (current_words new) links) block slot % block_size ≡ 0
  pub tree : IsBuilt (after_stores (current_words new) links)
      (child (after_stores (current_words new) links) block below slot)
      (min (to - (start + slot * span below)) (span below))
      (extended (current_words old) (child (current_words old) block below slot) size from bytes
      (start + slot * span below))
      (λ b. HasBlock (current_words old) (child (current_words old) block below slot)
      (size - (start + slot * span below)) b ⊎ Has taken b)
      (IsFull (current_words old) (child (current_words old) block below slot) (size - (start + slot * span below))
      × (from ≡ size))

-- A tree was built for a null pointer, and the store that links it is pending. If none of the tree's bytes is wanted,
-- the tree is null too and no store is pending.
pub record Hung (old new : Memory) (free_old free_new : List ℕ) (level start from to : ℕ) (bytes : List ℕ) (place : ℕ)
    (links : List (ℕ × ℕ)) : Type 0 where
  pub pointer : ℕ
  pub built : Builds old new free_old free_new pointer level (min (to - start) (span level)) (given_at from bytes start)
      (from ≤ start) (tally (suc level) (max from start) (min to (start + span level)))
  pub which : ((pointer ≡ 0) × (links ≡ [])) ⊎ ((links ≡ (place, pointer) ∷ []) × (from < start + span level))
