-- What a changing call does before its end-of-call marker, and its greatest costs.
use Rattle.std.specs.Prelude.{◌≡◌, ◌≢◌, ℕ, ◌+◌, ◌*◌, ◌/◌, ◌<◌, ◌≤◌, List, length, Bool, true, false, Some}
use Rattle.pm_epochs.specs.declared.event.Event.{Event}
use Rattle.pm_epochs.specs.Log.{StoresTo, IsStoredIn, stores, barriers, last_stored}
use Rattle.pm_epochs.specs.May.{AnyAt, StoresMay}
use Rattle.pm_region.specs.Memory.{Memory, current_words, room_in}
use Rattle.pm_region.specs.Safe.{AddsQuiet, AddsCommit}
use Rattle.bp_limits.specs.Limits.{block_words, super_root, super_size}
use Rattle.bp_layout.specs.Members.{Has, Each, AreApart}
use Rattle.bp_layout.specs.Need.{Change, cover, need}
use Rattle.bp_layout.specs.Thaw.{full_need}
use Rattle.bp_layout.specs.Reached.{IsLiveBlock, IsFreeBlock}
use Rattle.bp_layout.specs.Same.{Same}
use Rattle.bp_layout.specs.WellFormed.{IsWellFormed}
use Rattle.bp_layout.specs.WordPaths.{address}
use Rattle.bp_layout.specs.Words.{Image}

-- a word of a block
abbrev pub InBlock : ℕ → ℕ → Type 0
InBlock block word = word / block_words ≡ block

-- Where a call that takes these blocks may store: to these blocks, to live blocks that are not in the snapshot, and to
-- the two words of the superblock for the inode file.
pub data IsOpen (image : Image) (in_snapshot : ℕ → Bool) (taken : List ℕ) (word : ℕ) : Type 0 where
  in_taken : Has taken (word / block_words) → IsOpen image in_snapshot taken word
  in_live : IsLiveBlock image (word / block_words) → in_snapshot (word / block_words) ≡ false → IsOpen image in_snapshot taken word
  at_root : word ≡ super_root → IsOpen image in_snapshot taken word
  at_size : word ≡ super_size → IsOpen image in_snapshot taken word

-- The blocks of the list were free, are all different, and each gets a store. No other free block and no other word of
-- the superblock does. So a call cannot prepare for a later one, nor leave stores in the log that its work does not
-- need.
pub record TakesBlocks (image : Image) (in_snapshot : ℕ → Bool) (taken : List ℕ) (events : List Event) : Type 0 where
  pub once : AreApart taken
  pub free : Each (IsFreeBlock image in_snapshot) taken
  pub stored : Each (λ b. StoresTo (InBlock b) events) taken
  pub only : StoresMay (AnyAt (IsOpen image in_snapshot taken)) events

-- a part of a preparation, and the blocks that it takes
pub record AddsTaking (in_snapshot : ℕ → Bool) (taken : List ℕ) (most_barriers most_stores : ℕ) (old new : Memory) : Type 0 where
  pub part : AddsQuiet Same most_barriers most_stores old new
  pub takes : TakesBlocks (current_words old) in_snapshot taken part.added

-- the greatest number of barriers of a call; `most_stores`: of stores of a call that needs this many blocks
abbrev pub most_barriers : ℕ
most_barriers = 10

abbrev pub most_stores : ℕ → ℕ
most_stores needed = (block_words + 1) * (needed + 6) + 64

-- the greatest number of stores after a thaw, or of a call without one
abbrev pub most_stores_thawed : ℕ → ℕ
most_stores_thawed needed = block_words * (needed + 6) + 64

-- the greatest number of events that a call adds: its stores, its barriers and its end-of-call marker
abbrev pub room_for : ℕ → ℕ
room_for needed = most_stores needed + most_barriers + 1

-- the log has room for the change; no more room is required
abbrev pub HasRoomFor : Memory → (ℕ → Bool) → Change → Type 0
HasRoomFor memory in_snapshot change = room_for (full_need (current_words memory) in_snapshot change) ≤ room_in memory

-- A changing call before its end-of-call marker, while some blocks are in the snapshot: a quiet preparation, and then
-- one store alone in its epoch, at the word of the cover. It takes exactly `needed` blocks and makes at most `barriers`
-- barriers and `most` stores. The cover is that of the image before the call, but its word is located in the image
-- after it, since a preparation may put a tree one level lower.
pub record PerformsWithin (in_snapshot : ℕ → Bool) (needed barriers most : ℕ) (old new : Memory) (change : Change)
    (Effect : Image → Image → Type 0) : Type 0 where
  pub value : ℕ
  pub commit : AddsCommit Same (address (current_words new) (cover (current_words old) change)) value
      barriers most old new
  pub taken : List ℕ
  pub takes : TakesBlocks (current_words old) in_snapshot taken commit.prepared
  pub number : length taken ≡ needed
  pub in_open : IsOpen (current_words old) in_snapshot taken (address (current_words new) (cover (current_words old) change))
  pub well_formed : IsWellFormed (current_words new)
  pub effect : Effect (current_words old) (current_words new)

-- a call with the need and the greatest costs of its change; the blocks copied by a thaw are part of the need
abbrev pub Performs : (ℕ → Bool) → Memory → Memory → Change → (Image → Image → Type 0) → Type 0
Performs in_snapshot old new change Effect = PerformsWithin in_snapshot (full_need (current_words old) in_snapshot change) most_barriers
    (most_stores (full_need (current_words old) in_snapshot change)) old new change Effect

-- a performed call that needs no thaw any more, with its need and its greatest costs
abbrev pub PerformsThawed : (ℕ → Bool) → Memory → Memory → Change → (Image → Image → Type 0) → Type 0
PerformsThawed in_snapshot old new change Effect = PerformsWithin in_snapshot (need (current_words old) change) 8
    (most_stores_thawed (need (current_words old) change)) old new change Effect

-- a performed call, whatever its effect on the image
abbrev pub IsPerformed : (ℕ → Bool) → Memory → Memory → Change → Type 0
IsPerformed in_snapshot old new change = Performs in_snapshot old new change (λ image after. Unit {0})

-- the list has exactly the blocks that are free in the image and get a store of the log, each once
pub record AreTaken (image : Image) (in_snapshot : ℕ → Bool) (events : List Event) (taken : List ℕ) : Type 0 where
  pub once : AreApart taken
  pub some : (b : ℕ) → Has taken b → IsFreeBlock image in_snapshot b × StoresTo (InBlock b) events
  pub all : (b : ℕ) → IsFreeBlock image in_snapshot b → StoresTo (InBlock b) events → Has taken b

-- The costs of a changing call: its last store is at the word of the cover, it stores to as many free blocks as it
-- needs, and it makes few barriers and stores.
pub record IsShort (old new : Image) (in_snapshot : ℕ → Bool) (change : Change) (events : List Event) : Type 0 where
  pub last : last_stored events ≡ Some (address new (cover old change))
  pub taken : List ℕ
  pub are : AreTaken old in_snapshot events taken
  pub number : length taken ≡ full_need old in_snapshot change
  pub few_barriers : barriers events ≤ most_barriers
  pub few_stores : length (stores events) ≤ most_stores (full_need old in_snapshot change)
  -- and it stores neither to blocks of the snapshot nor to any word of the superblock except the two for the inode file
  pub keeps : (word : ℕ) → block_words ≤ word → in_snapshot (word / block_words) ≡ true → IsStoredIn events word → ⊥
  pub idle : (word : ℕ) → word < block_words → word ≢ super_root → word ≢ super_size → IsStoredIn events word → ⊥
