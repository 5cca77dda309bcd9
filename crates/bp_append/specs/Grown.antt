-- A tree is prepared in two epochs: first stores that no reader sees, and then the links, if one of them changes a
-- word.
use Rattle.std.specs.Prelude.{◌≡◌, ◌⊎◌, ℕ, ◌+◌, ◌*◌, ◌/◌, ◌%◌, ◌<◌, ◌≤◌, ◌==◌, if◌then◌else◌, List, [], ◌∷◌, ◌++◌, length, slice_set}
use Rattle.pm_epochs.specs.declared.event.Event.{Event}
use Rattle.pm_epochs.specs.declared.event.Event.TheVariants.{Barrier}
use Rattle.pm_epochs.specs.May.{links_of}
use Rattle.bp_layout.specs.Words.{Image, word, height_of}
use Rattle.bp_layout.specs.Tree.{HasBlock, IsSound, IsFull}
use Rattle.bp_limits.specs.Limits.{block_size, block_words, max_height}
use Rattle.bp_limits.specs.CallLimits.{max_size}
use Rattle.bp_layout.specs.Nodes.{nodes_for, height_with}
use Rattle.bp_layout.specs.Members.{Has, AreApart}
use Rattle.bp_changes.specs.Links.{raised_by, LeadDown}
use Rattle.bp_changes.specs.PastEnd.{IsPastEnd}
use Rattle.bp_layout.specs.Stores.{after_stores}
use Rattle.pm_region.specs.Memory.{Memory, current_words, room_in, Adds}
use Rattle.bp_append.specs.Into.{AddsInto}
use Rattle.bp_append.specs.Stores.{room_past_end, stores_past_end}
use Rattle.bp_append.specs.Given.{given_at}
use Rattle.bp_append.specs.Built.{InBlocks, IsBuilt}
use Rattle.bp_append.specs.Filled.{IsUsable}
use Rattle.bp_append.specs.Visited.{extended, AreHung}

-- The condition to prepare a sound tree for the bytes from an offset on: enough blocks are free, and the log has room.
pub record CanGrow (memory : Memory) (free : List ℕ) (root size from to : ℕ) : Type 0 where
  pub past_end : size ≤ from
  pub order : size ≤ to
  pub fits : to ≤ max_size
  pub sound : IsSound (current_words memory) root size
  pub some : 0 < length memory.base / block_words
  pub usable : IsUsable (length memory.base / block_words) free
  pub outside : (b : ℕ) → Has free b → HasBlock (current_words memory) root size b → ⊥
  pub enough : length (nodes_for (current_words memory) root size from to) ≤ length free
  pub room : block_words * length (nodes_for (current_words memory) root size from to)
      + room_past_end size from to max_height + 4 ≤ room_in memory

-- the links that change a word, if they are stored one after the other
abbrev pub changed : Image → List (ℕ × ℕ) → List (ℕ × ℕ)
changed image [] = []
changed image (link ∷ links) = if word image link.0 == link.1 then changed image links
    else link ∷ changed (slice_set image link.0 link.1) links

-- the stores of the links and a barrier after them; no event if there are no links
abbrev pub epoch_of_links : List (ℕ × ℕ) → List Event
epoch_of_links [] = []
epoch_of_links (link ∷ links) = links_of (link ∷ links) ++ Barrier ∷ []

-- The stores of the links that change a word, in an epoch of their own. If no link changes a word, there is no such
-- epoch.
abbrev pub Links : Memory → Memory → List (ℕ × ℕ) → Type 0
Links old new links = Adds old new (Barrier ∷ epoch_of_links (changed (current_words old) links))

-- A tree with blocks was prepared. With the links stored, the tree has its old bytes and after them the given ones.
pub record Grows (old new : Memory) (free_old free_new : List ℕ) (place root size from to : ℕ)
    (bytes : List ℕ) : Type 0 where
  pub visited : List ℕ
  pub raised : List ℕ
  pub takes : free_old ≡ (visited ++ raised) ++ free_new
  pub counted : length (visited ++ raised) ≡ length (nodes_for (current_words old) root size from to)
  pub between : Memory
  pub stores : AddsInto (visited ++ raised) (λ p value. InBlocks (visited ++ raised) p
      ⊎ IsPastEnd (current_words old) root size p value)
      (block_words * length (visited ++ raised) + stores_past_end size from to max_height) old between
  pub links : List (ℕ × ℕ)
  pub hung : AreHung (current_words old) (current_words between) root size from to bytes visited
      (λ p. HasBlock (current_words old) root size (p / block_words)) links
  pub chain : List ℕ
  pub tall : height_of root + length chain ≡ height_with root size to
  pub inside : (b : ℕ) → Has chain b → Has raised b
  pub apart : AreApart chain
  pub down : LeadDown (current_words between) root chain
  pub ends : Links between new (links ++ (place, raised_by root chain) ∷ [])
  pub tree : IsBuilt (after_stores (current_words between) links) (raised_by root chain) to
      (extended (current_words old) root size from bytes 0)
      (λ b. HasBlock (current_words old) root size b ⊎ Has (visited ++ raised) b)
      (IsFull (current_words old) root size × (from ≡ size))

-- each link is a word of the region
abbrev pub AreLow : Memory → List (ℕ × ℕ) → Type 0
AreLow memory [] = Unit {0}
AreLow memory (link ∷ links) = (link.0 < length memory.base) × AreLow memory links

-- A tree of the given bytes (or a null pointer) was built for a tree without blocks; `top` is its root word, which is
-- not stored yet.
pub record Roots (old new : Memory) (free_old free_new : List ℕ) (root size from to : ℕ) (bytes : List ℕ)
    (top : ℕ) : Type 0 where
  pub taken : List ℕ
  pub takes : free_old ≡ taken ++ free_new
  pub counted : length taken ≡ length (nodes_for (current_words old) root size from to)
  pub stores : AddsInto taken (λ p value. InBlocks taken p) (block_words * length taken) old new
  pub height : height_of top ≡ height_with root size to
  pub bits : top % block_size ≡ height_of top
  pub tree : IsBuilt (current_words new) top to (given_at from bytes 0) (Has taken) (from ≡ 0)

-- A tree without blocks was prepared: its new root word was built and stored.
pub record Makes (old new : Memory) (free_old free_new : List ℕ) (place root size from to : ℕ)
    (bytes : List ℕ) : Type 0 where
  pub between : Memory
  pub top : ℕ
  pub made : Roots old between free_old free_new root size from to bytes top
  pub ends : Links between new ((place, top) ∷ [])
