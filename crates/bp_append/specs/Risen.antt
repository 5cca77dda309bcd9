-- New nodes above a tree, and their bytes past it.
use Rattle.std.specs.Prelude.{◌≡◌, ◌⊎◌, ℕ, zero, suc, ◌+◌, ◌-◌, ◌*◌, ◌/◌, ◌<◌, ◌≤◌, min, nat_lt, if◌then◌else◌, List, [], ◌∷◌, ◌++◌, length}
use Rattle.bp_limits.specs.Limits.{block_words, max_height}
use Rattle.bp_limits.specs.CallLimits.{max_size}
use Rattle.bp_layout.specs.Words.{Image, height_of}
use Rattle.bp_layout.specs.Tree.{byte, span, HasBlock, IsSound, IsFull}
use Rattle.bp_layout.specs.Members.{Has, AreApart}
use Rattle.bp_changes.specs.Links.{raised_by, LeadDown}
use Rattle.bp_layout.specs.Stores.{after_stores}
use Rattle.pm_region.specs.Memory.{Memory, current_words, room_in}
use Rattle.bp_append.specs.Into.{AddsInto}
use Rattle.bp_append.specs.Given.{given}
use Rattle.bp_append.specs.Tally.{tally}
use Rattle.bp_append.specs.Built.{InBlocks, IsBuilt}
use Rattle.bp_append.specs.Filled.{IsUsable}

-- 1 if the first node of a level has none of the wanted bytes, so that it is built only to hold the tree below it
abbrev pub idle : ℕ → ℕ → ℕ → ℕ
idle from to level = if nat_lt from (min to (span level)) then 0 else 1

-- the number of such nodes above level `low` and up to a level
abbrev pub idles : ℕ → ℕ → ℕ → ℕ → ℕ
idles from to low zero = 0
idles from to low (suc level) =
    idles from to low level + (if nat_lt low (suc level) then idle from to (suc level) else 0)

-- the number of all nodes that are the first of their level or have wanted bytes, in a tree of a height
abbrev pub edge : ℕ → ℕ → ℕ → ℕ
edge from to height = tally (suc height) from (min to (span height))

-- no link is in one of these blocks
abbrev pub AreOutside : List ℕ → List (ℕ × ℕ) → Type 0
AreOutside free [] = Unit {0}
AreOutside free (link ∷ links) = (Has free (link.0 / block_words) → ⊥) × AreOutside free links

-- The condition to build the nodes above a tree: enough blocks are free, and the log has room.
pub record CanRise (memory : Memory) (free : List ℕ) (low height from to : ℕ) : Type 0 where
  pub most : height ≤ max_height
  pub some : 0 < to
  pub few_to : to ≤ 2 * max_size
  pub usable : IsUsable (length memory.base / block_words) free
  pub enough : edge from to height + idles from to low height ≤ length free + edge from to low
  pub room : block_words * (edge from to height + idles from to low height) + (height - low)
      ≤ room_in memory + block_words * edge from to low

-- the bytes of a tree of height `low`, and after them the given ones
abbrev pub risen : Image → ℕ → ℕ → ℕ → List ℕ → ℕ → ℕ
risen image root low from bytes i = if nat_lt i (span low) then byte image root i else given from bytes i

-- New nodes were built above the tree of height `low`, up to a height. With or without the pending links, the higher
-- tree has the bytes of the lower one, and after them the given bytes.
pub record Rises (old new : Memory) (free_old free_new : List ℕ) (root top low height from to : ℕ)
    (bytes : List ℕ) : Type 0 where
  pub taken : List ℕ
  pub takes : free_old ≡ taken ++ free_new
  pub counted : length taken + edge from to low ≡ edge from to height + idles from to low height
  pub stores : AddsInto taken (λ place value. InBlocks taken place) (block_words * length taken + (height - low))
      old new
  pub chain : List ℕ
  pub named : top ≡ raised_by root chain
  pub tall : height_of root + length chain ≡ height
  pub inside : (b : ℕ) → Has chain b → Has taken b
  pub apart : AreApart chain
  pub down : LeadDown (current_words new) root chain
  pub tree : (links : List (ℕ × ℕ)) → AreOutside free_old links
      → IsSound (after_stores (current_words old) links) root (min to (span low)) →
      ((b : ℕ) → Has free_old b → HasBlock (after_stores (current_words old) links) root (min to (span low)) b → ⊥) →
      IsBuilt (after_stores (current_words new) links) top (min to (span height))
      (risen (after_stores (current_words old) links) root low from bytes)
      (λ b. HasBlock (after_stores (current_words old) links) root (min to (span low)) b ⊎ Has taken b)
      (IsFull (after_stores (current_words old) links) root (min to (span low)) × (from ≤ span low))
