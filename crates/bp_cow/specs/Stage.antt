-- The state while a commit makes its copies: the image as it would be if the last store were done now.
use Rattle.std.specs.Prelude.{◌≡◌, ◌≢◌, ◌⊎◌, ℕ, ◌%◌, ◌<◌, ◌≤◌, ◌∷◌, length, Bool, true, false, Option, None, unwrap_or, slice_set}
use Rattle.bp_limits.specs.Limits.{block_size, block_words, super_root}
use Rattle.bp_layout.specs.Words.{Image, word, block_count}
use Rattle.bp_changes.specs.Trail.{Trail, word_on, block_on, place_on, IsSkeleton, IsPlaced, LeadsTo}

-- The state of an image while a commit makes its copies. `Counts`: the content words that count. `renewed`: the pointers
-- that lead to a block taken by this commit. `value`: the values of the touched words. `laid`: the other words of the
-- copied blocks, with the bytes of the runs. `in_snapshot`: the blocks that are never free.
pub record IsStage (old now : Image) (Pointer Counts renewed : Trail → Type 0) (value : Trail → Option ℕ)
    (laid : Trail → ℕ) (in_snapshot free : ℕ → Bool) : Type 0 where
  pub whole : length now ≡ length old
  pub skeleton : IsSkeleton now Pointer
  pub superblock : (place : ℕ) → place < block_words → place ≢ super_root → word now place ≡ word old place
  -- a pointer that was not set to a copy
  pub same : (p : Trail) → Pointer p → (renewed p → ⊥) → word_on now p ≡ word_on old p
  -- the other counted words of a copied block, and all words of a block that was not copied
  pub words : (p : Trail) (slot : ℕ) → Pointer p → renewed p → slot < block_words → (renewed (slot ∷ p) → ⊥)
      → Counts (slot ∷ p) → word_on now (slot ∷ p) ≡ unwrap_or (value (slot ∷ p)) (laid (slot ∷ p))
  pub still : (p : Trail) (slot : ℕ) → Pointer p → (renewed p → ⊥) → slot < block_words → (renewed (slot ∷ p) → ⊥)
      → word_on now (slot ∷ p) ≡ word_on old (slot ∷ p)
  pub bits : (p : Trail) → Pointer p → word_on now p % block_size ≡ word_on old p % block_size
  pub fresh : (p : Trail) → Pointer p → renewed p → (block_on now p ≢ 0) × (LeadsTo old Pointer (block_on now p) → ⊥)
  pub outside_snapshot : (p : Trail) → Pointer p → renewed p → in_snapshot (block_on now p) ≡ false
  pub unvalued : (p : Trail) → Pointer p → value p ≡ None
  pub early : (p : Trail) (slot : ℕ) → Pointer p → (renewed p → ⊥) → value (slot ∷ p) ≡ None
  pub taken : (b : ℕ) → LeadsTo old Pointer b ⊎ LeadsTo now Pointer b → free b ≡ false
  pub known : (b : ℕ) → 1 ≤ b → b < block_count old → free b ≡ false → (LeadsTo old Pointer b → ⊥)
      → in_snapshot b ≡ false → LeadsTo now Pointer b
  pub in_range : (b : ℕ) → free b ≡ true → (1 ≤ b) × (b < block_count old)
  pub loose : (b : ℕ) → free b ≡ true → in_snapshot b ≡ false

-- The words while copies are made. The last store, of a pointer at the cover's place, is not done yet.
pub record IsBuilding (old words : Image) (place pointer : ℕ) (cover : Trail) (Pointer Counts renewed : Trail → Type 0)
    (value : Trail → Option ℕ) (laid : Trail → ℕ) (in_snapshot free : ℕ → Bool) : Type 0 where
  pub some : 0 < block_count old
  pub stage : IsStage old (slice_set words place pointer) Pointer Counts renewed value laid in_snapshot free
  pub placed : IsPlaced (slice_set words place pointer) Pointer cover
  pub at : place_on (slice_set words place pointer) cover ≡ place
  pub below : (p : Trail) → renewed p → length cover ≤ length p
