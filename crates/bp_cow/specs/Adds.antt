-- The stores that make copies: they go to blocks that were free, at least one to each block that is taken.
use Rattle.std.specs.Prelude.{◌≡◌, ◌⊎◌, ℕ, ◌+◌, length, Bool, true, false}
use Rattle.pm_epochs.specs.Log.{StoresTo}
use Rattle.pm_epochs.specs.May.{AnyAt, StoresMay}
use Rattle.bp_layout.specs.Same.{Same}
use Rattle.pm_region.specs.Memory.{Memory}
use Rattle.bp_free.specs.Set.{Set, has, members}
use Rattle.bp_changes.specs.Performs.{InBlock}
use Rattle.pm_region.specs.Safe.{AddsMay, AddsCommit}

-- the word is in this block, or it is the word at this place
abbrev pub InBlockOr : ℕ → ℕ → ℕ → Type 0
InBlockOr block place word = InBlock block word ⊎ (word ≡ place)

-- stores to some words, at least one of them to this block
pub record AddsToBlock (Inside : ℕ → Type 0) (block most : ℕ) (old new : Memory) : Type 0 where
  pub part : AddsMay (AnyAt Inside) 0 most old new
  pub some : StoresTo (InBlock block) part.added

-- a word of a block that was free at the start and is taken now
pub record IsTakenWord (start now : ℕ → Bool) (word : ℕ) : Type 0 where
  pub block : ℕ
  pub inside : InBlock block word
  pub was : start block ≡ true
  pub gone : now block ≡ false

-- Stores to blocks that were taken since the start; at least one goes to each block taken since `before`.
pub record AddsCopies (start before after : ℕ → Bool) (most : ℕ) (old new : Memory) : Type 0 where
  pub part : AddsMay (AnyAt (IsTakenWord start after)) 0 most old new
  pub each : (b : ℕ) → before b ≡ true → after b ≡ false → StoresTo (InBlock b) part.added
  pub fewer : (b : ℕ) → after b ≡ true → before b ≡ true

-- The effect of making copies: `taken` blocks leave the free set, and at most `most` stores write them.
pub record MakesCopies (start : ℕ → Bool) (taken most : ℕ) (before after : Set) (old new : Memory) : Type 0 where
  pub stores : AddsCopies start (has before) (has after) most old new
  pub count : length (members before) ≡ length (members after) + taken
  pub size : length after ≡ length before
  pub base : length new.base ≡ length old.base

-- A quiet preparation (no store of it changes the meaning of the image) and then one store, alone in its epoch, at this
-- word. The earlier stores go to blocks that were taken since the start, at least one to each of them.
pub record AddsCopyCommit (start taken : ℕ → Bool) (word most : ℕ) (old new : Memory) : Type 0 where
  pub value : ℕ
  pub commit : AddsCommit Same word value 2 most old new
  pub only : StoresMay (AnyAt (IsTakenWord start taken)) commit.prepared
  pub each : (b : ℕ) → start b ≡ true → taken b ≡ false → StoresTo (InBlock b) commit.prepared
  pub fewer : (b : ℕ) → taken b ≡ true → start b ≡ true
