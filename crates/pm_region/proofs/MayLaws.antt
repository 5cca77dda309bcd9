-- Stores of values that may stand at their words, one after another.
use Rattle.std.proofs.Common.{◌≡◌, ℕ, ◌+◌, ◌≤◌, [], ◌∷◌, ◌++◌, get_or, arith}
use Rattle.pm_epochs.specs.declared.event.Event.TheVariants.{Store}
use Rattle.pm_epochs.specs.May.{EachMay}
use Rattle.pm_epochs.proofs.MayLaws.{StoresMay-append, StoresMay-weaker, EachMay-stored, same_where_none}
use Rattle.pm_epochs.proofs.PieceLaws.{IsPiece-append, IsPiece-more, IsPiece-none, IsPiece-store}
use Rattle.pm_region.specs.Memory.{Memory, current_words, room_in, Adds}
use Rattle.pm_region.specs.Safe.{AddsMay}
use Rattle.pm_region.proofs.MemoryLaws.{adds_none, adds_both, current_words-adds, room_in-piece}

-- more values may stand
pub may_weaker : (May Other : ℕ → ℕ → Type 0) (most_barriers most_stores : ℕ) (old new : Memory) → ((word value : ℕ) → May word value → Other word value) → AddsMay May most_barriers most_stores old new → AddsMay Other most_barriers most_stores old new
may_weaker May Other most_barriers most_stores old new weaker part = record { added = part.added; adds = part.adds; may = StoresMay-weaker May Other weaker part.added part.may; piece = part.piece }

module _ (May : ℕ → ℕ → Type 0) where
  pub may_none : (memory : Memory) → AddsMay May 0 0 memory memory
  may_none memory = record { added = []; adds = adds_none memory; may = tt; piece = IsPiece-none }

  -- looser bounds
  pub may_more : (most_barriers most_stores other_barriers other_stores : ℕ) (old new : Memory) → most_barriers ≤ other_barriers → most_stores ≤ other_stores →
      AddsMay May most_barriers most_stores old new → AddsMay May other_barriers other_stores old new
  may_more most_barriers most_stores other_barriers other_stores old new low few part = record {
    added = part.added;
    adds = part.adds;
    may = part.may;
    piece = IsPiece-more most_barriers most_stores other_barriers other_stores part.added low few part.piece;
  }

  -- one store
  pub may_one : (old new : Memory) (word value : ℕ) → May word value → Adds old new (Store word value ∷ []) → AddsMay May 0 1 old new
  may_one old new word value may adds = record { added = Store word value ∷ []; adds = adds; may = (may, tt); piece = IsPiece-store word value }

  module _ (most_barriers most_stores : ℕ) (old : Memory) where
    pub may_twice : (more_barriers more_stores : ℕ) (middle new : Memory) → AddsMay May most_barriers most_stores old middle → AddsMay May more_barriers more_stores middle new →
        AddsMay May (most_barriers + more_barriers) (most_stores + more_stores) old new
    may_twice more_barriers more_stores middle new first second = record {
      added = first.added ++ second.added;
      adds = adds_both old middle new first.added second.added first.adds second.adds;
      may = StoresMay-append May first.added second.added first.may second.may;
      piece = IsPiece-append most_barriers most_stores more_barriers more_stores first.added second.added first.piece second.piece;
    }

    -- one more store
    pub may_store : (middle new : Memory) (word value : ℕ) → AddsMay May most_barriers most_stores old middle → May word value → Adds middle new (Store word value ∷ []) → AddsMay May most_barriers (most_stores + 1) old new
    may_store middle new word value first may adds =
        may_more (most_barriers + 0) (most_stores + 1) most_barriers (most_stores + 1) old new (omega arith) (omega arith) (may_twice 0 1 middle new first (may_one middle new word value may adds))

    -- each word is as before, or has a value that may stand there
    pub each_after : (new : Memory) → AddsMay May most_barriers most_stores old new → EachMay May (current_words old) (current_words new)
    each_after new part = rw (current_words-adds old new part.added part.adds) (EachMay-stored May (current_words old) part.added part.may)

    -- a word at which nothing may be stored is as before
    pub may_frame : (new : Memory) → AddsMay May most_barriers most_stores old new → (word : ℕ) → ((value : ℕ) → May word value → ⊥) → get_or (current_words new) word 0 ≡ get_or (current_words old) word 0
    may_frame new part = same_where_none May (current_words old) (current_words new) (each_after new part)

    pub room_after_may : (new : Memory) → AddsMay May most_barriers most_stores old new → room_in old ≤ room_in new + (most_barriers + most_stores)
    room_after_may new part = room_in-piece most_barriers most_stores old new part.added part.adds part.piece
