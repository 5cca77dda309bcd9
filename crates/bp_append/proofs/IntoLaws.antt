-- Stores into blocks, one part after another.
use Rattle.std.proofs.Common.{ℕ, ◌+◌, ◌/◌, ◌≡◌, ◌≤◌, List, [], ◌∷◌, ◌++◌, arith, inl}
use Rattle.pm_epochs.specs.declared.event.Event.TheVariants.{Store}
use Rattle.pm_epochs.specs.Log.{StoresTo}
use Rattle.pm_epochs.proofs.MayLaws.{StoresMay-append, StoresMay-weaker}
use Rattle.pm_epochs.proofs.PieceLaws.{IsPiece-append, IsPiece-more, IsPiece-store, StoresTo-prefix, StoresTo-after}
use Rattle.bp_layout.proofs.MemberLaws.{each-append, each-as, each-has, each-of}
use Rattle.bp_layout.specs.Members.{Has}
use Rattle.pm_region.specs.Memory.{Memory, Adds}
use Rattle.pm_region.specs.Safe.{AddsMay}
use Rattle.pm_region.proofs.MemoryLaws.{adds_both}
use Rattle.pm_region.proofs.MayLaws.{may_none}
use Rattle.bp_changes.specs.Performs.{InBlock}
use Rattle.bp_append.specs.Into.{AddsInto}

-- stores of which nothing is said
into_any : (May : ℕ → ℕ → Type 0) (most : ℕ) (old new : Memory) → AddsMay May 0 most old new → AddsInto [] May most old new
into_any May most old new part = record { part = part; stored = tt }

pub into_none : (May : ℕ → ℕ → Type 0) (memory : Memory) → AddsInto [] May 0 memory memory
into_none May memory = into_any May 0 memory memory (may_none May memory)

-- fewer blocks, more values that may stand, and a looser bound
pub into_more : (xs ys : List ℕ) (May Other : ℕ → ℕ → Type 0) (most more : ℕ) (old new : Memory) → ((b : ℕ) → Has ys b → Has xs b) → ((word value : ℕ) → May word value → Other word value) → most ≤ more →
    AddsInto xs May most old new → AddsInto ys Other more old new
into_more xs ys May Other most more old new fewer weaker few into = record {
  part = record {
    added = into.part.added;
    adds = into.part.adds;
    may = StoresMay-weaker May Other weaker into.part.added into.part.may;
    piece = IsPiece-more 0 most 0 more into.part.added (omega arith) few into.part.piece;
  };
  stored = each-of (λ b. StoresTo (InBlock b) into.part.added) ys (λ b has. each-has (λ x. StoresTo (InBlock x) into.part.added) xs b into.stored (fewer b has));
}

-- one store
pub into_one : (May : ℕ → ℕ → Type 0) (block word value : ℕ) (old new : Memory) → word / 512 ≡ block → May word value → Adds old new (Store word value ∷ []) → AddsInto (block ∷ []) May 1 old new
into_one May block word value old new inside may adds = record {
  part = record { added = Store word value ∷ []; adds = adds; may = (may, tt); piece = IsPiece-store word value };
  stored = (inl inside, tt);
}

pub into_twice : (xs ys : List ℕ) (May : ℕ → ℕ → Type 0) (most more : ℕ) (old middle new : Memory) → AddsInto xs May most old middle → AddsInto ys May more middle new → AddsInto (xs ++ ys) May (most + more) old new
into_twice xs ys May most more old middle new one two = record {
  part = record {
    added = one.part.added ++ two.part.added;
    adds = adds_both old middle new one.part.added two.part.added one.part.adds two.part.adds;
    may = StoresMay-append May one.part.added two.part.added one.part.may two.part.may;
    piece = IsPiece-append 0 most 0 more one.part.added two.part.added one.part.piece two.part.piece;
  };
  stored = each-append (λ b. StoresTo (InBlock b) (one.part.added ++ two.part.added)) xs ys
      (each-as (λ b. StoresTo (InBlock b) one.part.added) (λ b. StoresTo (InBlock b) (one.part.added ++ two.part.added)) (λ b. StoresTo-prefix (InBlock b) one.part.added two.part.added) xs one.stored)
      (each-as (λ b. StoresTo (InBlock b) two.part.added) (λ b. StoresTo (InBlock b) (one.part.added ++ two.part.added)) (λ b. StoresTo-after (InBlock b) one.part.added two.part.added) ys two.stored);
}
