-- Counts of the events of a part of a call, and its last store.
use Rattle.std.proofs.Common.{◌≡◌, ℕ, ◌+◌, ◌≤◌, ◌⊎◌, inl, inr, List, [], ◌∷◌, ◌++◌, length, refl, ap, arith}
use Rattle.std.specs.Prelude.{Option, Some, None}
use Rattle.std.proofs.lemmas.List.{length-append}
use Rattle.pm_epochs.specs.declared.event.Event.{Event}
use Rattle.pm_epochs.specs.declared.event.Event.TheVariants.{Store, Barrier, CallEnd}
use Rattle.pm_epochs.specs.Log.{stores, barriers, call_ends, last_stored_or, last_stored, StoresTo, IsStoredIn, IsPiece}
use Rattle.pm_epochs.specs.Crash.{commit}
use Rattle.pm_epochs.specs.May.{StoresMay, AnyAt, links_of}
use Rattle.pm_epochs.proofs.CrashLaws.{barriers-append, call_ends-append}
use Rattle.pm_epochs.proofs.MayLaws.{StoresMay-weaker}

pub stores-append : (first rest : List Event) → stores (first ++ rest) ≡ stores first ++ stores rest
stores-append [] rest = refl
stores-append (Store word value ∷ first) rest = ap (λ events. Store word value ∷ events) (stores-append first rest)
stores-append (Barrier ∷ first) rest = stores-append first rest
stores-append (CallEnd ∷ first) rest = stores-append first rest

pub IsPiece-append : (most_barriers most_stores more_barriers more_stores : ℕ) (first rest : List Event) → IsPiece most_barriers most_stores first → IsPiece more_barriers more_stores rest →
    IsPiece (most_barriers + more_barriers) (most_stores + more_stores) (first ++ rest)
IsPiece-append most_barriers most_stores more_barriers more_stores first rest few more = record {
  no_call_end = omega (arith, call_ends-append first rest, few.no_call_end, more.no_call_end);
  few_barriers = omega (arith, barriers-append first rest, few.few_barriers, more.few_barriers);
  few_stores = omega (arith, ap length (stores-append first rest), length-append (stores first) (stores rest), few.few_stores, more.few_stores);
}

-- looser bounds
pub IsPiece-more : (most_barriers most_stores other_barriers other_stores : ℕ) (events : List Event) → most_barriers ≤ other_barriers → most_stores ≤ other_stores →
    IsPiece most_barriers most_stores events → IsPiece other_barriers other_stores events
IsPiece-more most_barriers most_stores other_barriers other_stores events low few piece = record {
  no_call_end = piece.no_call_end;
  few_barriers = omega (arith, low, piece.few_barriers);
  few_stores = omega (arith, few, piece.few_stores);
}

pub IsPiece-none : IsPiece 0 0 []
IsPiece-none = record { no_call_end = refl; few_barriers = omega arith; few_stores = omega arith }

pub IsPiece-store : (word value : ℕ) → IsPiece 0 1 (Store word value ∷ [])
IsPiece-store word value = record { no_call_end = refl; few_barriers = omega arith; few_stores = omega arith }

pub IsPiece-barrier : IsPiece 1 0 (Barrier ∷ [])
IsPiece-barrier = record { no_call_end = refl; few_barriers = omega arith; few_stores = omega arith }

pub IsPiece-commit : (word value : ℕ) → IsPiece 2 1 (commit word value)
IsPiece-commit word value = record { no_call_end = refl; few_barriers = omega arith; few_stores = omega arith }

pub IsPiece-links_of : (links : List (ℕ × ℕ)) → IsPiece 0 (length links) (links_of links)
IsPiece-links_of [] = IsPiece-none
IsPiece-links_of (link ∷ links) = let piece = IsPiece-links_of links in record {
  no_call_end = piece.no_call_end;
  few_barriers = piece.few_barriers;
  few_stores = omega (arith, piece.few_stores);
}

events_counted : (events : List Event) → length events ≡ length (stores events) + barriers events + call_ends events
events_counted [] = omega arith
events_counted (Store word value ∷ events) = let rest = events_counted events in omega arith
events_counted (Barrier ∷ events) = let rest = events_counted events in omega arith
events_counted (CallEnd ∷ events) = let rest = events_counted events in omega arith

-- the room that a piece takes
pub length-piece : (most_barriers most_stores : ℕ) (events : List Event) → IsPiece most_barriers most_stores events → length events ≤ most_barriers + most_stores
length-piece most_barriers most_stores events piece = omega (arith, events_counted events, piece.no_call_end, piece.few_barriers, piece.few_stores)

-- a committed call's last store is its commit
last_stored_or-commit : (otherwise : Option ℕ) (prepared : List Event) (word value : ℕ) → last_stored_or otherwise (prepared ++ commit word value) ≡ Some word
last_stored_or-commit otherwise [] word value = refl
last_stored_or-commit otherwise (Store place before ∷ prepared) word value = last_stored_or-commit (Some place) prepared word value
last_stored_or-commit otherwise (Barrier ∷ prepared) word value = last_stored_or-commit otherwise prepared word value
last_stored_or-commit otherwise (CallEnd ∷ prepared) word value = last_stored_or-commit otherwise prepared word value

pub last_stored-commit : (prepared : List Event) (word value : ℕ) → last_stored (prepared ++ commit word value) ≡ Some word
last_stored-commit prepared word value = last_stored_or-commit None prepared word value

-- the stores of joined logs that go to some words are those of either
pub StoresTo-append : (Inside : ℕ → Type 0) (first rest : List Event) → StoresTo Inside (first ++ rest) → StoresTo Inside first ⊎ StoresTo Inside rest
StoresTo-append Inside [] rest found = inr found
StoresTo-append Inside (Store word value ∷ first) rest found = elim found [
  | inl here ↦ inl (inl here)
  | inr following ↦ elim (StoresTo-append Inside first rest following) [ inl prefix ↦ inl (inr prefix) | inr back ↦ inr back ]
]
StoresTo-append Inside (Barrier ∷ first) rest found = StoresTo-append Inside first rest found
StoresTo-append Inside (CallEnd ∷ first) rest found = StoresTo-append Inside first rest found

pub StoresTo-prefix : (Inside : ℕ → Type 0) (first rest : List Event) → StoresTo Inside first → StoresTo Inside (first ++ rest)
StoresTo-prefix Inside [] rest found = elim found [ ]
StoresTo-prefix Inside (Store word value ∷ first) rest found = elim found [ inl here ↦ inl here | inr following ↦ inr (StoresTo-prefix Inside first rest following) ]
StoresTo-prefix Inside (Barrier ∷ first) rest found = StoresTo-prefix Inside first rest found
StoresTo-prefix Inside (CallEnd ∷ first) rest found = StoresTo-prefix Inside first rest found

pub StoresTo-after : (Inside : ℕ → Type 0) (first rest : List Event) → StoresTo Inside rest → StoresTo Inside (first ++ rest)
StoresTo-after Inside [] rest found = found
StoresTo-after Inside (Store word value ∷ first) rest found = inr (StoresTo-after Inside first rest found)
StoresTo-after Inside (Barrier ∷ first) rest found = StoresTo-after Inside first rest found
StoresTo-after Inside (CallEnd ∷ first) rest found = StoresTo-after Inside first rest found

-- each store of a log goes to a word to which it has a store
pub StoresMay-IsStoredIn : (events : List Event) → StoresMay (AnyAt (IsStoredIn events)) events
StoresMay-IsStoredIn [] = tt
StoresMay-IsStoredIn (Store word value ∷ events) =
    (inl refl, StoresMay-weaker (AnyAt (IsStoredIn events)) (AnyAt (IsStoredIn (Store word value ∷ events))) (λ place stored found. inr found) events (StoresMay-IsStoredIn events))
StoresMay-IsStoredIn (Barrier ∷ events) = StoresMay-IsStoredIn events
StoresMay-IsStoredIn (CallEnd ∷ events) = StoresMay-IsStoredIn events
