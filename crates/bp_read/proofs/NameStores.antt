-- The stores of a name, one after another.
use Rattle.std.proofs.Common.{◌≡◌, ◌⊎◌, ℕ, ◌+◌, ◌*◌, ◌/◌, ◌%◌, ◌<◌, ◌≤◌, List, [], ◌∷◌, length, get_or, ◌∙◌, ap, arith, inl, inr}
use Rattle.std.proofs.lemmas.Bool.{cases_eq}
use Rattle.pm_epochs.specs.declared.event.Event.TheVariants.{Store}
use Rattle.pm_epochs.specs.May.{AnyAt}
use Rattle.pm_region.specs.Memory.{Memory, current_words, room_in, Adds}
use Rattle.pm_region.specs.Safe.{AddsMay}
use Rattle.pm_region.proofs.MemoryLaws.{base-adds}
use Rattle.pm_region.proofs.MayLaws.{may_more, may_one, may_store, may_weaker, room_after_may}
use Rattle.bp_layout.specs.Words.{word, byte_of}
use Rattle.bp_read.specs.Within.{IsWithin}
use Rattle.bp_read.proofs.OneStore.{stored_here, stored_elsewhere}
use Rattle.bp_read.specs.Written.{taken_words}

-- one of the words that the name takes in the entry at this place, with any value
abbrev pub InName : ℕ → List ℕ → ℕ → ℕ → Type 0
InName place name = AnyAt (IsWithin (place + 1) (taken_words name))

-- the length of a name and its first words
pub record NameSoFar (old new : Memory) (place words : ℕ) (name : List ℕ) : Type 0 where
  pub stores : AddsMay (InName place name) 0 (words + 1) old new
  pub count : word (current_words new) (place + 1) ≡ length name
  pub bytes : (o : ℕ) → o < length name → o / 8 < words → byte_of (word (current_words new) (place + 2 + o / 8)) (o % 8) ≡ get_or name o 0

pub name_begun : (old new : Memory) (place : ℕ) (name : List ℕ) → place + 32 ≤ length old.base → Adds old new (Store (place + 1) (length name) ∷ []) → NameSoFar old new place 0 name
name_begun old new place name in_range adds = record {
  stores = may_one (InName place name) old new (place + 1) (length name) (record { low = omega arith; high = omega arith }) adds;
  count = stored_here old new (place + 1) (length name) adds (omega (arith, in_range));
  bytes = λ o low none. absurd (omega (arith, none));
}

module _ (old middle : Memory) (place words : ℕ) (name : List ℕ) (before : NameSoFar old middle place words name) where
  pub base_so_far : length middle.base ≡ length old.base
  base_so_far = ap length (base-adds old middle _ before.stores.adds)

  pub room_so_far : room_in old ≤ room_in middle + (words + 1)
  room_so_far =
      let left = room_after_may (InName place name) 0 (words + 1) old middle before.stores in
      omega (arith, left)

  module _ (new : Memory) (value : ℕ) (in_range : place + 32 ≤ length old.base) (short : length name ≤ 240) (few : words < (length name + 7) / 8) (adds : Adds middle new (Store (place + 2 + words) value ∷ []))
      (spells : (c : ℕ) → c < 8 → byte_of value c ≡ get_or name (8 * words + c) 0) where
    here_or_before : (o : ℕ) → o < length name → o / 8 < words + 1 → (o / 8 ≡ words) ⊎ (o / 8 ≡ words → ⊥) →
        byte_of (word (current_words new) (place + 2 + o / 8)) (o % 8) ≡ get_or name o 0
    here_or_before o low done (inl same) =
        let whole : 8 * words + o % 8 ≡ o = omega (arith, same) in
        rw (same, stored_here middle new (place + 2 + words) value adds (omega (arith, in_range, short, few, base_so_far))) (spells (o % 8) (omega arith) ∙ ap (λ n. get_or name n 0) whole)
    here_or_before o low done (inr other) =
        rw (stored_elsewhere middle new (place + 2 + words) value adds (place + 2 + o / 8) (λ e. other (omega (arith, e)))) (before.bytes o low (omega (arith, done, other)))

    pub name_more : NameSoFar old new place (words + 1) name
    name_more = record {
      stores = may_store (InName place name) 0 (words + 1) old middle new (place + 2 + words) value before.stores (record { low = omega arith; high = omega (arith, few) }) adds;
      count = stored_elsewhere middle new (place + 2 + words) value adds (place + 1) (λ e. omega (arith, e)) ∙ before.count;
      bytes = λ o low done. here_or_before o low done (cases_eq (o / 8) words);
    }

-- the whole name
module _ (old new : Memory) (place words : ℕ) (name : List ℕ) (all : NameSoFar old new place words name) (last : words ≤ (length name + 7) / 8) where
  pub name_taken : AddsMay (InName place name) 0 (taken_words name) old new
  name_taken = may_more (InName place name) 0 (words + 1) 0 (taken_words name) old new (omega arith) (omega (arith, last)) all.stores

  pub name_within : length name ≤ 240 → AddsMay (AnyAt (IsWithin (place + 1) 31)) 0 31 old new
  name_within short =
      may_more (AnyAt (IsWithin (place + 1) 31)) 0 (taken_words name) 0 31 old new (omega arith) (omega (arith, short))
      (may_weaker (InName place name) (AnyAt (IsWithin (place + 1) 31)) 0 (taken_words name) old new (λ word value at. record { low = at.low; high = omega (arith, at.high, short) }) name_taken)
