-- The abstract view of a name cache in contracts.
use Rattle.std.specs.Prelude.{ℕ, ◌≤◌, Bool, ◌&&◌, nat_eq, bytes_eq, List, [], ◌∷◌, ◌++◌, length, take, Option, Contains, refl}
use Rattle.std.specs.Coded.{Coded, code_by, coded×, coded_list, coded_ℕ}
use Rattle.std.specs.Hash as fed
use Rattle.std.specs.Map.{lookup, remove_entry}
use Rattle.std.specs.FinMap.{from_entries}
use Rattle.lru.specs.LruCache.{promoted}
use Rattle.bp_limits.specs.CallLimits.{max_name}
use Rattle.bp_layout.specs.Hints.{NameIn, Known}

-- names with their slots, the most recent first, and the greatest number of names
pub record Remembered : Type 0 where
  pub pairs : List (NameIn × ℕ)
  pub room : ℕ

abbrev pub remembered : List (NameIn × ℕ) → ℕ → Remembered
remembered pairs room = record { pairs = pairs; room = room }

abbrev pub remembered_code : Coded Remembered
remembered_code = code_by (List (NameIn × ℕ) × ℕ) (coded× (coded_list (coded× (coded× coded_ℕ (coded_list coded_ℕ)) coded_ℕ)) coded_ℕ)
    (λ r. (r.pairs, r.room)) (λ p. remembered p.0 p.1) (λ _. refl)

-- whether two names are the same, in the same directory
abbrev pub is_same : NameIn → NameIn → Bool
is_same a b = nat_eq a.0 b.0 && bytes_eq a.1 b.1

-- the slot of a name
abbrev pub slot_in : NameIn → List (NameIn × ℕ) → Option ℕ
slot_in name pairs = lookup (is_same name) pairs

-- the list without a name
abbrev pub forgot : NameIn → List (NameIn × ℕ) → List (NameIn × ℕ)
forgot name pairs = remove_entry (is_same name) pairs

-- the list with the name moved to the start, if the list has it
abbrev pub recalled : NameIn → List (NameIn × ℕ) → List (NameIn × ℕ)
recalled name pairs = promoted (is_same name) pairs

-- the name with this slot first, then the others, as many as there is room for
abbrev pub learned : NameIn → ℕ → ℕ → List (NameIn × ℕ) → List (NameIn × ℕ)
learned name slot room pairs = take room ((name, slot) ∷ forgot name pairs)

-- the remembered names as a map
abbrev pub known_of : Remembered → Known
known_of names = from_entries names.pairs

-- no name is longer than `max_name`
abbrev pub AreShort : List (NameIn × ℕ) → Type 0
AreShort pairs = (pair : NameIn × ℕ) → Contains pairs pair → length pair.0.1 ≤ max_name

-- the data of a name that is hashed
abbrev pub hash_writes : NameIn → List (List ℕ)
hash_writes name = fed.u32 name.0 ++ name.1 ∷ []
