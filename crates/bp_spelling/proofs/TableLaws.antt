-- A table of names, cell by cell, and what it describes the entries that were put into it.
use Rattle.std.proofs.Common.{◌≡◌, ◌≢◌, ℕ, ◌+◌, ◌<◌, ◌≤◌, List, ◌∷◌, length, set, sym, ◌∙◌, ap, ap₂, subst, arith, inl, inr}
use Rattle.std.specs.List.{All}
use Rattle.std.proofs.lemmas.Bool.{cases_eq, cases_lt}
use Rattle.std.proofs.lemmas.List.{get_or-set_same, get_or-set_other, length-set}
use Rattle.bp_layout.specs.Words.{Image}
use Rattle.bp_spelling.specs.declared.entry.Spelled.{Spelled}
use Rattle.bp_spelling.specs.Hashes.{IsSpelled, place_of, places_of, spelled_key}
use Rattle.bp_spelling.specs.Places.{name_key, HaveOwnNames, IsDouble}
use Rattle.bp_spelling.specs.Tables.{home, cell_at, IsPresent, IsKept, Puts, IsClash, IsTableError}
use Rattle.bp_spelling.specs.Tables.IsClash.{double}
use Rattle.bp_spelling.specs.Tables.IsTableError.{repeated}
use Rattle.bp_spelling.specs.declared.table.Clash.TheVariants.{Double}
use Rattle.bp_spelling.specs.declared.table.TableError.TheVariants.{Repeated}
use Rattle.bp_spelling.proofs.HashLaws.{same_hash}
use Rattle.bp_spelling.proofs.HashOrder.{place-at, length-places}

abbrev empty_cell : Spelled
empty_cell = record { hash = 0; number = 0 }

-- ---- one entry

head : (x y : ℕ) (xs ys : List ℕ) → x ∷ xs ≡ y ∷ ys → x ≡ y
head x y xs ys same = cc

rest : (x y : ℕ) (xs ys : List ℕ) → x ∷ xs ≡ y ∷ ys → xs ≡ ys
rest x y xs ys same = cc

module _ (image : Image) (table : List Spelled) (entry : Spelled) where
  -- the cells before one that may hold the entry are taken by others
  pub record PassesBy (cell : ℕ) : Type 0 where
    pub from : home (length table) entry.hash ≤ cell
    pub taken : (before : ℕ) → home (length table) entry.hash ≤ before → before < cell → (cell_at table before).number ≢ 0
    pub others : (before : ℕ) → home (length table) entry.hash ≤ before → before < cell → spelled_key image (cell_at table before) ≡ spelled_key image entry → ⊥

  pub passes_more : (cell : ℕ) → PassesBy cell → (cell_at table cell).number ≢ 0 → (spelled_key image (cell_at table cell) ≡ spelled_key image entry → ⊥) → PassesBy (cell + 1)
  passes_more cell passes some other = record {
    from = omega (arith, passes.from);
    taken = λ before low high. elim (cases_eq before cell) [
      | inl here ↦ λ none. some (ap (λ (c : ℕ). (cell_at table c).number) (sym here) ∙ none)
      | inr apart ↦ passes.taken before low (omega (arith, high, apart))
    ];
    others = λ before low high. elim (cases_eq before cell) [
      | inl here ↦ λ same. other (ap (λ (c : ℕ). spelled_key image (cell_at table c)) (sym here) ∙ same)
      | inr apart ↦ passes.others before low (omega (arith, high, apart))
    ];
  }

  module _ (cell : ℕ) (low : cell < length table) (passes : PassesBy cell) (none : (cell_at table cell).number ≡ 0) (some : entry.number ≢ 0) where
    abbrev new : List Spelled
    new = set table cell entry

    long : length new ≡ length table
    long = length-set table cell entry

    at_new : cell_at new cell ≡ entry
    at_new = get_or-set_same table cell entry empty_cell low

    at_other : (c : ℕ) → c ≢ cell → cell_at new c ≡ cell_at table c
    at_other c apart = get_or-set_other table cell c entry empty_cell apart

    still_taken : (c : ℕ) → (cell_at table c).number ≢ 0 → (cell_at new c).number ≢ 0
    still_taken c was = elim (cases_eq c cell) [
      | inl here ↦ absurd (was (ap (λ (x : ℕ). (cell_at table x).number) here ∙ none))
      | inr apart ↦ λ gone. was (ap (λ (e : Spelled). e.number) (sym (at_other c apart)) ∙ gone)
    ]

    keep : (other : Spelled) → other.number ≢ 0 → IsKept table other → IsKept new other
    keep other present kept =
        let apart : kept.cell ≢ cell = λ here. present (ap (λ (e : Spelled). e.number) (sym kept.there) ∙ ap (λ (x : ℕ). (cell_at table x).number) here ∙ none) in
        record {
          cell = kept.cell;
          from = subst (λ (n : ℕ). home n other.hash ≤ kept.cell) (sym long) kept.from;
          there = at_other kept.cell apart ∙ kept.there;
          taken = λ before from high. still_taken before (kept.taken before (subst (λ (n : ℕ). home n other.hash ≤ before) long from) high);
        }

    never : (other : Spelled) → other.number ≢ 0 → IsKept table other → spelled_key image other ≡ spelled_key image entry → ⊥
    never other present kept same =
        let hashes : other.hash ≡ entry.hash = head _ _ _ _ same in
        let start : home (length table) other.hash ≡ home (length table) entry.hash = ap (home (length table)) hashes in
        elim (cases_lt kept.cell cell) [
          | inl before ↦ passes.others kept.cell (omega (arith, kept.from, start)) before (ap (spelled_key image) kept.there ∙ same)
          | inr beyond ↦ elim (cases_eq kept.cell cell) [
            | inl here ↦ present (ap (λ (e : Spelled). e.number) (sym kept.there) ∙ ap (λ (x : ℕ). (cell_at table x).number) here ∙ none)
            | inr apart ↦ kept.taken cell (omega (arith, passes.from, start)) (omega (arith, beyond, apart)) none
          ]
        ]

    pub puts : Puts image table new entry
    puts = record {
      here = record {
        cell = cell;
        from = subst (λ (n : ℕ). home n entry.hash ≤ cell) (sym long) passes.from;
        there = at_new;
        taken = λ before from high. still_taken before (passes.taken before (subst (λ (n : ℕ). home n entry.hash ≤ before) long from) high);
      };
      keeps = keep;
      alone = never;
      cells = λ c. elim (cases_eq c cell) [
        | inl here ↦ inr (ap (cell_at new) here ∙ at_new)
        | inr apart ↦ inl (at_other c apart)
      ];
    }

-- ---- the entries so far

-- an entry below a count is in this cell
pub record IsOneOf (entries : List Spelled) (count : ℕ) (cell : Spelled) : Type 0 where
  pub index : ℕ
  pub low : index < count
  pub is : cell_at entries index ≡ cell

-- the first entries, as many, stand in the table, which has no others, and no two have one name
pub record IsHeld (image : Image) (entries : List Spelled) (count : ℕ) (table : List Spelled) : Type 0 where
  pub kept : (k : ℕ) → k < count → IsKept table (cell_at entries k)
  pub apart : (i j : ℕ) → i < j → j < count → spelled_key image (cell_at entries i) ≡ spelled_key image (cell_at entries j) → ⊥
  pub cells : (c : ℕ) → IsPresent (cell_at table c) → IsOneOf entries count (cell_at table c)

module _ (image : Image) (entries : List Spelled) where
  -- no two keys are equal, so no two names are
  pub held_apart : All (IsSpelled image) entries → (count : ℕ) → length entries ≤ count → (table : List Spelled) → IsHeld image entries count table → HaveOwnNames image (places_of entries)
  held_apart exact count all table held i j order high same =
      let low : j < length entries = rw (length-places entries) at high in
      let before : i < length entries = omega (arith, order, low) in
      let names : name_key image (place_of (cell_at entries i)) ≡ name_key image (place_of (cell_at entries j)) =
      ap (name_key image) (sym (place-at entries i before)) ∙ same ∙ ap (name_key image) (place-at entries j low) in
      let hashes : (cell_at entries i).hash ≡ (cell_at entries j).hash = exact i empty_cell before ∙ same_hash image _ _ names ∙ sym (exact j empty_cell low) in
      held.apart i j order (omega (arith, low, all)) (ap₂ (λ (h : ℕ) (n : List ℕ). h ∷ n) hashes names)

  -- a clash with an entry reports a name that two entries have
  pub held_double : (count : ℕ) → count < length entries → (table : List Spelled) → IsHeld image entries count table → IsClash image table (cell_at entries count) Double →
      IsDouble image (places_of entries) (place_of (cell_at entries count))
  held_double count low table held (double cell some same) =
      let at = held.cells cell some in
      let order : at.index < count = at.low in
      record {
        first = at.index;
        second = count;
        order = order;
        low = rw (length-places entries) low;
        there = place-at entries count low;
        same =
            ap (name_key image) (place-at entries at.index (omega (arith, order, low))) ∙ rest _ _ _ _ (ap (spelled_key image) at.is ∙ same) ∙ sym (ap (name_key image) (place-at entries count low));
      }

-- one entry more is put into the table
module _ (image : Image) (entries : List Spelled) (present : All IsPresent entries) (count : ℕ) (low : count < length entries) (old new : List Spelled)
    (held : IsHeld image entries count old) (more : Puts image old new (cell_at entries count)) where
  some_at : (k : ℕ) → k < count → (cell_at entries k).number ≢ 0
  some_at k before = present k empty_cell (omega (arith, before, low))

  kept_more : (k : ℕ) → k < count + 1 → IsKept new (cell_at entries k)
  kept_more k before = elim (cases_eq k count) [
    | inl here ↦ subst (λ (n : ℕ). IsKept new (cell_at entries n)) (sym here) more.here
    | inr apart ↦
        let less : k < count = omega (arith, before, apart) in
        more.keeps (cell_at entries k) (some_at k less) (held.kept k less)
  ]

  apart_more : (i j : ℕ) → i < j → j < count + 1 → spelled_key image (cell_at entries i) ≡ spelled_key image (cell_at entries j) → ⊥
  apart_more i j order before same = elim (cases_eq j count) [
    | inl here ↦
        let less : i < count = omega (arith, order, here) in
        more.alone (cell_at entries i) (some_at i less) (held.kept i less) (same ∙ ap (λ (n : ℕ). spelled_key image (cell_at entries n)) here)
    | inr apart ↦ held.apart i j order (omega (arith, before, apart)) same
  ]

  cells_more : (c : ℕ) → IsPresent (cell_at new c) → IsOneOf entries (count + 1) (cell_at new c)
  cells_more c there = elim (more.cells c) [
    | inl same ↦
        let one : IsOneOf entries count (cell_at old c) = held.cells c (λ none. there (ap (λ (e : Spelled). e.number) same ∙ none)) in
        record { index = one.index; low = omega (arith, one.low); is = one.is ∙ sym same }
    | inr put ↦ record { index = count; low = omega arith; is = sym put }
  ]

  pub held_more : IsHeld image entries (count + 1) new
  held_more = record { kept = kept_more; apart = apart_more; cells = cells_more }

pub double_of : (image : Image) (places : List ℕ) (place : ℕ) → IsTableError image places (Repeated place) → IsDouble image places place
double_of image places _ (repeated place pair) = pair
