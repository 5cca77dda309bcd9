-- Items for the entries of a well-formed directory, keyed by their names: the names differ, and a name finds what is stated of the
-- inode that it stands for. What is stated of an inode is left open: its kind, its number, or nothing.
use Rattle.std.proofs.Common.{◌≡◌, ◌≢◌, ℕ, zero, suc, ◌+◌, ◌<◌, ◌≤◌, List, [], ◌∷◌, ◌++◌, map, Bool, true, false, not, cond, ◌&&◌, ◌==◌, Option, None, Some, filter_map, option_and_then, bytes_eq, refl, sym, ◌∙◌, ap, ap₂, arith}
use Rattle.std.specs.Prelude.{if◌then◌else◌}
use Rattle.std.specs.Option.{option_map}
use Rattle.std.specs.Cmp.{eq_by_cmp_equiv}
use Rattle.std.specs.Cmp.Lexicographic.{nat_list_cmp_total}
use Rattle.std.specs.FinMap.{get}
use Rattle.std.specs.FinMap.Entries.{find}
use Rattle.std.specs.List.{AllByRecursion, IsDistinct, cons_option, range_with_len, find as find_first}
use Rattle.std.specs.Ordering.{eq_by_cmp}
use Rattle.std.proofs.lemmas.Bool.{eqb-false, false_from_ne_true}
use Rattle.std.proofs.lemmas.Map.Text.{is_eq-slice_cmp}
use Rattle.bp_layout.specs.Directory.{EntryNames, entry_count, ino_at, is_named, lookup_in, name_at, slot_named}
use Rattle.bp_layout.specs.Paths.{Name, Path}
use Rattle.bp_layout.specs.Inode.{kind_of}
use Rattle.bp_layout.specs.Lookup.{lookup, node_of}
use Rattle.bp_layout.specs.Reached.{IsReached}
use Rattle.bp_layout.specs.WellFormed.{IsWellFormed}
use Rattle.bp_layout.specs.Words.{Image}
use Rattle.bp_layout.specs.declared.fields.Kind.{Kind}
use Rattle.bp_layout.proofs.Paths.{lookup_from-append}
use Rattle.bp_plain.specs.PlainTree.{PathMap}
use Rattle.bp_plain.specs.Stands.{Shows}
use Rattle.bp_plain.proofs.ListedNames.{NamesDiffer, by_bytes, same_name, value_of}

-- the test of names in the order of names
tied-names : (name other : Name) → eq_by_cmp by_bytes name other ≡ bytes_eq other name
tied-names name other = (eq_by_cmp_equiv nat_list_cmp_total).symm name other ∙ is_eq-slice_cmp other name

module _ (image : Image) (wf : IsWellFormed image) (i : ℕ) (reached : IsReached image i) (kind : kind_of image i ≡ 2) {A Item : Type 0} (of : ℕ → A)
    (keyed : Item → Name × A) (item : ℕ → Item) (is : (slot : ℕ) → keyed (item slot) ≡ (name_at image i slot, of (ino_at image i slot))) where
  -- an item for each of some slots whose entry names an inode
  abbrev items_at : List ℕ → List Item
  items_at slots = filter_map (λ slot. if ino_at image i slot == 0 then None else Some (item slot)) slots

  abbrev items_from : ℕ → ℕ → List (Name × A)
  items_from first count = map keyed (items_at (range_with_len first count))

  entry_at : (slot : ℕ) → slot < entry_count image i → ino_at image i slot ≢ 0 → EntryNames image i slot (ino_at image i slot)
  entry_at slot low not_empty = record { directory = kind; in_size = low; ino = refl; not_empty = not_empty }

  -- no later entry has the name of an earlier one
  apart : (slot later : ℕ) → slot < later → later < entry_count image i → ino_at image i slot ≢ 0 → ino_at image i later ≢ 0 →
      eq_by_cmp by_bytes (keyed (item slot)).0 (keyed (item later)).0 ≡ false
  apart slot later low high here there = false_from_ne_true _ (λ tied.
      let same : name_at image i slot ≡ name_at image i later = ap (λ (e : Name × A). e.0) (sym (is slot)) ∙ same_name _ _ tied ∙ ap (λ (e : Name × A). e.0) (is later) in
      let once : slot ≡ later = wf.names_once i slot later _ _ reached (entry_at slot (omega arith) here) (entry_at later high there) same in
      omega (arith, once))

  others : (slot first count : ℕ) → slot < first → first + count ≤ entry_count image i → ino_at image i slot ≢ 0 →
      AllByRecursion (λ name. eq_by_cmp by_bytes (keyed (item slot)).0 name ≡ false) (map (λ e. e.0) (items_from first count))
  others slot first zero low high not_empty = tt
  others slot first (suc count) low high not_empty = go (others slot (first + 1) count (omega arith) (omega (arith, high)) not_empty) (ino_at image i first == 0) refl
    where
      go : AllByRecursion (λ name. eq_by_cmp by_bytes (keyed (item slot)).0 name ≡ false) (map (λ e. e.0) (items_from (first + 1) count)) →
          (b : Bool) → (ino_at image i first == 0) ≡ b → AllByRecursion (λ name. eq_by_cmp by_bytes (keyed (item slot)).0 name ≡ false) (map (λ e. e.0) (items_from first (suc count)))
      go rest true at = rw at rest
      go rest false at = rw at (apart slot first low (omega (arith, high)) not_empty (eqb-false _ _ at), rest)

  -- so no two have one name
  differ : (first count : ℕ) → first + count ≤ entry_count image i → NamesDiffer (items_from first count)
  unfolding IsDistinct
  differ first zero high = tt
  differ first (suc count) high = go (differ (first + 1) count (omega (arith, high))) (ino_at image i first == 0) refl
    where
      go : NamesDiffer (items_from (first + 1) count) → (b : Bool) → (ino_at image i first == 0) ≡ b → NamesDiffer (items_from first (suc count))
      go rest true at = rw at rest
      go rest false at = rw at (others first (first + 1) count (omega arith) (omega (arith, high)) (eqb-false _ _ at), rest)

  pub items-differ : NamesDiffer (items_from 0 (entry_count image i))
  items-differ = differ 0 (entry_count image i) (omega arith)

  -- a name finds its first slot
  find-at : (name : Name) (slots : List ℕ) → find by_bytes name (map keyed (items_at slots)) ≡ option_map (λ slot. of (ino_at image i slot)) (find_first (is_named image i name) slots)
  find-at name [] = refl
  find-at name (slot ∷ slots) = go (ino_at image i slot == 0) (items_at slots) (find_first (is_named image i name) slots) (find-at name slots)
    where
      pushed : (b : Bool) (o : Option ℕ) → cond b (Some (of (ino_at image i slot))) (option_map (λ s. of (ino_at image i s)) o)
          ≡ option_map (λ s. of (ino_at image i s)) (cond b (Some slot) o)
      pushed true o = refl
      pushed false o = refl

      go : (empty : Bool) (items : List Item) (o : Option ℕ) → find by_bytes name (map keyed items) ≡ option_map (λ s. of (ino_at image i s)) o →
          find by_bytes name (map keyed (cons_option (if empty then None else Some (item slot)) items))
          ≡ option_map (λ s. of (ino_at image i s)) (cond (not empty && bytes_eq (name_at image i slot) name) (Some slot) o)
      go true items o rest = rest
      go false items o rest =
          ap₂ (λ (e : Name × A) r. cond (eq_by_cmp by_bytes name e.0) (Some e.1) r) (is slot) rest
          ∙ ap (λ b. cond b (Some (of (ino_at image i slot))) (option_map (λ s. of (ino_at image i s)) o)) (tied-names name (name_at image i slot))
          ∙ pushed (bytes_eq (name_at image i slot) name) o

  -- so it finds what is stated of its inode
  pub find-items : (name : Name) → find by_bytes name (items_from 0 (entry_count image i)) ≡ option_map of (lookup_in image i name)
  find-items name =
      find-at name (range_with_len 0 (entry_count image i))
      ∙ go (slot_named image i name)
      ∙ ap (λ k. option_map of (if k == 2 then option_map (ino_at image i) (slot_named image i name) else None)) (sym kind)
    where
      go : (o : Option ℕ) → option_map (λ slot. of (ino_at image i slot)) o ≡ option_map of (option_map (ino_at image i) o)
      go None = refl
      go (Some slot) = refl

  -- and that is what the tree has there
  pub find-shown : (reported : Kind → A) → ((j : ℕ) → of j ≡ value_of reported (node_of image j)) → (tree : PathMap) → Shows image tree → (here : Path) → lookup image here ≡ Some i →
      (name : Name) → find by_bytes name (items_from 0 (entry_count image i)) ≡ option_map (value_of reported) (get tree.nodes (here ++ name ∷ []))
  find-shown reported reports tree shows here at name =
      find-items name ∙ go (lookup_in image i name)
      ∙ ap (λ found. option_map (value_of reported) (option_map (node_of image) found)) (sym (lookup_from-append image 1 here name ∙ ap (option_and_then (λ k. lookup_in image k name)) at))
      ∙ ap (option_map (value_of reported)) (sym (shows.shows (here ++ name ∷ [])))
    where
      go : (o : Option ℕ) → option_map of o ≡ option_map (value_of reported) (option_map (node_of image) o)
      go None = refl
      go (Some j) = ap Some (reports j)
