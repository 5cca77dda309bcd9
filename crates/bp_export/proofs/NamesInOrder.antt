-- The names of a directory, once they are sorted, are those that the plain tree lists.
use Rattle.std.proofs.Common.{◌≡◌, ℕ, List, map, All, Some, refl, sym, ◌∙◌, ap, IsPermutation, IsSortedBy, Contains}
use Rattle.std.proofs.lemmas.Iterator.Adapters.{option_map_id}
use Rattle.std.proofs.lemmas.List.Elements.{All-contains_itself, All-weaker}
use Rattle.std.proofs.lemmas.Simd.{map-map}
use Rattle.bp_layout.specs.Directory.{entry_count, ino_at, lookup_in, name_at}
use Rattle.bp_layout.specs.Paths.{Name, Path}
use Rattle.bp_layout.specs.Inode.{kind_of}
use Rattle.bp_layout.specs.Lookup.{lookup}
use Rattle.bp_layout.specs.Reached.{IsReached}
use Rattle.bp_layout.specs.WellFormed.{IsWellFormed}
use Rattle.bp_layout.specs.Words.{Image}
use Rattle.bp_plain.specs.Plain.{listing}
use Rattle.bp_plain.specs.PlainTree.{PathMap}
use Rattle.bp_plain.specs.Stands.{Shows}
use Rattle.bp_plain.proofs.EntryItems.{find-items, find-shown, items-differ}
use Rattle.bp_plain.proofs.ListedNames.{NamesDiffer, NamesDiffer-permutation, find-moved, item-find, sorted-listed, under_name}
use Rattle.bp_export.specs.Entries.{AreEntries, entries_named, entry_comes_before}

-- an entry under its name, with what is stated of its inode
abbrev recorded_by : {A : Type 0} → (ℕ → A) → ℕ × Name → Name × A
recorded_by of entry = (entry.1, of entry.0)

abbrev is_there : {A : Type 0} → A → Unit {0}
is_there x = tt

module _ (image : Image) (wf : IsWellFormed image) (i : ℕ) (reached : IsReached image i) (kind : kind_of image i ≡ 2)
    (done : List (ℕ × Name)) (moved : IsPermutation (entries_named image i 0 (entry_count image i)) done) (up : IsSortedBy entry_comes_before done) where
  abbrev named_at : ℕ → ℕ × Name
  named_at slot = (ino_at image i slot, name_at image i slot)

  -- no two have one name
  once : {A : Type 0} (of : ℕ → A) → NamesDiffer (map (recorded_by of) (entries_named image i 0 (entry_count image i)))
  once of = items-differ image wf i reached kind of (recorded_by of) named_at (λ slot. refl)

  done_once : {A : Type 0} (of : ℕ → A) → NamesDiffer (map (recorded_by of) done)
  done_once of = NamesDiffer-permutation (recorded_by of) _ done moved (once of)

  -- each name finds its inode
  all_find : All (λ entry. lookup_in image i entry.1 ≡ Some entry.0) done
  all_find = All-weaker (Contains done) (λ entry. lookup_in image i entry.1 ≡ Some entry.0) finds done (All-contains_itself done)
    where
      finds : (entry : ℕ × Name) → Contains done entry → lookup_in image i entry.1 ≡ Some entry.0
      finds entry there =
          sym (option_map_id (lookup_in image i entry.1))
          ∙ sym (find-items image wf i reached kind (λ j. j) (recorded_by (λ j. j)) named_at (λ slot. refl) entry.1)
          ∙ sym (find-moved (recorded_by (λ j. j)) _ done moved (once (λ j. j)) entry.1)
          ∙ item-find (recorded_by (λ j. j)) done entry (done_once (λ j. j)) there

  -- and the tree lists these names
  same_names : (tree : PathMap) → Shows image tree → (here : Path) → lookup image here ≡ Some i → map (λ entry. entry.1) done ≡ map (λ entry. entry.1) (listing tree.nodes here)
  same_names tree shows here at =
      let listed : map (recorded_by is_there) done ≡ map (under_name is_there) (listing tree.nodes here) =
      sorted-listed (recorded_by is_there) is_there here tree.nodes done up (done_once is_there)
      (λ name. find-moved (recorded_by is_there) _ done moved (once is_there) name
      ∙ find-shown image wf i reached kind is_there (recorded_by is_there) named_at (λ slot. refl) is_there (λ j. refl) tree shows here at name) in
      sym (map-map (λ e. e.0) (recorded_by is_there) done) ∙ ap (map (λ e. e.0)) listed ∙ map-map (λ e. e.0) (under_name is_there) (listing tree.nodes here)

  pub are_entries : AreEntries image i done
  are_entries = record {
    names = λ tree path shows at. same_names tree shows path at;
    found = all_find;
  }
