-- The listing of a plain tree is the sorted list of a directory's entries.
use Rattle.std.proofs.Common.{◌≡◌, List, [], ◌∷◌, ◌++◌, map, length, Bool, true, false, Option, None, Some, refl, sym, ◌∙◌, ap, arith, IsPermutation, IsSortedBy}
use Rattle.std.specs.Option.{option_map}
use Rattle.std.specs.List.{IsDistinct, AllByRecursion}
use Rattle.std.specs.Ordering.{eq_by_cmp}
use Rattle.std.specs.Cmp.Lexicographic.{nat_list_cmp_total}
use Rattle.std.specs.FinMap.{FinMap, entries, entries_sorted, get, get-entries, from_entries, get-from_entries, len, len-entries, len-empty, len-insert, contains_key}
use Rattle.std.specs.FinMap.Entries.{find, same_entries}
use Rattle.std.proofs.lemmas.List.{length-map, map-id}
use Rattle.std.proofs.lemmas.Simd.{map-map}
use Rattle.bp_layout.specs.Paths.{Name, Path}
use Rattle.bp_layout.specs.declared.fields.Kind.{Kind}
use Rattle.bp_plain.specs.PlainTree.{Nodes}
use Rattle.bp_plain.specs.Plain.{kind_of_node, listing}
use Rattle.bp_plain.proofs.ListedNames.{NamesDiffer, NamesDiffer-permutation, by_bytes, by_bytes-IsAntisymmetric, comes_before, find-listing, find-moved, sorted-listed, sorted_listing}

-- an entry of a listing under its name
abbrev pub by_name : Kind × Name → Name × Kind
by_name entry = (entry.1, entry.0)

-- ---- entries of which no two have one name

find_nothing : (es : List (Name × Kind)) (name : Name) → AllByRecursion (λ y. eq_by_cmp by_bytes name y ≡ false) (map (λ e. e.0) es) → find by_bytes name es ≡ None
find_nothing [] name all = refl
find_nothing (entry ∷ es) name all = rw all.0 (find_nothing es name all.1)

len-from_apart : (es : List (Name × Kind)) → NamesDiffer es → len (from_entries {R = by_bytes} es) ≡ length es
unfolding IsDistinct
len-from_apart [] apart = len-empty by_bytes Kind
len-from_apart (entry ∷ es) apart =
    let rest : FinMap by_bytes Kind = from_entries es in
    let none : contains_key rest entry.0 ≡ false = ap (λ (o : Option Kind). elim o as (λ o. Bool) [ None ↦ false | Some kind ↦ true ]) (get-from_entries nat_list_cmp_total es entry.0 ∙ find_nothing es entry.0 apart.0) in
    len-insert nat_list_cmp_total rest entry.0 entry.1 ∙ rw none (omega (arith, len-from_apart es apart.1))

-- ---- items that were sorted

module _ {Item : Type 0} (seen : Item → Kind × Name) where
  abbrev pub keyed : Item → Name × Kind
  keyed item = by_name (seen item)

  module _ (nodes : Nodes) (here : Path) (items : List Item) (apart : NamesDiffer (map keyed items))
      (finds : (name : Name) → find by_bytes name (map keyed items) ≡ option_map kind_of_node (get nodes (here ++ name ∷ []))) where
    -- there are as many as the listing has
    pub length-listing : length (listing nodes here) ≡ length items
    length-listing =
        let made : FinMap by_bytes Kind = from_entries (map keyed items) in
        let same : entries made ≡ map by_name (listing nodes here) =
        same_entries by_bytes nat_list_cmp_total by_bytes-IsAntisymmetric (entries made) (map by_name (listing nodes here)) (entries_sorted made) (sorted_listing (λ k. k) here nodes)
        (λ name. sym (get-entries made name) ∙ get-from_entries nat_list_cmp_total (map keyed items) name ∙ finds name ∙ sym (find-listing (λ k. k) here nodes name)) in
        omega (arith, length-map (listing nodes here) by_name, ap length same, len-entries made, len-from_apart (map keyed items) apart, length-map items keyed)

    -- once they are sorted by their names, they are the listing
    pub sorted-listing : (done : List Item) → IsPermutation items done → IsSortedBy (comes_before keyed) done → map seen done ≡ listing nodes here
    sorted-listing done moved up =
        let same : map keyed done ≡ map by_name (listing nodes here) =
        sorted-listed keyed (λ k. k) here nodes done up (NamesDiffer-permutation keyed items done moved apart) (λ name. find-moved keyed items done moved apart name ∙ finds name) in
        sym (map-map swapped keyed done) ∙ ap (map swapped) same ∙ map-map swapped by_name (listing nodes here) ∙ map-id (listing nodes here)
      where
        swapped : Name × Kind → Kind × Name
        swapped entry = (entry.1, entry.0)
