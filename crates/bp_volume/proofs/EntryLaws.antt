-- The entries of a directory are those of the plain tree below its path.
use Rattle.std.proofs.Common.{◌≡◌, ℕ, List, [], ◌∷◌, ◌++◌, map, length, Bool, true, false, ◌==◌, Some, refl, sym, ◌∙◌, ap, IsPermutation, IsSortedBy}
use Rattle.std.specs.Prelude.{if◌then◌else◌}
use Rattle.std.specs.Option.{option_map}
use Rattle.std.specs.FinMap.{get}
use Rattle.std.specs.FinMap.Entries.{find}
use Rattle.std.proofs.lemmas.List.{map-id}
use Rattle.std.proofs.lemmas.Simd.{map-map}
use Rattle.bp_layout.specs.Words.{Image}
use Rattle.bp_layout.specs.Inode.{kind_of}
use Rattle.bp_layout.specs.Directory.{entry_count, ino_at, name_at}
use Rattle.bp_layout.specs.Paths.{Attributes, Name, Path}
use Rattle.bp_layout.specs.Reached.{IsReached}
use Rattle.bp_layout.specs.Lookup.{lookup}
use Rattle.bp_layout.specs.Paths.Node.{dir, file}
use Rattle.bp_layout.specs.declared.fields.Kind.{Kind}
use Rattle.bp_plain.specs.PlainTree.{FileTree}
use Rattle.bp_plain.specs.Stands.{Stands}
use Rattle.bp_plain.specs.Plain.{kind_of_node, listing}
use Rattle.bp_plain.proofs.EntryItems.{find-shown, items-differ}
use Rattle.bp_plain.proofs.ListedNames.{NamesDiffer, by_bytes, comes_before}
use Rattle.bp_calls.specs.Asked.{ListsNames, kind_seen, entries_seen}
use Rattle.bp_volume.proofs.WalkLaws.{reached_at}
use Rattle.bp_volume.proofs.ListingLaws.{by_name, keyed, length-listing, sorted-listing}

kind_of_node-is : (kind : ℕ) (attributes : Attributes) (content : List ℕ) → kind_of_node (if kind == 1 then file attributes content else dir attributes) ≡ kind_seen kind
kind_of_node-is kind attributes content = go (kind == 1) refl
  where
    go : (b : Bool) → (kind == 1) ≡ b → kind_of_node (if kind == 1 then file attributes content else dir attributes) ≡ kind_seen kind
    go true at = rw at refl
    go false at = rw at refl

module _ (image : Image) (tree : FileTree) (stands : Stands image tree) (here : Path) (i : ℕ) (at : lookup image here ≡ Some i) (kind : kind_of image i ≡ 2) where
  abbrev reported : ℕ → Kind
  reported j = kind_seen (kind_of image j)

  abbrev seen_at : ℕ → Kind × Name
  seen_at slot = (reported (ino_at image i slot), name_at image i slot)

  reached : IsReached image i
  reached = reached_at image stands.now.well_formed here i at

  seen_once : NamesDiffer (map by_name (entries_seen image i (entry_count image i)))
  seen_once = items-differ image stands.now.well_formed i reached kind reported by_name seen_at (λ slot. refl)

  seen_found : (name : Name) → find by_bytes name (map by_name (entries_seen image i (entry_count image i))) ≡ option_map kind_of_node (get tree.now.nodes (here ++ name ∷ []))
  seen_found = find-shown image stands.now.well_formed i reached kind reported by_name seen_at (λ slot. refl) (λ k. k) (λ j. sym (kind_of_node-is (kind_of image j) _ _)) tree.now stands.now here at

  -- the plain listing has as many
  pub length-entries : length (listing tree.now.nodes here) ≡ length (entries_seen image i (entry_count image i))
  length-entries = length-listing (λ e. e) tree.now.nodes here (entries_seen image i (entry_count image i)) seen_once seen_found

  -- once they are sorted by their names, they are the plain listing
  pub listing-entries : {Item : Type 0} (seen : Item → Kind × Name) (before done : List Item) → map seen before ≡ entries_seen image i (entry_count image i) → IsPermutation before done → IsSortedBy (comes_before (keyed seen)) done →
      map seen done ≡ listing tree.now.nodes here
  listing-entries {Item} seen before done are moved up =
      let same : map (keyed seen) before ≡ map by_name (entries_seen image i (entry_count image i)) = sym (map-map by_name seen before) ∙ ap (map by_name) are in
      sorted-listing seen tree.now.nodes here before (rw same seen_once) (λ name. rw same (seen_found name)) done moved up

  -- what a directory is reported to have is the plain listing
  pub listing-names : (names : List (Kind × Name)) → ListsNames image i names → names ≡ listing tree.now.nodes here
  listing-names names lists = sym (map-id names) ∙ listing-entries (λ e. e) (entries_seen image i (entry_count image i)) names (map-id (entries_seen image i (entry_count image i))) lists.all lists.sorted
