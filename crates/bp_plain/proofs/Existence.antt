-- A well-formed image stands for a tree.
use Rattle.std.proofs.Common.{◌≡◌, ◌⊎◌, ℕ, List, [], ◌∷◌, Bool, true, false, cond, Option, None, Some, option_and_then, ◌||◌, refl, sym, ◌∙◌, ap, inl, inr}
use Rattle.std.specs.List.{filter_map}
use Rattle.std.specs.Option.{option_map}
use Rattle.std.specs.FinMap.{from_entries, get, get-from_entries}
use Rattle.std.specs.FinMap.Entries.{find}
use Rattle.std.specs.Ordering.{eq_by_cmp}
use Rattle.bp_layout.specs.Words.{Image}
use Rattle.bp_layout.specs.Paths.{same_path, Path, Node}
use Rattle.bp_layout.specs.Formatted.{version_of}
use Rattle.bp_layout.specs.Lookup.{file_at, if_file, lookup, shown}
use Rattle.bp_layout.specs.Trees.{has_snapshot, snapshot_of}
use Rattle.bp_layout.specs.WellFormed.{IsWellFormed}
use Rattle.bp_layout.proofs.Existence.{Has, all_paths, has_all}
use Rattle.bp_layout.proofs.Below.{same_path-self}
use Rattle.bp_plain.specs.Kernels.{kernel_from}
use Rattle.bp_plain.specs.PlainTree.{FileTree, Nodes, PathMap, path_cmp}
use Rattle.bp_plain.specs.Stands.{Shows, ShowsSnapshot, Stands}
use Rattle.bp_plain.proofs.Kernels.{any_path, kernel_of}
use Rattle.bp_plain.proofs.PathOrder.{path_cmp-IsTotalOrder, same_path_from, other_path_from}

module _ (image : Image) (wf : IsWellFormed image) where
  entry_of : Path → Option (Path × Node)
  entry_of path = option_map (λ node. (path, node)) (shown image path)

  entries_of : List Path → List (Path × Node)
  entries_of paths = filter_map entry_of paths

  finds_shown : (paths : List Path) (q : Path) (node : Node) → find path_cmp q (entries_of paths) ≡ Some node → shown image q ≡ Some node
  unfolding entries_of entry_of
  finds_shown [] q node e = absurd (cc)
  finds_shown (p ∷ paths) q node e = go (λ r. finds_shown paths q node r) (shown image p) refl
    where
      at_entry : (find path_cmp q (entries_of paths) ≡ Some node → shown image q ≡ Some node) → (other : Node) → shown image p ≡ Some other →
          (b : Bool) → eq_by_cmp path_cmp q p ≡ b → cond b (Some other) (find path_cmp q (entries_of paths)) ≡ Some node → shown image q ≡ Some node
      at_entry rest other at true same f = ap (shown image) (same_path_from q p same) ∙ at ∙ f
      at_entry rest other at false same f = rest f

      go : (find path_cmp q (entries_of paths) ≡ Some node → shown image q ≡ Some node) → (o : Option Node) → shown image p ≡ o → shown image q ≡ Some node
      go rest None at = rest (rw at at e)
      go rest (Some other) at = at_entry rest other at (eq_by_cmp path_cmp q p) refl (rw at at e)

  shown_found : (paths : List Path) (q : Path) (node : Node) → Has paths q → shown image q ≡ Some node → find path_cmp q (entries_of paths) ≡ Some node
  unfolding entries_of entry_of
  shown_found [] q node h e = absurd h
  shown_found (p ∷ paths) q node h e = go (λ r. shown_found paths q node r e) (shown image p) refl h
    where
      at_entry : (Has paths q → find path_cmp q (entries_of paths) ≡ Some node) → (other : Node) → shown image p ≡ Some other → (p ≡ q) ⊎ Has paths q →
          (b : Bool) → eq_by_cmp path_cmp q p ≡ b → cond b (Some other) (find path_cmp q (entries_of paths)) ≡ Some node
      at_entry rest other at which true same = sym at ∙ ap (shown image) (sym (same_path_from q p same)) ∙ e
      at_entry rest other at (inl here) false same = absurd (other_path_from q p same (sym here))
      at_entry rest other at (inr later) false same = rest later

      go : (Has paths q → find path_cmp q (entries_of paths) ≡ Some node) → (o : Option Node) → shown image p ≡ o → (p ≡ q) ⊎ Has paths q →
          find path_cmp q (entries_of (p ∷ paths)) ≡ Some node
      go rest None at (inl here) = let none : ◌≡◌ {A = Option Node} None (Some node) = sym at ∙ ap (shown image) here ∙ e in absurd (cc)
      go rest None at (inr later) = rw at (rest later)
      go rest (Some other) at which = rw at (at_entry rest other at which (eq_by_cmp path_cmp q p) refl)

  nodes_shown : Nodes
  nodes_shown = from_entries (entries_of (all_paths image wf))

  nodes_are_shown : (path : Path) → get nodes_shown path ≡ shown image path
  unfolding nodes_shown
  nodes_are_shown path = get-from_entries path_cmp-IsTotalOrder (entries_of (all_paths image wf)) path ∙ go path (shown image path) refl (find path_cmp path (entries_of (all_paths image wf))) refl
    where
      has_shown : (path : Path) (node : Node) → shown image path ≡ Some node → (found : Option ℕ) → lookup image path ≡ found → Has (all_paths image wf) path
      has_shown path node e None at = let none : ◌≡◌ {A = Option Node} None (Some node) = rw at at e in absurd (cc)
      has_shown path node e (Some i) at = has_all image wf path i at

      go : (path : Path) (o : Option Node) → shown image path ≡ o → (f : Option Node) → find path_cmp path (entries_of (all_paths image wf)) ≡ f → find path_cmp path (entries_of (all_paths image wf)) ≡ shown image path
      go path (Some node) e f at = shown_found (all_paths image wf) path node (has_shown path node e (lookup image path) refl) e ∙ sym e
      go path None e None at = at ∙ sym e
      go path None e (Some node) at = let some : ◌≡◌ {A = Option Node} None (Some node) = sym e ∙ finds_shown (all_paths image wf) path node at in absurd (cc)

  has-any : (q : Path) (paths : List Path) → Has paths q → any_path q paths ≡ true
  has-any q [] h = absurd h
  has-any q (p ∷ paths) h = go (λ later. has-any q paths later) h
    where
      or_true : (b : Bool) → (b || true) ≡ true
      or_true true = refl
      or_true false = refl

      go : (Has paths q → any_path q paths ≡ true) → (p ≡ q) ⊎ Has paths q → (same_path q p || any_path q paths) ≡ true
      go rest (inl e) = rw (e, same_path-self q) refl
      go rest (inr later) = rw (rest later) (or_true (same_path q p))

  files_there : (p : Path) (i : ℕ) → file_at image p ≡ Some i → any_path p (all_paths image wf) ≡ true
  files_there p i e = has-any p (all_paths image wf) (go (lookup image p) refl e)
    where
      go : (x : Option ℕ) → lookup image p ≡ x → option_and_then (if_file image) x ≡ Some i → Has (all_paths image wf) p
      go None at e = absurd (cc)
      go (Some j) at e = has_all image wf p j at

  pub map_shown : PathMap
  map_shown = record { nodes = nodes_shown; one = kernel_from (file_at image) (all_paths image wf) }

  pub is_shown : Shows image map_shown
  unfolding map_shown
  is_shown = record {
    well_formed = wf;
    shows = nodes_are_shown;
    one = (kernel_of (file_at image) (all_paths image wf) files_there).each;
  }

module _ (image : Image) (first : IsWellFormed image) (second : has_snapshot image ≡ true → IsWellFormed (snapshot_of image)) where
  snap_shown : (there : Bool) → has_snapshot image ≡ there → Option PathMap
  snap_shown true e = Some (map_shown (snapshot_of image) (second e))
  snap_shown false e = None

  snap_is_shown : (there : Bool) (e : has_snapshot image ≡ there) → ShowsSnapshot image (snap_shown there e)
  unfolding snap_shown
  snap_is_shown true e = (e, is_shown (snapshot_of image) (second e))
  snap_is_shown false e = e

  pub tree_of : FileTree
  tree_of = record { version = version_of image; now = map_shown image first; snap = snap_shown (has_snapshot image) refl }

  -- the tree for which the image stands
  pub stands_for : Stands image tree_of
  unfolding tree_of
  stands_for = record { version = refl; now = is_shown image first; snap = snap_is_shown (has_snapshot image) refl }
