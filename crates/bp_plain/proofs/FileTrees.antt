-- The tree for which an image stands is a file tree.
use Rattle.std.proofs.Common.{◌≡◌, ◌==◌, ◌&&◌, ℕ, List, Bool, true, false, true≢false, [], ◌∷◌, ◌++◌, Option, None, Some, option_and_then, if◌then◌else◌, refl, sym, ◌∙◌, ap, subst}
use Rattle.std.proofs.lemmas.Bool.{eqb-true}
use Rattle.std.specs.Option.{option_map}
use Rattle.bp_limits.specs.CallLimits.{allows_snapshot}
use Rattle.bp_layout.specs.Paths.{Attributes, IsName, Name, Path, Node}
use Rattle.bp_layout.specs.Inode.{attributes_of, kind_of, root_of, size_of}
use Rattle.bp_layout.specs.Tree.{content}
use Rattle.bp_layout.specs.Lookup.{are_one, file_at, if_file, lookup, node_of, shown}
use Rattle.bp_layout.specs.Paths.Node.{dir, file}
use Rattle.bp_layout.specs.Trees.{snapshot_of}
use Rattle.bp_layout.specs.Words.{Image}
use Rattle.bp_layout.proofs.Paths.{LastStep, last_step}
use Rattle.bp_plain.specs.PlainTree.{FileTree, IsDirAt, IsFileAtBoth, IsFileTree, IsPathMap, PathMap}
use Rattle.bp_plain.specs.Stands.{Shows, ShowsSnapshot, Stands}
use Rattle.bp_plain.proofs.Kernels.{are_one-back, are_one-self}

directory_shows : (image : Image) (i : ℕ) → kind_of image i ≡ 2 → node_of image i ≡ dir (attributes_of image i)
directory_shows image i kind = rw kind refl

-- ---- files

-- two labels that are one are there, and the same
pub data OneLabel (a b : Option ℕ) : Type 0 where
  one_label : (i : ℕ) → a ≡ Some i → b ≡ Some i → OneLabel a b

pub one_label_of : (a b : Option ℕ) → are_one a b ≡ true → OneLabel a b
one_label_of None b e = absurd (true≢false (sym e))
one_label_of (Some i) None e = absurd (true≢false (sym e))
one_label_of (Some i) (Some j) e = one_label i refl (ap Some (sym (eqb-true i j e)))

-- a path at which a file is found shows its bytes
file_shown : (image : Image) (i : ℕ) (found : Option ℕ) → option_and_then (if_file image) found ≡ Some i → option_map (node_of image) found ≡ Some (node_of image i) × (kind_of image i ≡ 1)
file_shown image i None e = absurd (cc)
file_shown image i (Some u) e = go (kind_of image u == 1) refl
  where
    go : (b : Bool) → (kind_of image u == 1) ≡ b → option_map (node_of image) (Some u) ≡ Some (node_of image i) × (kind_of image i ≡ 1)
    go true f =
        let found : (if kind_of image u == 1 then Some u else None) ≡ Some u = rw f refl in
        let same : ◌≡◌ {A = Option ℕ} (Some u) (Some i) = sym found ∙ e in
        let is : u ≡ i = cc in
        (ap (λ v. Some (node_of image v)) is, ap (kind_of image) (sym is) ∙ eqb-true _ 1 f)
    go false f =
        let found : (if kind_of image u == 1 then Some u else None) ≡ None = rw f refl in
        let wrong : ◌≡◌ {A = Option ℕ} None (Some i) = sym found ∙ e in absurd (cc)

-- a path that shows a file finds it
file_found : (image : Image) (attributes : Attributes) (bytes : List ℕ) (found : Option ℕ) → option_map (node_of image) found ≡ Some (file attributes bytes)
    → (i : ℕ) × (option_and_then (if_file image) found ≡ Some i)
file_found image attributes bytes None e = let wrong : ◌≡◌ {A = Option Node} None (Some (file attributes bytes)) = e in absurd (cc)
file_found image attributes bytes (Some u) e = go (kind_of image u == 1) refl
  where
    go : (b : Bool) → (kind_of image u == 1) ≡ b → (i : ℕ) × (option_and_then (if_file image) (Some u) ≡ Some i)
    go true f = (u, rw f refl)
    go false f =
        let shows : node_of image u ≡ dir (attributes_of image u) = rw f refl in
        let wrong : ◌≡◌ {A = Option Node} (Some (dir (attributes_of image u))) (Some (file attributes bytes)) = ap Some (sym shows) ∙ e in absurd (cc)

-- ---- one map

module _ (image : Image) (map : PathMap) (stands : Shows image map) where
  pub step_at : (path : Path) (name : Name) (node : Node) → shown image (path ++ name ∷ []) ≡ Some node → (i : ℕ) × LastStep image stands.well_formed path name i
  step_at path name node is = go (lookup image (path ++ name ∷ [])) refl
    where
      go : (found : Option ℕ) → lookup image (path ++ name ∷ []) ≡ found → (i : ℕ) × LastStep image stands.well_formed path name i
      go None at = let none : ◌≡◌ {A = Option Node} None (Some node) = rw at at is in absurd (cc)
      go (Some i) at = (i, last_step image stands.well_formed path name i at)

  above_shown : (path : Path) (name : Name) (node : Node) → shown image (path ++ name ∷ []) ≡ Some node → IsDirAt map.nodes path
  above_shown path name node is =
      let step = step_at path name node is in
      record {
        attributes = attributes_of image step.1.parent;
        is = stands.shows path ∙ ap (option_map (node_of image)) step.1.found ∙ ap Some (directory_shows image step.1.parent step.1.shows.entry.directory);
      }

  name_shown : (path : Path) (name : Name) (node : Node) → shown image (path ++ name ∷ []) ≡ Some node → IsName name
  name_shown path name node is =
      let step = step_at path name node is in
      subst IsName step.1.shows.spelled
      (stands.well_formed.names step.1.parent step.1.shows.slot step.0 step.1.reached step.1.shows.entry)

  both_files : (p q : Path) (i : ℕ) → file_at image p ≡ Some i → file_at image q ≡ Some i → IsFileAtBoth map.nodes p q
  both_files p q i e f = go (node_of image i) refl
    where
      go : (node : Node) → node_of image i ≡ node → IsFileAtBoth map.nodes p q
      go (dir attributes) at =
          let shows : node_of image i ≡ file (attributes_of image i) (content image (root_of image i) (size_of image i)) = rw (file_shown image i (lookup image p) e).1 refl in
          let wrong : ◌≡◌ {A = Node} (dir attributes) (file (attributes_of image i) (content image (root_of image i) (size_of image i))) = sym at ∙ shows in absurd (cc)
      go (file attributes bytes) at = record {
        attributes = attributes;
        bytes = bytes;
        one = stands.shows p ∙ (file_shown image i (lookup image p) e).0 ∙ ap Some at;
        other = stands.shows q ∙ (file_shown image i (lookup image q) f).0 ∙ ap Some at;
      }

  pub shows_path_map : IsPathMap map
  shows_path_map = record {
    root = record { attributes = attributes_of image 1; is = stands.shows [] ∙ ap Some (directory_shows image 1 stands.well_formed.root_kind) };
    parents = λ path name node is. above_shown path name node (sym (stands.shows (path ++ name ∷ [])) ∙ is);
    names = λ path name node is. name_shown path name node (sym (stands.shows (path ++ name ∷ [])) ∙ is);
    itself = λ p attributes bytes is. stands.one p p ∙ alone p (file_found image attributes bytes (lookup image p) (sym (stands.shows p) ∙ is));
    back = λ p q is. stands.one q p ∙ are_one-back (file_at image q) (file_at image p) ∙ sym (stands.one p q) ∙ is;
    chain = λ p q r one two. stands.one p r ∙ joined p q r (one_label_of _ _ (sym (stands.one p q) ∙ one)) (one_label_of _ _ (sym (stands.one q r) ∙ two));
    files = λ p q is. at_both p q (one_label_of _ _ (sym (stands.one p q) ∙ is));
  }
    where
      alone : (p : Path) → (i : ℕ) × (file_at image p ≡ Some i) → are_one (file_at image p) (file_at image p) ≡ true
      alone p found = rw found.1 (are_one-self found.0)

      joined : (p q r : Path) → OneLabel (file_at image p) (file_at image q) → OneLabel (file_at image q) (file_at image r) → are_one (file_at image p) (file_at image r) ≡ true
      joined p q r (one_label i e f) (one_label j g h) =
          let same : ◌≡◌ {A = Option ℕ} (Some i) (Some j) = sym f ∙ g in
          let is : i ≡ j = cc in
          rw (e, h, is) (are_one-self j)

      at_both : (p q : Path) → OneLabel (file_at image p) (file_at image q) → IsFileAtBoth map.nodes p q
      at_both p q (one_label i e f) = both_files p q i e f

-- ---- both maps

first_true : (a b : Bool) → (a && b) ≡ true → a ≡ true
first_true true b e = refl
first_true false b e = e

pub stands_file_tree : (image : Image) (tree : FileTree) → Stands image tree → IsFileTree tree
stands_file_tree image tree stands = record {
  now = shows_path_map image tree.now stands.now;
  snap = λ map is. of_snap map (subst (ShowsSnapshot image) is stands.snap);
}
  where
    of_snap : (map : PathMap) → ShowsSnapshot image (Some map) → (allows_snapshot tree.version ≡ true) × IsPathMap map
    of_snap map shows = (
      ap allows_snapshot stands.version ∙ first_true _ _ shows.0,
      shows_path_map (snapshot_of image) map shows.1,
    )
