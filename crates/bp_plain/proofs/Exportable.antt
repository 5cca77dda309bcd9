-- The tree of an image can be exported, where its paths can be spelled.
use Rattle.std.proofs.Common.{◌≡◌, ℕ, zero, suc, ◌+◌, ◌*◌, ◌%◌, ◌^◌, ◌<◌, ◌≤◌, ◌==◌, Bool, true, false, List, [], ◌∷◌, ◌++◌, length, map, nat_lt, slice_index, Option, None, Some, option_map, if◌then◌else◌, refl, sym, ◌∙◌, ap, subst, arith, append_assoc}
use Rattle.std.specs.List.{list_all, range_with_len}
use Rattle.std.specs.FinMap.{get}
use Rattle.std.proofs.lemmas.Bool.{lt-ltb, ltb-false, ltb-true}
use Rattle.std.proofs.lemmas.List.FromFn.{length-map-range_with_len}
use Rattle.bp_limits.specs.Limits.{attribute_field, attributes, greatest_height}
use Rattle.bp_limits.specs.CallLimits.{allows_attributes, greatest_size}
use Rattle.bp_limits.specs.declared.version.Version.{Version}
use Rattle.bp_limits.specs.declared.version.Version.TheVariants.{One, Two, Three}
use Rattle.bp_layout.specs.Paths.{Attributes, Name, Path, Node, no_attributes}
use Rattle.bp_layout.specs.Formatted.{version_of}
use Rattle.bp_layout.specs.Inode.{attribute, attributes_of, inode_word, kind_of, root_of, size_of}
use Rattle.bp_layout.specs.Lookup.{lookup, node_of, shown}
use Rattle.bp_layout.specs.Paths.Node.{dir, file}
use Rattle.bp_layout.specs.Reached.{IsReached}
use Rattle.bp_layout.specs.Reached.IsReached.{root_directory}
use Rattle.bp_layout.specs.Tree.{byte, content}
use Rattle.bp_layout.specs.WellFormed.{IsWellFormed}
use Rattle.bp_layout.specs.Words.{Image, height_of}
use Rattle.bp_layout.proofs.View.{lookup_from-reached}
use Rattle.bp_plain.specs.Export.{HasNoAttributes, HasShortPaths, IsExportable, IsOfBytes, are_bytes}
use Rattle.bp_plain.specs.Plain.{attributes_at, attributes_in}
use Rattle.bp_plain.specs.PlainTree.{FileTree, PathMap}
use Rattle.bp_plain.specs.Stands.{Shows, Stands}
use Rattle.bp_plain.proofs.FileTrees.{shows_path_map, stands_file_tree, step_at}
use Rattle.bp_plain.proofs.PathTexts.{both_true}
use Rattle.bp_plain.proofs.PathWays.{HasWay, map_has_way}

-- ---- bytes

bytes_all : (f : ℕ → ℕ) → ((x : ℕ) → f x < 256) → (xs : List ℕ) → are_bytes (map f xs) ≡ true
bytes_all f low [] = refl
bytes_all f low (x ∷ xs) = both_true _ _ (lt-ltb (f x) 256 (low x)) (bytes_all f low xs)

byte_low : (image : Image) (root offset : ℕ) → byte image root offset < 256
byte_low image root offset = omega arith

-- ---- the sizes of files

covers : (version : Version) (h : ℕ) → h ≤ greatest_height version → 8 * 512 ^ suc h ≤ greatest_size version
covers One zero low = omega arith
covers One (suc zero) low = omega arith
covers One (suc (suc zero)) low = omega arith
covers One (suc (suc (suc zero))) low = omega arith
covers One (suc (suc (suc (suc h)))) low = absurd (omega (arith, low))
covers Two zero low = omega arith
covers Two (suc zero) low = omega arith
covers Two (suc (suc zero)) low = omega arith
covers Two (suc (suc (suc zero))) low = omega arith
covers Two (suc (suc (suc (suc zero)))) low = omega arith
covers Two (suc (suc (suc (suc (suc zero))))) low = omega arith
covers Two (suc (suc (suc (suc (suc (suc h)))))) low = absurd (omega (arith, low))
covers Three zero low = omega arith
covers Three (suc zero) low = omega arith
covers Three (suc (suc zero)) low = omega arith
covers Three (suc (suc (suc zero))) low = omega arith
covers Three (suc (suc (suc (suc zero)))) low = omega arith
covers Three (suc (suc (suc (suc (suc zero))))) low = omega arith
covers Three (suc (suc (suc (suc (suc (suc h)))))) low = absurd (omega (arith, low))

module _ (image : Image) (stands : (tree_map : PathMap) × Shows image tree_map) where
  abbrev now : PathMap
  now = stands.0

  wf : IsWellFormed image
  wf = stands.1.well_formed

  size_fits : (i : ℕ) → IsReached image i → size_of image i ≤ greatest_size (version_of image)
  size_fits i reached = go (nat_lt 0 (size_of image i)) refl
    where
      go : (b : Bool) → nat_lt 0 (size_of image i) ≡ b → size_of image i ≤ greatest_size (version_of image)
      go true at =
          let some : 0 < size_of image i = ltb-true 0 (size_of image i) at in
          omega (arith, (wf.sound i reached).fits, covers (version_of image) (height_of (root_of image i)) (wf.low i reached some))
      go false at = omega (arith, ltb-false 0 (size_of image i) at)

  -- ---- the bytes of a file

  module _ (path : Path) (values : Attributes) (found : List ℕ) (is : shown image path ≡ Some (file values found)) where
    file_is : (n : ℕ) × IsReached image n × (found ≡ content image (root_of image n) (size_of image n))
    file_is = go (lookup image path) refl
      where
        at_inode : (n : ℕ) → (b : Bool) → (kind_of image n == 1) ≡ b → node_of image n ≡ file values found → found ≡ content image (root_of image n) (size_of image n)
        at_inode n true at same = let here : file (attributes_of image n) (content image (root_of image n) (size_of image n)) ≡ file values found = rw at at same in cc
        at_inode n false at same = let other : dir (attributes_of image n) ≡ file values found = rw at at same in absurd (cc)

        go : (o : Option ℕ) → lookup image path ≡ o → (n : ℕ) × IsReached image n × (found ≡ content image (root_of image n) (size_of image n))
        go None at = let none : ◌≡◌ {A = Option Node} None (Some (file values found)) = rw at at is in absurd (cc)
        go (Some n) at =
            let same : ◌≡◌ {A = Option Node} (Some (node_of image n)) (Some (file values found)) = rw at at is in
            let here : node_of image n ≡ file values found = cc in
            (n, lookup_from-reached image 1 n path root_directory at, at_inode n (kind_of image n == 1) refl here)

    file_fits : length found ≤ greatest_size (version_of image)
    file_fits =
        omega (arith, ap length file_is.2, length-map-range_with_len (byte image (root_of image file_is.0)) 0 (size_of image file_is.0), size_fits file_is.0 file_is.1)

    file_of_bytes : are_bytes found ≡ true
    file_of_bytes = ap are_bytes file_is.2 ∙ bytes_all (byte image (root_of image file_is.0)) (λ x. byte_low image (root_of image file_is.0) x) (range_with_len 0 (size_of image file_is.0))

  -- ---- the names of a path

  names_of_bytes : (path : Path) (node : Node) → get now.nodes path ≡ Some node → list_all are_bytes path ≡ true
  names_of_bytes path node at = go [] path refl
    where
      way : HasWay now.nodes path
      way = map_has_way now (shows_path_map image now stands.1) path node at

      last : (prefix : Path) (name : Name) (other : Node) → get now.nodes (prefix ++ name ∷ []) ≡ Some other → are_bytes name ≡ true
      last prefix name other there =
          let step = step_at image now stands.1 prefix name other (sym (stands.1.shows (prefix ++ name ∷ [])) ∙ there) in
          subst (λ n. are_bytes n ≡ true) step.1.shows.spelled (bytes_all _ (λ x. byte_low image (root_of image step.1.parent) _) _)

      here : (prefix : Path) (name : Name) (rest : Path) → path ≡ prefix ++ name ∷ rest → are_bytes name ≡ true
      here prefix name [] cut = last prefix name node (ap (get now.nodes) (sym cut) ∙ at)
      here prefix name (other ∷ rest) cut =
          let above = way (prefix ++ name ∷ []) other rest (cut ∙ sym (append_assoc prefix (name ∷ []) (other ∷ rest))) in
          last prefix name (dir above.attributes) above.is

      go : (prefix rest : Path) → path ≡ prefix ++ rest → list_all are_bytes rest ≡ true
      go prefix [] cut = refl
      go prefix (name ∷ rest) cut = both_true _ _ (here prefix name rest cut) (go (prefix ++ name ∷ []) rest (cut ∙ sym (append_assoc prefix (name ∷ []) rest)))

-- ---- attributes

low_in : (a b c k : ℕ) → a < 2 ^ 64 → b < 2 ^ 64 → c < 2 ^ 64 → slice_index (a ∷ b ∷ c ∷ []) k < 2 ^ 64
low_in a b c zero at_a at_b at_c = at_a
low_in a b c (suc zero) at_a at_b at_c = at_b
low_in a b c (suc (suc zero)) at_a at_b at_c = at_c
low_in a b c (suc (suc (suc k))) at_a at_b at_c = omega arith

module _ (image : Image) where
  attribute_low : (i k : ℕ) → attribute image i k < 2 ^ 64
  attribute_low zero k = omega arith
  attribute_low (suc i) k = go (allows_attributes (version_of image)) (inode_word image (suc i) (attribute_field + k))
    where
      go : (b : Bool) (w : ℕ) → (if b then w % 2 ^ 64 else 0) < 2 ^ 64
      go true w = omega arith
      go false w = omega arith

  -- what is said of the attributes of each inode, and of none, is said of those at each path
  of_each : (P : Attributes → Type 0) → P no_attributes → ((i : ℕ) → P (attributes_of image i)) → (map : PathMap) → Shows image map → (path : Path) → P (attributes_at map.nodes path)
  of_each P none each map shows path = subst (λ found. P (attributes_in found)) (sym (shows.shows path)) (found_has (lookup image path))
    where
      node_has : (i : ℕ) → attributes_in (Some (node_of image i)) ≡ attributes_of image i
      node_has i = go (kind_of image i == 1)
        where
          go : (b : Bool) → attributes_in (Some (if b then file (attributes_of image i) (content image (root_of image i) (size_of image i)) else dir (attributes_of image i))) ≡ attributes_of image i
          go true = refl
          go false = refl

      found_has : (found : Option ℕ) → P (attributes_in (option_map (node_of image) found))
      found_has None = none
      found_has (Some i) = subst P (sym (node_has i)) (each i)

  inode_has_none : allows_attributes (version_of image) ≡ false → (i : ℕ) → attributes_of image i ≡ no_attributes
  inode_has_none early zero = refl
  inode_has_none early (suc i) = rw early refl

  shows_many : (map : PathMap) → Shows image map → (path : Path) → length (attributes_at map.nodes path) ≡ attributes
  shows_many = of_each (λ values. length values ≡ attributes) refl (λ i. refl)

  shows_none : allows_attributes (version_of image) ≡ false → (map : PathMap) → Shows image map → HasNoAttributes map
  shows_none early = of_each (λ values. values ≡ no_attributes) refl (inode_has_none early)

  shows_low : (k : ℕ) (map : PathMap) → Shows image map → (path : Path) → slice_index (attributes_at map.nodes path) k < 2 ^ 64
  shows_low k = of_each (λ values. slice_index values k < 2 ^ 64) (low_in 0 0 0 k (omega arith) (omega arith) (omega arith))
      (λ i. low_in (attribute image i 0) (attribute image i 1) (attribute image i 2) k (attribute_low i 0) (attribute_low i 1) (attribute_low i 2))

pub image_exportable : (image : Image) (tree : FileTree) → Stands image tree → HasShortPaths tree → IsExportable tree × IsOfBytes tree
image_exportable image tree stands short = (
  record {
    is_tree = stands_file_tree image tree stands;
    spelled = short;
    sized = λ path values bytes is. subst (λ version. length bytes ≤ greatest_size version) (sym stands.version) (file_fits image shows path values bytes (sym (stands.now.shows path) ∙ is));
    attributed = shows_many image tree.now stands.now;
    early = λ early. shows_none image (ap allows_attributes (sym stands.version) ∙ early) tree.now stands.now;
  },
  record {
    names = λ path node is. names_of_bytes image shows path node is;
    contents = λ path values bytes is. file_of_bytes image shows path values bytes (sym (stands.now.shows path) ∙ is);
    attributes = λ path k. shows_low image k tree.now stands.now path;
  },
)
  where
    shows : (tree_map : PathMap) × Shows image tree_map
    shows = (tree.now, stands.now)
