-- The walk of the plain tree is that of the image for which it stands.
use Rattle.std.proofs.Common.{◌≡◌, ◌≢◌, ℕ, zero, suc, ◌≤◌, List, [], ◌∷◌, ◌++◌, Bool, true, false, not, ◌==◌, Option, None, Some, option_and_then, refl, sym, ◌∙◌, ap, arith}
use Rattle.std.specs.Prelude.{if◌then◌else◌, is_none}
use Rattle.std.specs.Option.{option_map}
use Rattle.std.specs.FinMap.{get}
use Rattle.std.proofs.lemmas.Bool.{eqb-true, eqb-false}
use Rattle.bp_layout.specs.Words.{Image}
use Rattle.bp_layout.specs.Inode.{kind_of}
use Rattle.bp_layout.specs.Directory.{lookup_in}
use Rattle.bp_layout.specs.Paths.{Attributes, Name, Path}
use Rattle.bp_layout.specs.Reached.{IsReached}
use Rattle.bp_layout.specs.Reached.IsReached.{root_directory}
use Rattle.bp_layout.specs.Lookup.{lookup, node_of}
use Rattle.bp_layout.specs.Paths.Node.{dir, file}
use Rattle.bp_layout.specs.WellFormed.{IsWellFormed}
use Rattle.bp_layout.proofs.View.{lookup_from-reached}
use Rattle.bp_layout.proofs.Paths.{ByLast, by_last, last_step, lookup_from-append}
use Rattle.bp_layout.proofs.Paths.ByLast.{none, more}
use Rattle.bp_plain.proofs.PathLaws.{first_one}
use Rattle.bp_plain.specs.PlainTree.{FileTree}
use Rattle.bp_plain.specs.Stands.{Stands}
use Rattle.bp_plain.specs.Calls.Refusal.{not_found, not_dir}
use Rattle.bp_plain.specs.Plain as plain
use Rattle.bp_plain.specs.Plain.{is_a_dir, is_dir_at, first, when, walk, walk_parent, parent_of}
use Rattle.bp_path.specs.Walk.{Walked, onward, walk_from, in_directory}
use Rattle.bp_path.specs.Walk.Walked.{found, missing, in_file}
use Rattle.bp_path.proofs.WalkLaws.{walk_is_lookup}
use Rattle.bp_volume.specs.Queries.{refusal_of_walk}

kind_test : (kind : ℕ) (attributes : Attributes) (content : List ℕ) → 1 ≤ kind → kind ≤ 2 → is_a_dir (Some (if kind == 1 then file attributes content else dir attributes)) ≡ (kind == 2)
kind_test kind attributes content low high = go (kind == 1) refl
  where
    go : (b : Bool) → (kind == 1) ≡ b → is_a_dir (Some (if kind == 1 then file attributes content else dir attributes)) ≡ (kind == 2)
    go true e = rw e (rw (eqb-true kind 1 e) refl)
    go false e =
        let other : kind ≢ 1 = eqb-false kind 1 e in
        let two : kind ≡ 2 = omega arith in
        rw two refl

module _ (image : Image) (wf : IsWellFormed image) where
  -- a path finds an inode, and no 0
  pub some_inode : (path : Path) (i : ℕ) → lookup image path ≡ Some i → i ≢ 0
  some_inode path i e is_zero = go (by_last path) e
    where
      go : {p : Path} → ByLast p → lookup image p ≡ Some i → ⊥
      go none at = let one : 1 ≡ i = cc in absurd (omega arith)
      go (more {path = p} before name) at = (last_step image wf p name i at).shows.entry.not_empty is_zero

  pub reached_at : (path : Path) (i : ℕ) → lookup image path ≡ Some i → IsReached image i
  reached_at path i e = lookup_from-reached image 1 i path root_directory e

  -- it is a file or a directory
  pub kind_at : (path : Path) (i : ℕ) → lookup image path ≡ Some i → (1 ≤ kind_of image i) × (kind_of image i ≤ 2)
  kind_at path zero e = absurd (some_inode path zero e refl)
  kind_at path (suc i) e = wf.kinds i (reached_at path (suc i) e)

module _ (image : Image) (tree : FileTree) (stands : Stands image tree) where
  -- what the tree has at a path
  pub node_at : (path : Path) (i : ℕ) → lookup image path ≡ Some i → get tree.now.nodes path ≡ Some (node_of image i)
  node_at path i e = stands.now.shows path ∙ ap (option_map (node_of image)) e

  pub dir_at : (path : Path) (i : ℕ) → lookup image path ≡ Some i → is_dir_at tree.now.nodes path ≡ (kind_of image i == 2)
  dir_at path i e =
      let kinds : (1 ≤ kind_of image i) × (kind_of image i ≤ 2) = kind_at image stands.now.well_formed path i e in
      ap is_a_dir (node_at path i e) ∙ kind_test (kind_of image i) _ _ kinds.0 kinds.1

  pub lookup-next : (here : Path) (i : ℕ) (name : Name) → lookup image here ≡ Some i → lookup image (here ++ name ∷ []) ≡ lookup_in image i name
  lookup-next here i name e = lookup_from-append image 1 here name ∙ ap (option_and_then (λ k. lookup_in image k name)) e

  pub get-next : (here : Path) (i : ℕ) (name : Name) → lookup image here ≡ Some i → get tree.now.nodes (here ++ name ∷ []) ≡ option_map (node_of image) (lookup_in image i name)
  get-next here i name e = stands.now.shows (here ++ name ∷ []) ∙ ap (option_map (node_of image)) (lookup-next here i name e)

  -- the refusal of a walk that goes on from a path
  walk_from-image : (here : Path) (i : ℕ) (path : Path) → lookup image here ≡ Some i → plain.first_refusal_from tree.now.nodes here path ≡ refusal_of_walk (walk_from image i path)
  walk_from-image here i [] e = refl
  walk_from-image here i (name ∷ path) e =
      in_dir (λ j at. walk_from-image (here ++ name ∷ []) j path (lookup-next here i name e ∙ at)) (kind_of image i == 2) refl
    where
      step : ((j : ℕ) → lookup_in image i name ≡ Some j → plain.first_refusal_from tree.now.nodes (here ++ name ∷ []) path ≡ refusal_of_walk (walk_from image j path)) →
          (j : Option ℕ) → lookup_in image i name ≡ j →
          first (when (is_none (option_map (node_of image) j)) not_found ∷ plain.first_refusal_from tree.now.nodes (here ++ name ∷ []) path ∷ []) ≡ refusal_of_walk (onward (λ j. walk_from image j path) j)
      step rest None at = refl
      step rest (Some j) at = first_one (plain.first_refusal_from tree.now.nodes (here ++ name ∷ []) path) ∙ rest j at

      in_dir : ((j : ℕ) → lookup_in image i name ≡ Some j → plain.first_refusal_from tree.now.nodes (here ++ name ∷ []) path ≡ refusal_of_walk (walk_from image j path)) →
          (b : Bool) → (kind_of image i == 2) ≡ b → plain.first_refusal_from tree.now.nodes here (name ∷ path) ≡ refusal_of_walk (walk_from image i (name ∷ path))
      in_dir rest true at =
          let below = plain.first_refusal_from tree.now.nodes (here ++ name ∷ []) path in
          ap (λ b. first (when (not b) not_dir ∷ when (is_none (get tree.now.nodes (here ++ name ∷ []))) not_found ∷ below ∷ [])) (dir_at here i e ∙ at)
          ∙ ap (λ o. first (when (is_none o) not_found ∷ below ∷ [])) (get-next here i name e)
          ∙ step rest (lookup_in image i name) refl
          ∙ sym (ap (λ b. refusal_of_walk (if b then onward (λ j. walk_from image j path) (lookup_in image i name) else in_file)) at)
      in_dir rest false at = rw (dir_at here i e, at) refl

  -- the walk of the plain tree ends as that of the image does
  pub walk-image : (path : Path) → walk tree.now.nodes path ≡ refusal_of_walk (walk_from image 1 path)
  walk-image path = walk_from-image [] 1 path refl

  -- the walk to what a path finds is not refused
  pub walk-found : (path : Path) (i : ℕ) → lookup image path ≡ Some i → walk tree.now.nodes path ≡ None
  walk-found path i e = walk-image path ∙ ap refusal_of_walk ((walk_is_lookup image 1 i path).1 e)

  -- the walk to the parent of a new name
  pub walk_parent-image : (path parent : Path) → parent_of path ≡ parent → walk_parent tree.now.nodes path ≡ refusal_of_walk (in_directory image (walk_from image 1 parent))
  walk_parent-image path parent is =
      ap (λ p. first (walk tree.now.nodes p ∷ when (not (is_dir_at tree.now.nodes p)) not_dir ∷ [])) is
      ∙ ap (λ o. first (o ∷ when (not (is_dir_at tree.now.nodes parent)) not_dir ∷ [])) (walk-image parent)
      ∙ go (walk_from image 1 parent) refl
    where
      go : (walked : Walked) → walk_from image 1 parent ≡ walked → first (refusal_of_walk walked ∷ when (not (is_dir_at tree.now.nodes parent)) not_dir ∷ []) ≡ refusal_of_walk (in_directory image walked)
      go (found i) at = ap (λ b. first (when (not b) not_dir ∷ [])) (dir_at parent i ((walk_is_lookup image 1 i parent).0 at)) ∙ kinds (kind_of image i == 2)
        where
          kinds : (b : Bool) → first (when (not b) not_dir ∷ []) ≡ refusal_of_walk (if b then found i else in_file)
          kinds true = refl
          kinds false = refl
      go missing at = refl
      go in_file at = refl
