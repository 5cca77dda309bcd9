-- Steps of a call that makes an empty file or directory.
use Rattle.std.proofs.Common.{◌≡◌, ◌≢◌, ℕ, ◌≤◌, ◌==◌, List, [], ◌∷◌, ◌++◌, false, refl, sym, ◌∙◌, ap, ap₂, subst, arith, Option, None, Some, option_and_then}
use Rattle.std.specs.Prelude.{not, is_some, if◌then◌else◌, unwrap_or}
use Rattle.std.specs.Option.{option_map}
use Rattle.std.specs.FinMap.{get}
use Rattle.bp_calls.specs.OnTrees.{GainsName}
use Rattle.bp_changes.specs.Entrant.{entrant_of}
use Rattle.bp_layout.specs.Directory.{ino_at, lookup_in, slot_named}
use Rattle.bp_layout.specs.Paths.{Name, Path}
use Rattle.bp_layout.specs.Free.{IsLeastFree}
use Rattle.bp_layout.specs.Free.IsLeastFree.{some as a_least, none as no_least}
use Rattle.bp_layout.specs.Inode.{kind_of}
use Rattle.bp_layout.specs.Lookup.{lookup, node_of}
use Rattle.bp_layout.specs.Need.{Change}
use Rattle.bp_layout.specs.Need.Change.{enters}
use Rattle.bp_layout.specs.Words.{Image}
use Rattle.bp_layout.proofs.Paths.{lookup_from-append}
use Rattle.bp_layout.specs.declared.fields.Kind.{Kind}
use Rattle.bp_layout.specs.declared.fields.Kind.TheVariants.{File, Dir}
use Rattle.bp_plain.specs.PlainTree.{FileTree}
use Rattle.bp_plain.specs.Stands.{Shows, Stands}
use Rattle.bp_plain.specs.Calls.{Refusal}
use Rattle.bp_plain.specs.Calls.Call.{create, mkdir}
use Rattle.bp_plain.specs.Calls.Refusal.{exists, not_dir}
use Rattle.bp_plain.specs.Plain.{walk_parent, on_parsed, on_path, first, when, is_dir_at, is_root_path, parent_of, path_named, tree_after, with_dir, with_file}
use Rattle.bp_volume.specs.Carried.{making}
use Rattle.bp_fs.specs.Step.{IsChange, FindsNew, last_of}
use Rattle.bp_fs.specs.Step.IsChange.{by_create, by_mkdir}
use Rattle.bp_volume.specs.Queries.{Refuses, StopsAtNew, refusal_of_new}
use Rattle.bp_volume.proofs.ChangeLaws.{MakesChange}
use Rattle.bp_volume.proofs.WalkLaws.{dir_at, get-next, walk-found}

pub create_stopped : (tree : FileTree) (path : Path) (why : Refusal) → path ≢ [] → walk_parent tree.now.nodes path ≡ Some why → refusal_of_new tree path ≡ Some why
create_stopped tree [] why below stops = absurd (below refl)
create_stopped tree (name ∷ path) why below stops = rw stops refl

-- a path below the root directory by its parent and its last name
pub by_parent : (path : Path) → path ≢ [] → path ≡ parent_of path ++ last_of path ∷ []
by_parent [] below = absurd (below refl)
by_parent (name ∷ []) below = refl
by_parent (name ∷ second ∷ rest) below = ap (λ p. name ∷ p) (by_parent (second ∷ rest) (λ none. cc))

-- ---- a name in a directory

pub not_root : (path : Path) → path ≢ [] → is_root_path path ≡ false
not_root [] below = absurd (below refl)
not_root (name ∷ path) below = refl

module _ (image : Image) (path : Path) (below : path ≢ []) (i : ℕ) (parent : lookup image (parent_of path) ≡ Some i) (directory : kind_of image i ≡ 2) (name : Name) (last : last_of path ≡ name) where
  pub path_is : path ≡ parent_of path ++ name ∷ []
  path_is = by_parent path below ∙ ap (λ n. parent_of path ++ n ∷ []) last

  -- the inode that the name leads to
  pub lookup-name : lookup image path ≡ option_map (ino_at image i) (slot_named image i name)
  lookup-name =
      ap (lookup image) path_is
      ∙ lookup_from-append image 1 (parent_of path) name
      ∙ ap (option_and_then (λ k. lookup_in image k name)) parent
      ∙ ap (λ k. if k then option_map (ino_at image i) (slot_named image i name) else None) (ap (λ k. k == 2) directory)

  module _ (tree : FileTree) (stands : Stands image tree) where
    pub get-name : get tree.now.nodes path ≡ option_map (node_of image) (option_map (ino_at image i) (slot_named image i name))
    get-name =
        ap (get tree.now.nodes) path_is
        ∙ get-next image tree stands (parent_of path) i name parent
        ∙ ap (λ k. option_map (node_of image) (if k then option_map (ino_at image i) (slot_named image i name) else None)) (ap (λ k. k == 2) directory)

    pub parent_goes : walk_parent tree.now.nodes path ≡ None
    parent_goes =
        ap (λ o. first (o ∷ when (not (is_dir_at tree.now.nodes (parent_of path))) not_dir ∷ [])) (walk-found image tree stands (parent_of path) i parent)
        ∙ ap (λ b. first (when (not b) not_dir ∷ [])) (dir_at image tree stands (parent_of path) i parent ∙ ap (λ k. k == 2) directory)

    refusals-name : refusal_of_new tree path ≡ first (when (is_some (get tree.now.nodes path)) exists ∷ [])
    refusals-name =
        ap (λ b. first (when b exists ∷ walk_parent tree.now.nodes path ∷ when (is_some (get tree.now.nodes path)) exists ∷ [])) (not_root path below)
        ∙ ap (λ o. first (o ∷ when (is_some (get tree.now.nodes path)) exists ∷ [])) parent_goes

    pub create_there : (slot : ℕ) → slot_named image i name ≡ Some slot → refusal_of_new tree path ≡ Some exists
    create_there slot there = refusals-name ∙ ap (λ o. first (when (is_some o) exists ∷ [])) (get-name ∙ ap (λ o. option_map (node_of image) (option_map (ino_at image i) o)) there)

    pub create_goes : slot_named image i name ≡ None → refusal_of_new tree path ≡ None
    create_goes missing = refusals-name ∙ ap (λ o. first (when (is_some o) exists ∷ [])) (get-name ∙ ap (λ o. option_map (node_of image) (option_map (ino_at image i) o)) missing)

-- ---- the call

pub new_stops : (image : Image) (text : List ℕ) (kind : Kind) (why : Refusal) → StopsAtNew image text why → Refuses image (making kind text) why
new_stops image text File why stops = stops
new_stops image text Dir why stops = stops

-- the least free inode is reported in one way
least_once : (image : Image) (one other : Option ℕ) → IsLeastFree image one → IsLeastFree image other → one ≡ other
least_once image (Some i) (Some j) (a_least free least) (a_least other most) = let low : i ≤ j = least j other in let high : j ≤ i = most i free in ap Some (omega (arith, low, high))
least_once image (Some i) None (a_least free least) (no_least nobody) = absurd (nobody i free)
least_once image None (Some j) (no_least nobody) (a_least other most) = absurd (nobody j other)
least_once image None None (no_least nobody) (no_least also) = refl

module _ (image : Image) (text : List ℕ) (i : ℕ) (name : Name) (names : FindsNew image text i name) where
  pub goes : (tree : FileTree) → Stands image tree → on_path text (refusal_of_new tree) ≡ None
  goes tree stands =
      ap (λ o. on_parsed o (refusal_of_new tree)) names.parsed
      ∙ create_goes image names.path names.new.below i names.new.parent names.new.directory name names.new.last tree stands names.new.missing

  -- the text spells no other path, so its parent is no other directory
  pub same_directory : (k : ℕ) (other : Name) → FindsNew image text k other → k ≡ i
  same_directory k other new =
      let same : Some new.path ≡ Some names.path = sym new.parsed ∙ names.parsed in
      let paths : new.path ≡ names.path = cc in
      let found : Some k ≡ Some i = sym new.new.parent ∙ ap (λ p. lookup image (parent_of p)) paths ∙ names.new.parent in
      cc

  module _ (free : Option ℕ) (least : IsLeastFree image free) where
    one_change : (k : ℕ) (other : Name) (reported : Option ℕ) → FindsNew image text k other → IsLeastFree image reported → enters k (entrant_of reported) ≡ enters i (entrant_of free)
    one_change k other reported new is = ap₂ (λ d o. enters d (entrant_of o)) (same_directory k other new) (least_once image reported free is least)

    alike_file : (change : Change) → IsChange image (create text) change → change ≡ enters i (entrant_of free)
    alike_file _ (by_create {name = other} {i = k} {free = reported} new is) = one_change k other reported new is

    alike_dir : (change : Change) → IsChange image (mkdir text) change → change ≡ enters i (entrant_of free)
    alike_dir _ (by_mkdir {name = other} {i = k} {free = reported} new is) = one_change k other reported new is

    -- the name is what the call makes
    pub making_makes : (kind : Kind) → MakesChange image (making kind text) (enters i (entrant_of free))
    making_makes File = record { is = by_create names least; alike = alike_file; allowed = goes; changing = λ tree stands. refl; says = λ tree. refl; stays = λ tree. refl }
    making_makes Dir = record { is = by_mkdir names least; alike = alike_dir; allowed = goes; changing = λ tree stands. refl; says = λ tree. refl; stays = λ tree. refl }

  pub text_path : path_named text ≡ parent_of names.path ++ name ∷ []
  text_path =
      ap (λ (o : Option Path). unwrap_or o []) names.parsed ∙ path_is image names.path names.new.below i names.new.parent names.new.directory name names.new.last

  -- a directory that gains the name shows the tree of the call
  pub making_shows : (kind : Kind) (after : Image) → GainsName i name kind image after → (tree : FileTree) → Stands image tree → Shows after (tree_after tree (making kind text)).now
  making_shows File after gains tree stands = subst (λ p. Shows after (with_file tree.now p)) (sym text_path) (gains tree.now (parent_of names.path) stands.now names.new.parent)
  making_shows Dir after gains tree stands = subst (λ p. Shows after (with_dir tree.now p)) (sym text_path) (gains tree.now (parent_of names.path) stands.now names.new.parent)
