-- Why a rename is refused.
use Rattle.std.proofs.Common.{◌≡◌, ◌≢◌, ◌⊎◌, ◌≤◌, ◌==◌, ◌&&◌, List, [], ◌∷◌, Bool, true, false, ℕ, not, refl, sym, ◌∙◌, ap, ap₂, arith, inl, inr, Option, None, Some, option_and_then, true≢false}
use Rattle.std.specs.Prelude.{if◌then◌else◌, is_some, unwrap_or}
use Rattle.std.specs.FinMap.{get}
use Rattle.std.specs.Option.{option_map}
use Rattle.std.proofs.lemmas.Bool.{cases_eq, eq-eqb, ne_eqb, eqb-true, eqb-false}
use Rattle.bp_calls.proofs.ReadingLaws.{length-seen}
use Rattle.bp_read.specs.Names.{name_count}
use Rattle.bp_layout.specs.Paths.{same_path, Path, parse}
use Rattle.bp_layout.specs.Directory.{ino_at, slot_named}
use Rattle.bp_layout.specs.Inode.{kind_of, root_of, size_of}
use Rattle.bp_layout.specs.Lookup.{are_one, file_at, find_one, if_file, lookup, node_of}
use Rattle.bp_layout.specs.WellFormed.{IsWellFormed}
use Rattle.bp_layout.specs.Words.{Image}
use Rattle.bp_layout.proofs.Below.{same_path-is, same_path-self}
use Rattle.bp_layout.proofs.Paths.{path_once}
use Rattle.bp_path.specs.declared.steps.FoundEntry.{FoundEntry}
use Rattle.bp_plain.proofs.PathLaws.{first_one}
use Rattle.bp_plain.specs.Calls.{Refusal}
use Rattle.bp_plain.specs.Calls.Answer.{done}
use Rattle.bp_plain.specs.Calls.Call.{rename}
use Rattle.bp_plain.specs.Calls.Refusal.{bad_path, into_self, is_dir, is_root, not_dir, not_empty}
use Rattle.bp_plain.specs.Plain.{changes, first, is_a_dir, is_dir_at, is_empty_dir, move_refusal, moves_below, moves_dir_onto_file, moves_file_onto_dir, moves_onto_names, on_parsed, on_path, parent_of, path_named, refusal, walk, walk_parent, when}
use Rattle.bp_plain.specs.PlainTree.{FileTree, is_one}
use Rattle.bp_plain.specs.Stands.{Stands}
use Rattle.bp_fs.specs.FileCall.{has_changed}
use Rattle.bp_volume.specs.Renaming.{Allows, AreRenameEnds, FindsEnds, IsTarget, MayMove, are_same, is_inode}
use Rattle.bp_fs.specs.Step.{FindsEntry, IsEntryOn, StepFor, last_of}
use Rattle.bp_volume.specs.Queries.{Refuses, RefusesEntry, RefusesParent, RefusesRename, Answers}
use Rattle.bp_volume.specs.declared.rename.Ends.{Ends}
use Rattle.bp_volume.specs.declared.lookup.Target.{Target}
use Rattle.bp_volume.proofs.CreateLaws.{get-name, lookup-name, not_root, parent_goes}
use Rattle.bp_volume.proofs.EntryLaws.{length-entries}
use Rattle.bp_volume.proofs.StepLaws.{answer_steps}
use Rattle.bp_volume.proofs.WalkLaws.{dir_at, kind_at, node_at, walk-found}

pub other_path : (p q : Path) → p ≢ q → same_path p q ≡ false
other_path p q other = go (same_path p q) refl
  where
    go : (b : Bool) → same_path p q ≡ b → b ≡ false
    go true e = absurd (other (same_path-is p q e))
    go false e = refl

-- ---- the kinds of both ends: whether the source and the target are directories, whether the target is there, is the source itself, and is empty

abbrev by_kinds : Bool → Bool → Bool → Bool → Bool → Option Refusal
by_kinds source target there same empty =
    first (when (not source && target) is_dir ∷ when (source && there && not target) not_dir ∷ when (not same && source && target && not empty) not_empty ∷ [])

kinds-new : (source same empty : Bool) → by_kinds source false false same empty ≡ None
kinds-new true true empty = refl
kinds-new true false empty = refl
kinds-new false true empty = refl
kinds-new false false empty = refl

kinds-files : (same empty : Bool) → by_kinds false false true same empty ≡ None
kinds-files true empty = refl
kinds-files false empty = refl

kinds-empty : (same : Bool) → by_kinds true true true same true ≡ None
kinds-empty true = refl
kinds-empty false = refl

kinds-same : (source empty : Bool) → by_kinds source source true true empty ≡ None
kinds-same true empty = refl
kinds-same false empty = refl

-- ---- refusals in their order

module _ (image : Image) (p q : Path) where
  abbrev at_kinds : FileTree → List (Option Refusal)
  at_kinds tree =
      when (moves_file_onto_dir tree.now.nodes p q) is_dir ∷ when (moves_dir_onto_file tree.now.nodes p q) not_dir ∷ when (moves_onto_names tree.now.nodes p q) not_empty ∷ []

  abbrev following : FileTree → List (Option Refusal)
  following tree = when (moves_below p q) into_self ∷ at_kinds tree

  module _ (below : p ≢ []) (target_below : q ≢ []) where
    past_roots : (tree : FileTree) → move_refusal tree.now.nodes p q ≡ first (walk tree.now.nodes p ∷ walk_parent tree.now.nodes q ∷ following tree)
    past_roots tree = ap₂ (λ a b. first (when a is_root ∷ when b is_root ∷ walk tree.now.nodes p ∷ walk_parent tree.now.nodes q ∷ following tree)) (not_root p below) (not_root q target_below)

    pub source_stops : (why : Refusal) → RefusesEntry image p is_root why → RefusesRename image p q why
    source_stops why stops tree stands =
        let walked : walk tree.now.nodes p ≡ Some why = sym (first_one (walk tree.now.nodes p)) ∙ sym (ap (λ b. first (when b is_root ∷ walk tree.now.nodes p ∷ [])) (not_root p below)) ∙ stops tree stands in
        past_roots tree ∙ ap (λ o. first (o ∷ walk_parent tree.now.nodes q ∷ following tree)) walked

    module _ (i s x : ℕ) (source : IsEntryOn image p i s x) where
      pub target_stops : (why : Refusal) → RefusesParent image q why → RefusesRename image p q why
      target_stops why stops tree stands =
          past_roots tree ∙ ap₂ (λ a b. first (a ∷ b ∷ following tree)) (walk-found image tree stands p x source.inode) (stops tree stands)

      module _ (target : Target) (is : IsTarget image q target) where
        pub past_walks : (tree : FileTree) → Stands image tree → move_refusal tree.now.nodes p q ≡ first (following tree)
        past_walks tree stands =
            past_roots tree
            ∙ ap₂ (λ a b. first (a ∷ b ∷ following tree)) (walk-found image tree stands p x source.inode)
            (parent_goes image q target_below target.dir is.parent is.directory target.name.now is.last tree stands)

        pub into_itself : true ≡ moves_below p q → RefusesRename image p q into_self
        into_itself inside tree stands = past_walks tree stands ∙ ap (λ b. first (when b into_self ∷ at_kinds tree)) (sym inside)

-- ---- ends that are found

-- the paths are two, and not two of one file
abbrev are_apart : FileTree → Path → Path → Bool
are_apart tree p q = not (same_path p q) && not (is_one tree.now.one p q)

-- the file that a path finds
file_found : (image : Image) (path : Path) (i : ℕ) → lookup image path ≡ Some i → kind_of image i ≡ 1 → file_at image path ≡ Some i
file_found image path i at kind = ap (option_and_then (if_file image)) at ∙ ap (λ k. if k == 1 then Some i else None) kind

module _ (image : Image) (p q : Path) (ends : Ends) (are : AreRenameEnds image p q ends) where
  past_all : (tree : FileTree) → Stands image tree → move_refusal tree.now.nodes p q ≡ by_kinds (is_dir_at tree.now.nodes p) (is_dir_at tree.now.nodes q) (is_some (get tree.now.nodes q)) (same_path p q) (is_empty_dir tree.now.nodes q)
  past_all tree stands =
      past_walks image p q are.source.below are.target.below ends.source.dir ends.source.slot ends.source.ino are.source ends.target are.target tree stands
      ∙ ap (λ b. first (when b into_self ∷ at_kinds image p q tree)) are.outside

  source_kind : (tree : FileTree) → Stands image tree → (kind : ℕ) → kind_of image ends.source.ino ≡ kind → is_dir_at tree.now.nodes p ≡ (kind == 2)
  source_kind tree stands kind is = dir_at image tree stands p ends.source.ino are.source.inode ∙ ap (λ k. k == 2) is

  -- nothing has the new name
  pub new_goes : ends.target.there ≡ None → (tree : FileTree) → Stands image tree → move_refusal tree.now.nodes p q ≡ None
  new_goes none tree stands =
      let missing : get tree.now.nodes q ≡ None =
      get-name image q are.target.below ends.target.dir are.target.parent are.target.directory ends.target.name.now are.target.last tree stands
      ∙ ap (λ o. option_map (node_of image) (option_map (ino_at image ends.target.dir) o)) (are.target.new none) in
      past_all tree stands
      ∙ ap (λ o. by_kinds (is_dir_at tree.now.nodes p) (is_a_dir o) (is_some o) (same_path p q) (is_empty_dir tree.now.nodes q)) missing
      ∙ kinds-new (is_dir_at tree.now.nodes p) (same_path p q) (is_empty_dir tree.now.nodes q)

  module _ (there : FoundEntry) (at : ends.target.there ≡ Some there) where
    has : IsEntryOn image q ends.target.dir there.slot there.ino
    has = are.target.there there at

    target_kind : (tree : FileTree) → Stands image tree → (kind : ℕ) → kind_of image there.ino ≡ kind → is_dir_at tree.now.nodes q ≡ (kind == 2)
    target_kind tree stands kind is = dir_at image tree stands q there.ino has.inode ∙ ap (λ k. k == 2) is

    by_both : (tree : FileTree) → Stands image tree → (kind target_is : ℕ) → kind_of image ends.source.ino ≡ kind → kind_of image there.ino ≡ target_is →
        move_refusal tree.now.nodes p q ≡ by_kinds (kind == 2) (target_is == 2) true (same_path p q) (is_empty_dir tree.now.nodes q)
    by_both tree stands kind target_is is target_has =
        past_all tree stands
        ∙ ap₂ (λ a b. by_kinds a b (is_some (get tree.now.nodes q)) (same_path p q) (is_empty_dir tree.now.nodes q)) (source_kind tree stands kind is) (target_kind tree stands target_is target_has)
        ∙ ap (λ o. by_kinds (kind == 2) (target_is == 2) (is_some o) (same_path p q) (is_empty_dir tree.now.nodes q)) (node_at image tree stands q there.ino has.inode)

    pub files_go : kind_of image ends.source.ino ≡ 1 → kind_of image there.ino ≡ 1 → (tree : FileTree) → Stands image tree → move_refusal tree.now.nodes p q ≡ None
    files_go is target_is tree stands = by_both tree stands 1 1 is target_is ∙ kinds-files (same_path p q) (is_empty_dir tree.now.nodes q)

    pub onto_file : kind_of image ends.source.ino ≡ 2 → kind_of image there.ino ≡ 1 → RefusesRename image p q not_dir
    onto_file is target_is tree stands = by_both tree stands 2 1 is target_is

    pub onto_directory : kind_of image ends.source.ino ≡ 1 → kind_of image there.ino ≡ 2 → RefusesRename image p q is_dir
    onto_directory is target_is tree stands = by_both tree stands 1 2 is target_is

    counts : kind_of image there.ino ≡ 2 → (tree : FileTree) → Stands image tree → is_empty_dir tree.now.nodes q ≡ (name_count image (root_of image there.ino) (size_of image there.ino) == 0)
    counts target_is tree stands = ap (λ n. n == 0) (length-entries image tree stands q there.ino has.inode target_is ∙ length-seen image there.ino)

    pub empty_goes : kind_of image ends.source.ino ≡ 2 → kind_of image there.ino ≡ 2 → name_count image (root_of image there.ino) (size_of image there.ino) ≡ 0 →
        (tree : FileTree) → Stands image tree → move_refusal tree.now.nodes p q ≡ None
    empty_goes is target_is none tree stands =
        by_both tree stands 2 2 is target_is
        ∙ ap (by_kinds true true true (same_path p q)) (counts target_is tree stands ∙ eq-eqb (name_count image (root_of image there.ino) (size_of image there.ino)) 0 none)
        ∙ kinds-empty (same_path p q)

    pub not_empty_stops : p ≢ q → kind_of image ends.source.ino ≡ 2 → kind_of image there.ino ≡ 2 → name_count image (root_of image there.ino) (size_of image there.ino) ≢ 0 → RefusesRename image p q not_empty
    not_empty_stops other is target_is some tree stands =
        by_both tree stands 2 2 is target_is
        ∙ ap₂ (by_kinds true true true) (other_path p q other) (counts target_is tree stands ∙ ne_eqb (name_count image (root_of image there.ino) (size_of image there.ino)) 0 some)

  -- a path onto itself
  pub same_goes : p ≡ q → (tree : FileTree) → Stands image tree → move_refusal tree.now.nodes p q ≡ None
  same_goes same tree stands =
      past_all tree stands
      ∙ ap (λ r. by_kinds (is_dir_at tree.now.nodes p) (is_dir_at tree.now.nodes r) (is_some (get tree.now.nodes r)) (same_path p r) (is_empty_dir tree.now.nodes r)) (sym same)
      ∙ ap₂ (λ o b. by_kinds (is_dir_at tree.now.nodes p) (is_dir_at tree.now.nodes p) (is_some o) b (is_empty_dir tree.now.nodes p)) (node_at image tree stands p ends.source.ino are.source.inode) (same_path-self p)
      ∙ kinds-same (is_dir_at tree.now.nodes p) (is_empty_dir tree.now.nodes p)

  -- the inode at the second path is that at the first, where both ends are one
  same_inode : (there : FoundEntry) → ends.target.there ≡ Some there → are_same ends ≡ true → there.ino ≡ ends.source.ino
  same_inode there at same = eqb-true there.ino ends.source.ino (sym (ap (is_inode ends.source.ino) at) ∙ same)

  -- a directory has one path, and two paths of a file may be renamed to each other
  pub one_goes : IsWellFormed image → (there : FoundEntry) → ends.target.there ≡ Some there → there.ino ≡ ends.source.ino → (tree : FileTree) → Stands image tree → move_refusal tree.now.nodes p q ≡ None
  one_goes wf there at one tree stands = go (cases_eq (kind_of image ends.source.ino) 2)
    where
      kinds : (1 ≤ kind_of image ends.source.ino) × (kind_of image ends.source.ino ≤ 2)
      kinds = kind_at image wf p ends.source.ino are.source.inode

      go : (kind_of image ends.source.ino ≡ 2) ⊎ (kind_of image ends.source.ino ≡ 2 → ⊥) → move_refusal tree.now.nodes p q ≡ None
      go (inl directory) = same_goes (path_once image wf p q ends.source.ino are.source.inode ((are.target.there there at).inode ∙ ap Some one) directory) tree stands
      go (inr other) =
          let file : kind_of image ends.source.ino ≡ 1 = omega (arith, kinds.0, kinds.1, other) in
          files_go there at file (ap (kind_of image) one ∙ file) tree stands

  one_path : IsWellFormed image → (there : FoundEntry) → ends.target.there ≡ Some there → there.ino ≡ ends.source.ino → (tree : FileTree) → Stands image tree → are_apart tree p q ≡ false
  one_path wf there at one tree stands = go (cases_eq (kind_of image ends.source.ino) 2)
    where
      kinds : (1 ≤ kind_of image ends.source.ino) × (kind_of image ends.source.ino ≤ 2)
      kinds = kind_at image wf p ends.source.ino are.source.inode

      with_false : (b : Bool) → (b && false) ≡ false
      with_false true = refl
      with_false false = refl

      go : (kind_of image ends.source.ino ≡ 2) ⊎ (kind_of image ends.source.ino ≡ 2 → ⊥) → are_apart tree p q ≡ false
      go (inl directory) =
          let same : p ≡ q = path_once image wf p q ends.source.ino are.source.inode ((are.target.there there at).inode ∙ ap Some one) directory in
          ap (λ r. not (same_path p r) && not (is_one tree.now.one p r)) (sym same) ∙ ap (λ b. not b && not (is_one tree.now.one p p)) (same_path-self p)
      go (inr other) =
          let file : kind_of image ends.source.ino ≡ 1 = omega (arith, kinds.0, kinds.1, other) in
          let first : file_at image p ≡ Some ends.source.ino = file_found image p ends.source.ino are.source.inode file in
          let second : file_at image q ≡ Some ends.source.ino = file_found image q ends.source.ino ((are.target.there there at).inode ∙ ap Some one) file in
          let found : is_one tree.now.one p q ≡ true = stands.now.one p q ∙ ap₂ are_one first second ∙ eq-eqb ends.source.ino ends.source.ino refl in
          ap (λ b. not (same_path p q) && not b) found ∙ with_false (not (same_path p q))

  pub other_ends : are_same ends ≡ false → p ≢ q
  other_ends other same = go ends.target.there refl other
    where
      go : (o : Option FoundEntry) → ends.target.there ≡ o → is_inode ends.source.ino o ≡ false → ⊥
      go None at e =
          let last : last_of p ≡ ends.target.name.now = ap last_of same ∙ are.target.last in
          let found : ◌≡◌ {A = Option ℕ} (Some ends.source.dir) (Some ends.target.dir) = sym are.source.parent ∙ ap (λ r. lookup image (parent_of r)) same ∙ are.target.parent in
          let directory : ends.source.dir ≡ ends.target.dir = cc in
          let clash : ◌≡◌ {A = Option ℕ} (Some ends.source.slot) None = sym are.source.slot ∙ ap₂ (slot_named image) directory last ∙ are.target.new at in
          absurd (cc)
      go (Some there) at e =
          let found : ◌≡◌ {A = Option ℕ} (Some there.ino) (Some ends.source.ino) = sym (are.target.there there at).inode ∙ ap (lookup image) (sym same) ∙ are.source.inode in
          let one : there.ino ≡ ends.source.ino = cc in
          eqb-false there.ino ends.source.ino e one

  -- and no file is at both
  other_files : are_same ends ≡ false → find_one image p q ≡ false
  other_files other = ap (λ a. are_one (option_and_then (if_file image) a) (file_at image q)) are.source.inode ∙ go ends.target.there refl other
    where
      apart : (x y : ℕ) → (a b : Bool) → (y == x) ≡ false → are_one (if a then Some x else None) (if b then Some y else None) ≡ false
      apart x y false b e = refl
      apart x y true false e = refl
      apart x y true true e = ne_eqb x y (λ same. eqb-false y x e (sym same))

      with_none : (o : Option ℕ) → are_one o None ≡ false
      with_none None = refl
      with_none (Some x) = refl

      go : (o : Option FoundEntry) → ends.target.there ≡ o → is_inode ends.source.ino o ≡ false → are_one (if_file image ends.source.ino) (file_at image q) ≡ false
      go None at e =
          let nothing : lookup image q ≡ None =
          lookup-name image q are.target.below ends.target.dir are.target.parent are.target.directory ends.target.name.now are.target.last
          ∙ ap (option_map (ino_at image ends.target.dir)) (are.target.new at) in
          ap (λ l. are_one (if_file image ends.source.ino) (option_and_then (if_file image) l)) nothing ∙ with_none (if_file image ends.source.ino)
      go (Some there) at e =
          ap (λ l. are_one (if_file image ends.source.ino) (option_and_then (if_file image) l)) (are.target.there there at).inode
          ∙ apart ends.source.ino there.ino (kind_of image ends.source.ino == 1) (kind_of image there.ino == 1) e

  pub two_paths : are_same ends ≡ false → (tree : FileTree) → Stands image tree → are_apart tree p q ≡ true
  two_paths other tree stands = ap₂ (λ a b. not a && not b) (other_path p q (other_ends other)) (stands.now.one p q ∙ other_files other)

-- ---- paths that texts spell

module _ (image : Image) (from to : List ℕ) where
  pub no_source : parse from ≡ None → Refuses image (rename from to) bad_path
  no_source none tree stands = ap (λ o. on_parsed o (λ p. on_path to (move_refusal tree.now.nodes p))) none

  module _ (p : Path) (parsed : parse from ≡ Some p) where
    pub no_target : parse to ≡ None → Refuses image (rename from to) bad_path
    no_target none tree stands = ap₂ (λ o u. on_parsed o (λ p. on_parsed u (move_refusal tree.now.nodes p))) parsed none

    module _ (q : Path) (target_parsed : parse to ≡ Some q) where
      pub spelled : (tree : FileTree) → refusal tree (rename from to) ≡ move_refusal tree.now.nodes p q
      spelled tree = ap₂ (λ o u. on_parsed o (λ p. on_parsed u (move_refusal tree.now.nodes p))) parsed target_parsed

      pub rename_stops : (why : Refusal) → RefusesRename image p q why → Refuses image (rename from to) why
      rename_stops why stops tree stands = spelled tree ∙ stops tree stands

module _ (image : Image) (from to : List ℕ) (ends : Ends) (found : FindsEnds image from to ends) where
  pub found_stops : (why : Refusal) → RefusesRename image found.source_path found.target_path why → Refuses image (rename from to) why
  found_stops = rename_stops image from to found.source_path found.source_parsed found.target_path found.target_parsed

  pub found_goes : ((tree : FileTree) → Stands image tree → move_refusal tree.now.nodes found.source_path found.target_path ≡ None) → Allows image (rename from to)
  found_goes goes tree stands = spelled image from to found.source_path found.source_parsed found.target_path found.target_parsed tree ∙ goes tree stands

  pub source_is : path_named from ≡ found.source_path
  source_is = ap (λ (o : Option Path). unwrap_or o []) found.source_parsed

  pub target_is : path_named to ≡ found.target_path
  target_is = ap (λ (o : Option Path). unwrap_or o []) found.target_parsed

  changes_are : (tree : FileTree) → changes tree (rename from to) ≡ are_apart tree found.source_path found.target_path
  changes_are tree = ap₂ (λ a b. not (same_path a b) && not (is_one tree.now.one a b)) source_is target_is

  -- a name that is to move onto itself, or onto another name of its file
  pub same_stays : IsWellFormed image → are_same ends ≡ true → Answers image (rename from to) done
  same_stays wf same tree stands = go ends.target.there refl
    where
      go : (o : Option FoundEntry) → ends.target.there ≡ o → (has_changed tree (rename from to) done ≡ false) × StepFor image tree (rename from to) done image
      go None at = let nothing : false ≡ true = sym (ap (is_inode ends.source.ino) at) ∙ same in absurd (true≢false (sym nothing))
      go (Some there) at =
          let one = same_inode image found.source_path found.target_path ends found.are there at same in
          answer_steps image tree (rename from to) done (found_goes (one_goes image found.source_path found.target_path ends found.are wf there at one) tree stands)
          (changes_are tree ∙ one_path image found.source_path found.target_path ends found.are wf there at one tree stands) refl

  -- two entries of two inodes are two paths
  pub changes_then : are_same ends ≡ false → (tree : FileTree) → Stands image tree → changes tree (rename from to) ≡ true
  changes_then other tree stands = changes_are tree ∙ two_paths image found.source_path found.target_path ends found.are other tree stands

  -- the entry that has the new name
  pub target_entry : (entry : FoundEntry) → ends.target.there ≡ Some entry → FindsEntry image to ends.target.dir entry.slot entry.ino
  target_entry entry at = record { path = found.target_path; parsed = found.target_parsed; entry = found.are.target.there entry at }

  -- a new name has nothing in its way
  pub new_may : are_same ends ≡ false → ends.target.there ≡ None → MayMove image from to ends
  new_may other none = record {
    found = found;
    other = other;
    leaves = λ entry at. let clash : ◌≡◌ {A = Option FoundEntry} None (Some entry) = sym none ∙ at in absurd (cc);
    allowed = found_goes (new_goes image found.source_path found.target_path ends found.are none);
  }
