-- The plain tree of an image in which a file or a directory has another attribute: a file at each of its paths, a
-- directory at its one path.
use Rattle.std.proofs.Common.{◌≡◌, ◌≢◌, ◌⊎◌, ℕ, zero, suc, ◌≤◌, List, Bool, true, false, cond, ap, ap₂, Option, None, Some, option_and_then, refl, sym, ◌∙◌, inl, inr, arith}
use Rattle.std.proofs.lemmas.Bool.{cases_eq, ne_eqb}
use Rattle.std.specs.Prelude.{slice_set}
use Rattle.std.specs.FinMap.{get, get-insert}
use Rattle.bp_layout.specs.Words.{Image}
use Rattle.bp_layout.specs.Tree.{content}
use Rattle.bp_layout.specs.Inode.{IsDirectory, IsFile, attributes_of, kind_of, root_of, size_of}
use Rattle.bp_layout.specs.Lookup.{are_one, file_at, find_one, if_file, lookup, shown}
use Rattle.bp_layout.specs.Paths.{Attributes, Node, Path, same_path}
use Rattle.bp_layout.specs.Paths.Node.{dir, file}
use Rattle.bp_layout.specs.Reached.IsReached.{root_directory}
use Rattle.bp_layout.specs.Same.{Same}
use Rattle.bp_layout.specs.Trees.{snapshot_of}
use Rattle.bp_layout.specs.WellFormed.{IsWellFormed}
use Rattle.bp_layout.specs.Whole.{SameSnapshot}
use Rattle.bp_layout.proofs.Below.{same_path-is, same_path-self}
use Rattle.bp_layout.proofs.Paths.{ByLast, by_last, last_step, path_once}
use Rattle.bp_layout.proofs.Paths.ByLast.{none, more}
use Rattle.bp_layout.proofs.View.{lookup_from-reached}
use Rattle.bp_changes.specs.Effects.{SetsAttribute}
use Rattle.bp_changes.proofs.Formatted.{version_stays}
use Rattle.bp_changes.proofs.SetsAttribute.{one-same, shown_directory, shown_file, shown_other, well_formed-same}
use Rattle.bp_plain.specs.Plain.{attributes_at, attributes_in, bytes_at, bytes_in, is_a_dir, is_dir_at, paths_of, with_attributes, with_node, with_node_at}
use Rattle.bp_plain.specs.PlainTree.{FileTree, PathMap, is_one}
use Rattle.bp_plain.specs.Stands.{Shows, ShowsSnapshot, Stands}
use Rattle.bp_plain.proofs.Kernels.{are_one-self, get-with_node_at, paths_of-any, same_by_cmp}
use Rattle.bp_plain.proofs.PathOrder.{path_cmp-IsTotalOrder}
use Rattle.bp_stands.proofs.FileStands.{finds}

-- ---- what a path finds is a file or a directory

module _ (image : Image) (wf : IsWellFormed image) where
  found_inode : (path : Path) → ByLast path → (i : ℕ) → lookup image path ≡ Some i → i ≢ 0
  found_inode _ none i e null = let root : 1 ≡ i = cc in omega (arith, root, null)
  found_inode _ (more {path = above} before name) i e null = (last_step image wf above name i e).shows.entry.not_empty null

  pub found_kind : (path : Path) (i : ℕ) → lookup image path ≡ Some i → IsFile image i ⊎ IsDirectory image i
  found_kind path i e = go i e (found_inode path (by_last path) i e)
    where
      go : (u : ℕ) → lookup image path ≡ Some u → u ≢ 0 → IsFile image u ⊎ IsDirectory image u
      go zero f some = absurd (some refl)
      go (suc n) f some = by_kind (wf.kinds n (lookup_from-reached image 1 (suc n) path root_directory f)) (cases_eq (kind_of image (suc n)) 1)
        where
          by_kind : (1 ≤ kind_of image (suc n)) × (kind_of image (suc n) ≤ 2) → (kind_of image (suc n) ≡ 1) ⊎ (kind_of image (suc n) ≡ 1 → ⊥) → IsFile image (suc n) ⊎ IsDirectory image (suc n)
          by_kind kinds (inl one) = inl one
          by_kind kinds (inr other) = inr (omega (arith, kinds.0, kinds.1, other))

-- ---- another node at a file's paths, and at a directory's

module _ (image : Image) (x : ℕ) (path : Path) (at : lookup image path ≡ Some x) (map : PathMap) (node : Node) where
  module _ (is_file : IsFile image x) (one : (p q : Path) → is_one map.one p q ≡ find_one image p q) where
    node_at : (q : Path) → get (with_node_at (paths_of map.one path) node map.nodes) q ≡ cond (are_one (Some x) (file_at image q)) (Some node) (get map.nodes q)
    node_at q =
        let there : file_at image path ≡ Some x = rw at (rw is_file refl) in
        get-with_node_at (paths_of map.one path) node map.nodes q
        ∙ ap (λ b. cond b (Some node) (get map.nodes q)) (paths_of-any map.one path q ∙ one path q ∙ ap (λ f. are_one f (file_at image q)) there)

    pub file_here : (q : Path) → lookup image q ≡ Some x → get (with_node_at (paths_of map.one path) node map.nodes) q ≡ Some node
    file_here q here =
        let found : are_one (Some x) (file_at image q) ≡ true = ap (λ f. are_one (Some x) (option_and_then (if_file image) f)) here ∙ rw is_file (are_one-self x) in
        node_at q ∙ rw found refl

    pub file_elsewhere : (q : Path) → (lookup image q ≡ Some x → ⊥) → get (with_node_at (paths_of map.one path) node map.nodes) q ≡ get map.nodes q
    file_elsewhere q apart = node_at q ∙ rw (other (lookup image q) refl) refl
      where
        other : (found : Option ℕ) → lookup image q ≡ found → are_one (Some x) (file_at image q) ≡ false
        other None e = rw e refl
        other (Some u) e = ap (λ f. are_one (Some x) (option_and_then (if_file image) f)) e ∙ by_kind (cases_eq (kind_of image u) 1)
          where
            by_kind : (kind_of image u ≡ 1) ⊎ (kind_of image u ≡ 1 → ⊥) → are_one (Some x) (if_file image u) ≡ false
            by_kind (inl k) = rw k (ne_eqb x u (λ same. apart (e ∙ ap Some (sym same))))
            by_kind (inr k) = rw (ne_eqb (kind_of image u) 1 k) refl

  -- a directory has no other path
  module _ (wf : IsWellFormed image) (directory : IsDirectory image x) where
    placed : (q : Path) → get (with_node map.nodes path node) q ≡ cond (same_path q path) (Some node) (get map.nodes q)
    placed q = get-insert path_cmp-IsTotalOrder map.nodes path node q ∙ ap (λ b. cond b (Some node) (get map.nodes q)) (same_by_cmp q path)

    pub directory_here : (q : Path) → lookup image q ≡ Some x → get (with_node map.nodes path node) q ≡ Some node
    directory_here q here =
        let same : same_path q path ≡ true = ap (λ (p : Path). same_path p path) (path_once image wf q path x here at directory) ∙ same_path-self path in
        placed q ∙ rw same refl

    pub directory_elsewhere : (q : Path) → (lookup image q ≡ Some x → ⊥) → get (with_node map.nodes path node) q ≡ get map.nodes q
    directory_elsewhere q apart = placed q ∙ go (same_path q path) refl
      where
        go : (b : Bool) → same_path q path ≡ b → cond (same_path q path) (Some node) (get map.nodes q) ≡ get map.nodes q
        go true e = absurd (apart (ap (lookup image) (same_path-is q path e) ∙ at))
        go false e = rw e refl

-- ---- the tree with the attribute

module _ (old new : Image) (i k value : ℕ) (wf : IsWellFormed old) (sets : SetsAttribute old new i k value) (path : Path) (at : lookup old path ≡ Some i) where
  -- the attributes at the path in a map, with the attribute
  abbrev pub attributes_after : PathMap → Attributes
  attributes_after map = slice_set (attributes_at map.nodes path) k value

  module _ (map : PathMap) (shows : Shows old map) where
    abbrev made : Attributes
    made = attributes_after map

    by_kind : IsFile old i ⊎ IsDirectory old i → (q : Path) → get (with_attributes map path made).nodes q ≡ shown new q
    by_kind (inl is_file) q = rw no_directory (by_inode (finds (lookup old q) i))
      where
        there : get map.nodes path ≡ Some (file (attributes_of old i) (content old (root_of old i) (size_of old i)))
        there = shows.shows path ∙ rw at (rw is_file refl)

        no_directory : is_dir_at map.nodes path ≡ false
        no_directory = ap is_a_dir there

        by_inode : (lookup old q ≡ Some i) ⊎ (lookup old q ≡ Some i → ⊥) → get (with_node_at (paths_of map.one path) (file made (bytes_at map.nodes path)) map.nodes) q ≡ shown new q
        by_inode (inl here) =
            file_here old i path at map (file made (bytes_at map.nodes path)) is_file shows.one q here
            ∙ ap₂ (λ (attributes : Attributes) (bytes : List ℕ). Some (file (slice_set attributes k value) bytes)) (ap attributes_in there) (ap bytes_in there)
            ∙ sym (shown_file old new i k value wf sets q here is_file)
        by_inode (inr apart) =
            file_elsewhere old i path at map (file made (bytes_at map.nodes path)) is_file shows.one q apart ∙ shows.shows q ∙ sym (shown_other old new i k value wf sets q apart)
    by_kind (inr directory) q = rw is_directory (by_inode (finds (lookup old q) i))
      where
        there : get map.nodes path ≡ Some (dir (attributes_of old i))
        there = shows.shows path ∙ rw at (rw directory refl)

        is_directory : is_dir_at map.nodes path ≡ true
        is_directory = ap is_a_dir there

        by_inode : (lookup old q ≡ Some i) ⊎ (lookup old q ≡ Some i → ⊥) → get (with_node map.nodes path (dir made)) q ≡ shown new q
        by_inode (inl here) =
            directory_here old i path at map (dir made) wf directory q here
            ∙ ap (λ (attributes : Attributes). Some (dir (slice_set attributes k value))) (ap attributes_in there)
            ∙ sym (shown_directory old new i k value wf sets q here directory)
        by_inode (inr apart) =
            directory_elsewhere old i path at map (dir made) wf directory q apart ∙ shows.shows q ∙ sym (shown_other old new i k value wf sets q apart)

    pub attributes_shows : Shows new (with_attributes map path (slice_set (attributes_at map.nodes path) k value))
    attributes_shows = record {
      well_formed = well_formed-same old new i k value wf sets;
      shows = by_kind (found_kind old wf path i at);
      one = λ p q. shows.one p q ∙ sym (one-same old new i k value wf sets p q);
    }

  -- and the whole tree, where the snapshot stays
  pub attributes_stand : SameSnapshot old new → (tree : FileTree) → Stands old tree →
      Stands new (record tree { now = with_attributes tree.now path (slice_set (attributes_at tree.now.nodes path) k value) })
  attributes_stand snapshot tree stands = record {
    version = stands.version ∙ sym (version_stays old new sets.trees.has_magic);
    now = attributes_shows tree.now stands.now;
    snap = go tree.snap stands.snap;
  }
    where
      shows_still : (first second : Image) → Same first second → (map : PathMap) → Shows first map → Shows second map
      shows_still first second same map shows = record {
        well_formed = same.new_well_formed;
        shows = λ p. shows.shows p ∙ sym (same.shows p);
        one = λ p q. shows.one p q ∙ sym (same.one p q);
      }

      go : (snap : Option PathMap) → ShowsSnapshot old snap → ShowsSnapshot new snap
      go None alone = snapshot.there ∙ alone
      go (Some map) shows = (snapshot.there ∙ shows.0, shows_still (snapshot_of old) (snapshot_of new) (snapshot.same shows.0) map shows.1)
