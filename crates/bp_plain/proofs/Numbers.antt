-- Files with numbers against the map that they stand for.
use Rattle.std.proofs.Common.{◌≡◌, ◌≢◌, ◌&&◌, ◌||◌, ℕ, List, [], ◌∷◌, Bool, true, false, map, Option, None, Some, is_some, option_map, refl, sym, ◌∙◌, ap, ap₂, subst}
use lib.Dec.{T}
use Rattle.std.specs.List.{filter_map, list_any}
use Rattle.std.specs.Ordering.{eq_by_cmp, is_lt}
use Rattle.std.specs.Cmp.{eq_by_cmp_equiv}
use Rattle.std.specs.FinMap as finite
use Rattle.std.specs.FinMap.{FinMap, contains_key-keys, entries, entries-from_sorted, entries_sorted, get, get-entries, get-from_entries, get-from_sorted, get-insert, get-remove, insert, remove, same_map}
use Rattle.std.specs.FinMap.Entries.{below_all, find, is_sorted}
use Rattle.bp_layout.specs.Paths.{same_path, Path, Node}
use Rattle.bp_plain.specs.Changed.{changed, changed_files}
use Rattle.bp_plain.specs.declared.trees.entries.Change.{Change}
use Rattle.bp_plain.specs.declared.trees.entries.Change.TheVariants.{Nothing}
use Rattle.bp_plain.specs.Kernels.{IsKernel}
use Rattle.bp_plain.specs.Numbered.{Numbered, NumberedFiles, map_of, number_at, number_in, plain_entry, plain_node, plain_nodes}
use Rattle.bp_plain.specs.Plain.{moved, moved_entry, moved_path}
use Rattle.bp_plain.specs.PlainTree.{Nodes, PathMap, path_cmp}
use Rattle.bp_plain.proofs.Kernels.{any_path, kernel_of, kernel_once, same_by_cmp}
use Rattle.bp_plain.proofs.PathOrder.{other_path_from, path_cmp-IsAntisymmetric, path_cmp-IsTotalOrder, same_path_from}

-- ---- maps by their paths

ties : (p : Path) → eq_by_cmp path_cmp p p ≡ true
ties p = (eq_by_cmp_equiv path_cmp-IsTotalOrder).refl p

differs : (p q : Path) → p ≢ q → eq_by_cmp path_cmp p q ≡ false
differs p q other = go (eq_by_cmp path_cmp p q) refl
  where
    go : (b : Bool) → eq_by_cmp path_cmp p q ≡ b → eq_by_cmp path_cmp p q ≡ false
    go true e = absurd (other (same_path_from p q e))
    go false e = e

module _ {A : Type 0} (files : FinMap path_cmp A) (p : Path) where
  pub put_there : (node : A) → get (insert files p node) p ≡ Some node
  put_there node = get-insert path_cmp-IsTotalOrder files p node p ∙ rw (ties p) refl

  pub put_elsewhere : (node : A) (q : Path) → q ≢ p → get (insert files p node) q ≡ get files q
  put_elsewhere node q other = get-insert path_cmp-IsTotalOrder files p node q ∙ rw (differs q p other) refl

  pub taken_there : get (remove files p) p ≡ None
  taken_there = get-remove path_cmp-IsTotalOrder files p p ∙ rw (ties p) refl

  pub taken_elsewhere : (q : Path) → q ≢ p → get (remove files p) q ≡ get files q
  taken_elsewhere q other = get-remove path_cmp-IsTotalOrder files p q ∙ rw (differs q p other) refl

-- a path is another one, or it is not
pub data Case (p q : Path) : Type 0 where
  same : p ≡ q → Case p q
  other : p ≢ q → Case p q

pub case_of : (p q : Path) → Case p q
case_of p q = go (eq_by_cmp path_cmp p q) refl
  where
    go : (b : Bool) → eq_by_cmp path_cmp p q ≡ b → Case p q
    go true e = same (same_path_from p q e)
    go false e = other (other_path_from p q e)

-- ---- what stands at paths, without the numbers

find-plain : (es : List (Path × Numbered)) (q : Path) → find path_cmp q (map plain_entry es) ≡ option_map plain_node (find path_cmp q es)
find-plain [] q = refl
find-plain (e ∷ es) q = go (eq_by_cmp path_cmp q e.0) refl (find-plain es q)
  where
    go : (b : Bool) → eq_by_cmp path_cmp q e.0 ≡ b → find path_cmp q (map plain_entry es) ≡ option_map plain_node (find path_cmp q es) →
        find path_cmp q (map plain_entry (e ∷ es)) ≡ option_map plain_node (find path_cmp q (e ∷ es))
    go true at rest = rw at refl
    go false at rest = rw at rest

below-plain : (x : Path) (es : List (Path × Numbered)) → below_all path_cmp x (map plain_entry es) ≡ below_all path_cmp x es
below-plain x [] = refl
below-plain x (e ∷ es) = ap (λ b. is_lt (path_cmp x e.0) && b) (below-plain x es)

sorted-plain : (es : List (Path × Numbered)) → is_sorted path_cmp (map plain_entry es) ≡ is_sorted path_cmp es
sorted-plain [] = refl
sorted-plain (e ∷ es) = ap₂ (λ a b. a && b) (below-plain e.0 es) (sorted-plain es)

in_order : (files : NumberedFiles) → T (is_sorted path_cmp (map plain_entry (entries files)))
in_order files = subst T (sym (sorted-plain (entries files))) (entries_sorted files)

pub entries-plain : (files : NumberedFiles) → entries (plain_nodes files) ≡ map plain_entry (entries files)
entries-plain files = entries-from_sorted path_cmp (map plain_entry (entries files)) (in_order files)

pub get-plain : (files : NumberedFiles) (q : Path) → get (plain_nodes files) q ≡ option_map plain_node (get files q)
get-plain files q =
    get-from_sorted path_cmp (map plain_entry (entries files)) q (in_order files) ∙ find-plain (entries files) q
    ∙ ap (option_map plain_node) (sym (get-entries files q))

pub nothing_there : (files : NumberedFiles) (q : Path) → get (plain_nodes files) q ≡ None → get files q ≡ None
nothing_there files q e = go (get files q) refl
  where
    go : (o : Option Numbered) → get files q ≡ o → get files q ≡ None
    go None at = at
    go (Some node) at =
        let some : ◌≡◌ {A = Option Node} (Some (plain_node node)) None = sym (get-plain files q ∙ ap (option_map plain_node) at) ∙ e in
        absurd (cc)

-- two maps of nodes are one where they have the same at each path
pub same_nodes : (m n : Nodes) → ((q : Path) → get m q ≡ get n q) → m ≡ n
same_nodes m n at = same_map path_cmp-IsTotalOrder path_cmp-IsAntisymmetric m n at

pub same_files : (m n : NumberedFiles) → ((q : Path) → get m q ≡ get n q) → m ≡ n
same_files m n at = same_map path_cmp-IsTotalOrder path_cmp-IsAntisymmetric m n at

pub plain-put : (files : NumberedFiles) (p : Path) (node : Numbered) → plain_nodes (insert files p node) ≡ insert (plain_nodes files) p (plain_node node)
plain-put files p node = same_nodes _ _ (λ q. get-plain (insert files p node) q ∙ go q (case_of q p))
  where
    go : (q : Path) → Case q p → option_map plain_node (get (insert files p node) q) ≡ get (insert (plain_nodes files) p (plain_node node)) q
    go q (same e) =
        rw e (ap (option_map plain_node) (put_there files p node) ∙ sym (put_there (plain_nodes files) p (plain_node node)))
    go q (other apart) =
        ap (option_map plain_node) (put_elsewhere files p node q apart) ∙ sym (get-plain files q)
        ∙ sym (put_elsewhere (plain_nodes files) p (plain_node node) q apart)

pub plain-taken : (files : NumberedFiles) (p : Path) → plain_nodes (remove files p) ≡ remove (plain_nodes files) p
plain-taken files p = same_nodes _ _ (λ q. get-plain (remove files p) q ∙ go q (case_of q p))
  where
    go : (q : Path) → Case q p → option_map plain_node (get (remove files p) q) ≡ get (remove (plain_nodes files) p) q
    go q (same e) = rw e (ap (option_map plain_node) (taken_there files p) ∙ sym (taken_there (plain_nodes files) p))
    go q (other apart) =
        ap (option_map plain_node) (taken_elsewhere files p q apart) ∙ sym (get-plain files q)
        ∙ sym (taken_elsewhere (plain_nodes files) p q apart)

-- ---- copies with a change

find-each : (f : Numbered → Numbered) (g : Path × Numbered → Option (Path × Numbered)) → ((e : Path × Numbered) → g e ≡ Some (e.0, f e.1)) → (es : List (Path × Numbered)) (q : Path) →
    find path_cmp q (filter_map g es) ≡ option_map f (find path_cmp q es)
find-each f g each [] q = refl
find-each f g each (e ∷ es) q = go (eq_by_cmp path_cmp q e.0) refl (find-each f g each es q)
  where
    go : (b : Bool) → eq_by_cmp path_cmp q e.0 ≡ b → find path_cmp q (filter_map g es) ≡ option_map f (find path_cmp q es) →
        find path_cmp q (filter_map g (e ∷ es)) ≡ option_map f (find path_cmp q (e ∷ es))
    go true at rest = rw (each e, at) refl
    go false at rest = rw (each e, at) rest

-- where each entry stays at its path
pub get-each : (change : Change) (f : Numbered → Numbered) → ((e : Path × Numbered) → changed change e ≡ Some (e.0, f e.1)) → (files : NumberedFiles) (q : Path) →
    get (changed_files change files) q ≡ option_map f (get files q)
get-each change f each files q =
    get-from_entries path_cmp-IsTotalOrder (filter_map (changed change) (entries files)) q
    ∙ find-each f (changed change) each (entries files) q ∙ ap (option_map f) (sym (get-entries files q))

as_it_is : (o : Option Numbered) → option_map (λ node. node) o ≡ o
as_it_is None = refl
as_it_is (Some node) = refl

pub changed-nothing : (files : NumberedFiles) → changed_files Nothing files ≡ files
changed-nothing files = same_files _ _ (λ q. get-each Nothing (λ node. node) (λ e. refl) files q ∙ as_it_is (get files q))

moved-plain : (p q : Path) (es : List (Path × Numbered)) → filter_map (moved_entry p q) (map plain_entry es) ≡ map plain_entry (filter_map (moved_entry p q) es)
moved-plain p q [] = refl
moved-plain p q (e ∷ es) = go (same_path e.0 q) refl (moved-plain p q es)
  where
    go : (b : Bool) → same_path e.0 q ≡ b → filter_map (moved_entry p q) (map plain_entry es) ≡ map plain_entry (filter_map (moved_entry p q) es) →
        filter_map (moved_entry p q) (map plain_entry (e ∷ es)) ≡ map plain_entry (filter_map (moved_entry p q) (e ∷ es))
    go true at rest = rw at rest
    go false at rest = rw at (ap (λ xs. (moved_path p q e.0, plain_node e.1) ∷ xs) rest)

pub plain-moved : (p q : Path) (files : NumberedFiles) → plain_nodes (moved p q files) ≡ moved p q (plain_nodes files)
plain-moved p q files = same_nodes _ _ (λ r.
    get-plain (moved p q files) r
    ∙ ap (option_map plain_node) (get-from_entries path_cmp-IsTotalOrder (filter_map (moved_entry p q) (entries files)) r)
    ∙ sym (find-plain (filter_map (moved_entry p q) (entries files)) r)
    ∙ ap (find path_cmp r) (sym (moved-plain p q (entries files)))
    ∙ ap (λ es. find path_cmp r (filter_map (moved_entry p q) es)) (sym (entries-plain files))
    ∙ sym (get-from_entries path_cmp-IsTotalOrder (filter_map (moved_entry p q) (entries (plain_nodes files))) r))

-- ---- the pairs

all_paths : (files : NumberedFiles) (p : Path) (i : ℕ) → number_at files p ≡ Some i → any_path p (finite.keys files) ≡ true
all_paths files p i e =
    any_same p (finite.keys files) ∙ sym (contains_key-keys files p) ∙ go (get files p) refl e
  where
    any_same : (p : Path) (ps : List Path) → any_path p ps ≡ list_any (eq_by_cmp path_cmp p) ps
    any_same p [] = refl
    any_same p (q ∷ ps) = ap₂ (λ a b. a || b) (sym (same_by_cmp p q)) (any_same p ps)

    go : (o : Option Numbered) → get files p ≡ o → number_in o ≡ Some i → is_some (get files p) ≡ true
    go None at e = let none : ◌≡◌ {A = Option ℕ} None (Some i) = e in absurd (cc)
    go (Some node) at e = ap is_some at

pub pairs_of : (files : NumberedFiles) → IsKernel (number_at files) (map_of files).one
pairs_of files = kernel_of (number_at files) (finite.keys files) (all_paths files)

-- a map is that of files where it has their nodes and is stated by their numbers
pub map_is : (files : NumberedFiles) (m : PathMap) → plain_nodes files ≡ m.nodes → IsKernel (number_at files) m.one → map_of files ≡ m
map_is files m nodes kernel =
    let pairs : (map_of files).one ≡ m.one = kernel_once (number_at files) (map_of files).one m.one (pairs_of files) kernel in
    λ i. record { nodes = nodes i; one = pairs i }
