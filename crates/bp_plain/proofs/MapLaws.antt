-- What each change of files with numbers makes of the map that they stand for.
use Rattle.std.proofs.Common.{◌≡◌, ◌≢◌, ◌<◌, ◌==◌, ◌+◌, ◌||◌, ℕ, List, [], ◌∷◌, ◌++◌, Bool, true, false, cond, Option, None, Some, option_and_then, option_map, if◌then◌else◌, refl, sym, ◌∙◌, ap, true≢false, arith}
use Rattle.std.specs.FinMap as finite
use Rattle.std.specs.FinMap.{get, get-empty, insert, remove}
use Rattle.std.specs.FinSet.{contains-empty}
use Rattle.bp_layout.specs.Paths.{rest_below, Attributes, Name, Path, Node, no_attributes}
use Rattle.bp_layout.specs.Lookup.{are_one}
use Rattle.bp_layout.specs.Paths.Node.{dir, file}
use Rattle.bp_layout.proofs.Below.{same_path-self}
use Rattle.bp_plain.specs.Changed.{changed, changed_files, with_bytes_in}
use Rattle.bp_plain.specs.declared.trees.entries.Change.{Change}
use Rattle.bp_plain.specs.Numbered.{Numbered, NumberedFiles, map_of, number_at, number_in, plain_node, plain_nodes, root_alone}
use Rattle.bp_plain.specs.Numbered.Numbered.{directory, numbered_file}
use Rattle.bp_plain.specs.Plain.{attributes_at, attributes_in, bytes_at, bytes_in, is_a_dir, is_dir_at, moved, paths_of, with_node_at, with_attributes, with_content, with_dir, with_file, with_moved, with_name, with_nothing}
use Rattle.bp_plain.specs.PlainTree.{IsDirAt, Nodes, PathMap, empty_map, pair_cmp, path_cmp}
use Rattle.bp_plain.specs.SeenTree.{IsRooted}
use Rattle.bp_plain.proofs.Kernels.{any_path, are_one-back, before_move, get-with_node_at, kernel_alone, kernel_linked, kernel_moved, kernel_same, kernel_without, paths_of-any}
use Rattle.bp_plain.proofs.Moved.{after_move, get-moved}
use Rattle.bp_plain.proofs.Numbers.{Case, case_of, get-each, get-plain, map_is, nothing_there, pairs_of, plain-moved, plain-put, plain-taken, put_elsewhere, put_there, same_nodes, taken_elsewhere, taken_there}
use Rattle.bp_plain.proofs.Numbers.Case.{same, other}
use Rattle.bp_plain.proofs.Rooted.{Moves, deep_none, not_empty_path, rooted_same}

-- no file has this number yet, or one after it
pub record AreBelow (files : NumberedFiles) (next : ℕ) : Type 0 where
  pub below : (path : Path) (id : ℕ) → number_at files path ≡ Some id → id < next

some_once : (a b : ℕ) → ◌≡◌ {A = Option ℕ} (Some a) (Some b) → a ≡ b
some_once a b e = cc

not_some : (a : ℕ) → ◌≡◌ {A = Option ℕ} None (Some a) → ⊥
not_some a e = absurd (cc)

-- ---- a new path

module _ (files : NumberedFiles) (p : Path) (nothing : get (plain_nodes files) p ≡ None) where
  unnumbered : number_at files p ≡ None
  unnumbered = ap number_in (nothing_there files p nothing)

  elsewhere : (node : Numbered) (q : Path) → q ≢ p → number_at (insert files p node) q ≡ number_at files q
  elsewhere node q apart = ap number_in (put_elsewhere files p node q apart)

  there : (node : Numbered) → number_at (insert files p node) p ≡ number_in (Some node)
  there node = ap number_in (put_there files p node)

  pub file_made : (next : ℕ) → AreBelow files next → map_of (insert files p (numbered_file next no_attributes [])) ≡ with_file (map_of files) p
  file_made next are =
      map_is (insert files p (numbered_file next no_attributes [])) (with_file (map_of files) p) (plain-put files p (numbered_file next no_attributes []))
      (kernel_alone (number_at files) (number_at (insert files p (numbered_file next no_attributes []))) (map_of files).one p next (pairs_of files)
      (there (numbered_file next no_attributes [])) (elsewhere (numbered_file next no_attributes [])) (λ q e. absurd (omega (arith, are.below q next e))) unnumbered)

  pub dir_made : map_of (insert files p (directory no_attributes)) ≡ with_dir (map_of files) p
  dir_made =
      map_is (insert files p (directory no_attributes)) (with_dir (map_of files) p) (plain-put files p (directory no_attributes))
      (kernel_same (number_at files) (number_at (insert files p (directory no_attributes))) (map_of files).one (λ q. at q (case_of q p)) (pairs_of files))
    where
      at : (q : Path) → Case q p → number_at (insert files p (directory no_attributes)) q ≡ number_at files q
      at q (same e) = rw e (there (directory no_attributes) ∙ sym unnumbered)
      at q (other apart) = elsewhere (directory no_attributes) q apart

  pub linked_made : (from : Path) (id : ℕ) (attributes : Attributes) (content : List ℕ) → get files from ≡ Some (numbered_file id attributes content) → map_of (insert files p (numbered_file id attributes content)) ≡ with_name (map_of files) from p
  linked_made from id attributes content is =
      map_is (insert files p (numbered_file id attributes content)) (with_name (map_of files) from p)
      (plain-put files p (numbered_file id attributes content) ∙ ap (λ node. insert (plain_nodes files) p (file (attributes_in node) (bytes_in node))) (sym (get-plain files from ∙ ap (option_map plain_node) is)))
      (kernel_linked (number_at files) (number_at (insert files p (numbered_file id attributes content))) (map_of files).one from p id (pairs_of files)
      (ap number_in is) unnumbered (there (numbered_file id attributes content)) (elsewhere (numbered_file id attributes content)))

  pub below_put : (node : Numbered) (next : ℕ) → AreBelow files next → ((id : ℕ) → number_in (Some node) ≡ Some id → id < next) → AreBelow (insert files p node) next
  below_put node next are is = record { below = λ q id e. at q id e (case_of q p) }
    where
      at : (q : Path) (id : ℕ) → number_at (insert files p node) q ≡ Some id → Case q p → id < next
      at q id e (same here) = is id (sym (there node) ∙ ap (number_at (insert files p node)) (sym here) ∙ e)
      at q id e (other apart) = are.below q id (sym (elsewhere node q apart) ∙ e)

pub below_more : (files : NumberedFiles) (next : ℕ) → AreBelow files next → AreBelow files (next + 1)
below_more files next are = record { below = λ q id e. omega (arith, are.below q id e) }

-- ---- a path that goes

module _ (files : NumberedFiles) (p : Path) where
  pub path_taken : map_of (remove files p) ≡ with_nothing (map_of files) p
  path_taken =
      map_is (remove files p) (with_nothing (map_of files) p) (plain-taken files p)
      (kernel_without (number_at files) (number_at (remove files p)) (map_of files).one p (pairs_of files)
      (ap number_in (taken_there files p)) (λ q apart. ap number_in (taken_elsewhere files p q apart)))

  pub below_taken : (next : ℕ) → AreBelow files next → AreBelow (remove files p) next
  below_taken next are = record { below = λ q id e. at q id e (case_of q p) }
    where
      at : (q : Path) (id : ℕ) → number_at (remove files p) q ≡ Some id → Case q p → id < next
      at q id e (same here) = absurd (not_some id (sym (ap (λ x. number_at (remove files p) x) here ∙ ap number_in (taken_there files p)) ∙ e))
      at q id e (other apart) = are.below q id (sym (ap number_in (taken_elsewhere files p q apart)) ∙ e)

-- ---- other attributes and bytes

same_number : (id : ℕ) (attributes : Attributes) (bytes : List ℕ) (o : Option Numbered) → number_in (option_map (with_bytes_in id attributes bytes) o) ≡ number_in o
same_number id attributes bytes None = refl
same_number id attributes bytes (Some (directory own)) = refl
same_number id attributes bytes (Some (numbered_file i own content)) = refl

-- this file at each path of the one at p
abbrev put_at : NumberedFiles → Path → Attributes → List ℕ → PathMap
put_at files p attributes bytes = record { nodes = with_node_at (paths_of (map_of files).one p) (file attributes bytes) (plain_nodes files); one = (map_of files).one }

-- the map with other attributes, where it is known whether a directory is at p
abbrev attributes_by : NumberedFiles → Path → Attributes → Bool → PathMap
attributes_by files p attributes is_dir = record {
  nodes = if is_dir then insert (plain_nodes files) p (dir attributes)
      else with_node_at (paths_of (map_of files).one p) (file attributes (bytes_at (plain_nodes files) p)) (plain_nodes files);
  one = (map_of files).one;
}

file_not_dir : (files : NumberedFiles) (p : Path) (id : ℕ) → number_at files p ≡ Some id → is_dir_at (plain_nodes files) p ≡ false
file_not_dir files p id is = ap is_a_dir (get-plain files p) ∙ go (get files p) is
  where
    go : (o : Option Numbered) → number_in o ≡ Some id → is_a_dir (option_map plain_node o) ≡ false
    go None e = refl
    go (Some (directory own)) e = absurd (not_some id e)
    go (Some (numbered_file i own content)) e = refl

module _ (files : NumberedFiles) (change : Change) (id : ℕ) (attributes : Attributes) (bytes : List ℕ)
    (each : (e : Path × Numbered) → changed change e ≡ Some (e.0, with_bytes_in id attributes bytes e.1)) where
  at_path : (q : Path) → get (changed_files change files) q ≡ option_map (with_bytes_in id attributes bytes) (get files q)
  at_path q = get-each change (with_bytes_in id attributes bytes) each files q

  pub numbers_stay : (q : Path) → number_at (changed_files change files) q ≡ number_at files q
  numbers_stay q = ap number_in (at_path q) ∙ same_number id attributes bytes (get files q)

  plain_at : (q : Path) → get (plain_nodes (changed_files change files)) q ≡ option_map plain_node (option_map (with_bytes_in id attributes bytes) (get files q))
  plain_at q = get-plain (changed_files change files) q ∙ ap (option_map plain_node) (at_path q)

  -- the map of the files with this file at each path of the one at p
  pub file_set : (p : Path) → number_at files p ≡ Some id → map_of (changed_files change files) ≡ put_at files p attributes bytes
  file_set p is =
      map_is (changed_files change files) (put_at files p attributes bytes)
      (same_nodes _ _ (λ q.
      plain_at q ∙ at q (get files q) refl
      ∙ sym (get-with_node_at (paths_of (map_of files).one p) (file attributes bytes) (plain_nodes files) q
      ∙ ap (λ b. cond b (Some (file attributes bytes)) (get (plain_nodes files) q))
      (paths_of-any (map_of files).one p q ∙ (pairs_of files).each p q ∙ ap (λ x. are_one x (number_at files q)) is))))
      (kernel_same (number_at files) (number_at (changed_files change files)) (map_of files).one numbers_stay (pairs_of files))
    where
      at : (q : Path) (o : Option Numbered) → get files q ≡ o → option_map plain_node (option_map (with_bytes_in id attributes bytes) (get files q)) ≡ cond (are_one (Some id) (number_at files q)) (Some (file attributes bytes)) (get (plain_nodes files) q)
      at q None e = rw (get-plain files q, e) refl
      at q (Some (directory own)) e = rw (get-plain files q, e) refl
      at q (Some (numbered_file i own content)) e = rw (get-plain files q, e) (by_number (i == id) refl)
        where
          by_number : (b : Bool) → (i == id) ≡ b → Some (file (if i == id then attributes else own) (if i == id then bytes else content)) ≡ cond (id == i) (Some (file attributes bytes)) (Some (file own content))
          by_number true f = rw (f, are_one-back (Some id) (Some i) ∙ f) refl
          by_number false f = rw (f, are_one-back (Some id) (Some i) ∙ f) refl

  pub content_set : (p : Path) → number_at files p ≡ Some id → attributes ≡ attributes_at (plain_nodes files) p → map_of (changed_files change files) ≡ with_content (map_of files) p bytes
  content_set p is own = file_set p is ∙ ap (λ (a : Attributes). put_at files p a bytes) own

  pub attributes_set : (p : Path) → number_at files p ≡ Some id → bytes ≡ bytes_at (plain_nodes files) p → map_of (changed_files change files) ≡ with_attributes (map_of files) p attributes
  attributes_set p is own =
      file_set p is ∙ ap (λ (b : List ℕ). put_at files p attributes b) own
      ∙ sym (ap (attributes_by files p attributes) (file_not_dir files p id is))

  pub rooted_set : IsRooted (plain_nodes files) → IsRooted (plain_nodes (changed_files change files))
  rooted_set rooted = rooted_same (plain_nodes files) rooted (plain_nodes (changed_files change files))
      (λ q e. record { attributes = e.attributes; is = plain_at q ∙ dirs e.attributes (get files q) (sym (get-plain files q) ∙ e.is) })
      (λ q e. plain_at q ∙ ap (λ o. option_map plain_node (option_map (with_bytes_in id attributes bytes) o)) (nothing_there files q e))
    where
      dirs : (a : Attributes) (o : Option Numbered) → option_map plain_node o ≡ Some (dir a) → option_map plain_node (option_map (with_bytes_in id attributes bytes) o) ≡ Some (dir a)
      dirs a None e = let wrong : ◌≡◌ {A = Option Node} None (Some (dir a)) = e in absurd (cc)
      dirs a (Some (directory own)) e = e
      dirs a (Some (numbered_file i own content)) e = let wrong : ◌≡◌ {A = Option Node} (Some (file own content)) (Some (dir a)) = e in absurd (cc)

  pub below_set : (next : ℕ) → AreBelow files next → AreBelow (changed_files change files) next
  below_set next are = record { below = λ q i e. are.below q i (sym (numbers_stay q) ∙ e) }

-- at a path of no file
no_paths : (paths : List Path) → ((q : Path) → any_path q paths ≡ false) → paths ≡ []
no_paths [] none = refl
no_paths (p ∷ paths) none = absurd (true≢false (sym (ap (λ b. b || any_path p paths) (same_path-self p)) ∙ none p))

no_paths_there : (files : NumberedFiles) (p : Path) → number_at files p ≡ None → paths_of (map_of files).one p ≡ []
no_paths_there files p none =
    no_paths (paths_of (map_of files).one p) (λ q. paths_of-any (map_of files).one p q ∙ (pairs_of files).each p q ∙ ap (λ x. are_one x (number_at files q)) none)

pub no_content_set : (files : NumberedFiles) (p : Path) (bytes : List ℕ) → number_at files p ≡ None → with_content (map_of files) p bytes ≡ map_of files
no_content_set files p bytes none =
    let made : List Path → PathMap = λ paths. record { nodes = with_node_at paths (file (attributes_at (plain_nodes files) p) bytes) (plain_nodes files); one = (map_of files).one } in
    ap made (no_paths_there files p none)

pub no_attributes_set : (files : NumberedFiles) (p : Path) (attributes : Attributes) → is_dir_at (plain_nodes files) p ≡ false → number_at files p ≡ None → with_attributes (map_of files) p attributes ≡ map_of files
no_attributes_set files p attributes not_dir none =
    let made : List Path → PathMap = λ paths. record { nodes = with_node_at paths (file attributes (bytes_at (plain_nodes files) p)) (plain_nodes files); one = (map_of files).one } in
    ap (attributes_by files p attributes) not_dir ∙ ap made (no_paths_there files p none)

-- ---- other attributes of a directory

module _ (files : NumberedFiles) (p : Path) (attributes : Attributes) (is_dir : is_dir_at (plain_nodes files) p ≡ true) where
  dir_unnumbered : number_at files p ≡ None
  dir_unnumbered = go (get files p) (sym (ap is_a_dir (get-plain files p)) ∙ is_dir)
    where
      go : (o : Option Numbered) → is_a_dir (option_map plain_node o) ≡ true → number_in o ≡ None
      go None e = refl
      go (Some (directory own)) e = refl
      go (Some (numbered_file i own content)) e = absurd (true≢false (sym e))

  dir_numbers : (q : Path) → number_at (insert files p (directory attributes)) q ≡ number_at files q
  dir_numbers q = at (case_of q p)
    where
      at : Case q p → number_at (insert files p (directory attributes)) q ≡ number_at files q
      at (same e) = rw e (ap number_in (put_there files p (directory attributes)) ∙ sym dir_unnumbered)
      at (other apart) = ap number_in (put_elsewhere files p (directory attributes) q apart)

  pub dir_set : map_of (insert files p (directory attributes)) ≡ with_attributes (map_of files) p attributes
  dir_set =
      map_is (insert files p (directory attributes)) (attributes_by files p attributes true) (plain-put files p (directory attributes))
      (kernel_same (number_at files) (number_at (insert files p (directory attributes))) (map_of files).one dir_numbers (pairs_of files))
      ∙ sym (ap (attributes_by files p attributes) is_dir)

  pub dir_rooted : IsRooted (plain_nodes files) → IsRooted (plain_nodes (insert files p (directory attributes)))
  dir_rooted rooted = rooted_same (plain_nodes files) rooted (plain_nodes (insert files p (directory attributes)))
      (λ q e. dirs q e (case_of q p)) (λ q e. none q e (case_of q p))
    where
      got : (q : Path) → get (plain_nodes (insert files p (directory attributes))) q ≡ get (insert (plain_nodes files) p (dir attributes)) q
      got q = ap (λ (nodes : Nodes). get nodes q) (plain-put files p (directory attributes))

      dirs : (q : Path) → IsDirAt (plain_nodes files) q → Case q p → IsDirAt (plain_nodes (insert files p (directory attributes))) q
      dirs q e (same here) = record {
        attributes = attributes;
        is = got q ∙ rw here (put_there (plain_nodes files) p (dir attributes));
      }
      dirs q e (other apart) = record {
        attributes = e.attributes;
        is = got q ∙ put_elsewhere (plain_nodes files) p (dir attributes) q apart ∙ e.is;
      }

      none : (q : Path) → get (plain_nodes files) q ≡ None → Case q p → get (plain_nodes (insert files p (directory attributes))) q ≡ None
      none q e (same here) = absurd (true≢false (sym is_dir ∙ ap (λ x. is_dir_at (plain_nodes files) x) (sym here) ∙ ap is_a_dir e))
      none q e (other apart) = got q ∙ put_elsewhere (plain_nodes files) p (dir attributes) q apart ∙ e

  pub dir_below : (next : ℕ) → AreBelow files next → AreBelow (insert files p (directory attributes)) next
  dir_below next are = record { below = λ q i e. are.below q i (sym (dir_numbers q) ∙ e) }

-- ---- paths that move

module _ (files : NumberedFiles) (rooted : IsRooted (plain_nodes files)) (p q : Path) (moves : Moves (plain_nodes files) p q) where
  empty : (n : Name) (s : Path) → get files (q ++ n ∷ s) ≡ None
  empty n s = nothing_there files (q ++ n ∷ s) (deep_none (plain_nodes files) rooted q moves.empty n s)

  numbers_move : (r : Path) → number_at (moved p q files) r ≡ option_and_then (number_at files) (before_move p q r)
  numbers_move r = ap number_in (get-moved p q files moves.apart empty r) ∙ go (rest_below q r) refl (rest_below p r) refl
    where
      go : (x : Option Path) → rest_below q r ≡ x → (y : Option Path) → rest_below p r ≡ y → number_in (after_move p q files r) ≡ option_and_then (number_at files) (before_move p q r)
      go (Some rest) e y f = rw e refl
      go None e (Some rest) f = rw (e, f) refl
      go None e None f = rw (e, f) refl

  pub paths_moved : map_of (moved p q files) ≡ with_moved (map_of files) p q
  paths_moved =
      map_is (moved p q files) (with_moved (map_of files) p q) (plain-moved p q files)
      (kernel_moved p q moves.apart (number_at files) (number_at (moved p q files)) (map_of files).one (pairs_of files)
      (λ n s. ap number_in (empty n s)) numbers_move)

  pub below_moved : (next : ℕ) → AreBelow files next → AreBelow (moved p q files) next
  below_moved next are = record { below = λ r id e. at id (before_move p q r) (sym (numbers_move r) ∙ e) }
    where
      at : (id : ℕ) (from : Option Path) → option_and_then (number_at files) from ≡ Some id → id < next
      at id None e = absurd (not_some id e)
      at id (Some path) e = are.below path id e

-- ---- the root directory alone

empty_plain : plain_nodes finite.empty ≡ finite.empty
empty_plain = same_nodes _ _ (λ q. get-plain finite.empty q ∙ ap (option_map plain_node) (get-empty path_cmp q) ∙ sym (get-empty path_cmp q))

root_unnumbered : (p : Path) → number_at root_alone p ≡ None
root_unnumbered p = go (case_of p [])
  where
    go : Case p [] → number_at root_alone p ≡ None
    go (same e) = rw e (ap number_in (put_there finite.empty [] (directory no_attributes)))
    go (other apart) = ap number_in (put_elsewhere finite.empty [] (directory no_attributes) p apart ∙ get-empty path_cmp p)

pub root_map : map_of root_alone ≡ empty_map
root_map =
    map_is root_alone empty_map (plain-put finite.empty [] (directory no_attributes) ∙ ap (λ (nodes : Nodes). insert nodes [] (dir no_attributes)) empty_plain)
    (record { each = λ p q. contains-empty pair_cmp (p, q) ∙ sym (ap (λ x. are_one x (number_at root_alone q)) (root_unnumbered p)) })

pub root_rooted : IsRooted (plain_nodes root_alone)
root_rooted = record {
  root = record { attributes = no_attributes; is = get-plain root_alone [] ∙ ap (option_map plain_node) (put_there finite.empty [] (directory no_attributes)) };
  parents = λ path name node e. at path name node e;
}
  where
    at : (path : Path) (name : Name) (node : Node) → get (plain_nodes root_alone) (path ++ name ∷ []) ≡ Some node → IsDirAt (plain_nodes root_alone) path
    at path name node e =
        let nothing : get (plain_nodes root_alone) (path ++ name ∷ []) ≡ None =
        get-plain root_alone (path ++ name ∷ []) ∙ ap (option_map plain_node) (put_elsewhere finite.empty [] (directory no_attributes) (path ++ name ∷ []) (not_empty_path path name) ∙ get-empty path_cmp (path ++ name ∷ [])) in
        let wrong : ◌≡◌ {A = Option Node} None (Some node) = sym nothing ∙ e in absurd (cc)

pub root_below : (next : ℕ) → AreBelow root_alone next
root_below next = record { below = λ path id e. absurd (not_some id (sym (root_unnumbered path) ∙ e)) }
