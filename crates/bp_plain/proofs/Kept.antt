-- A map from lists of names to nodes as a plain tree.
use Rattle.std.proofs.Common.{◌≡◌, ◌&&◌, cond, not, ℕ, List, [], ◌∷◌, Bool, true, false, map, Option, None, Some, refl, sym, ◌∙◌, ap, subst, length, Bor, ◌++◌, ap₂, append_assoc}
use Rattle.std.proofs.lemmas.List.{map-append}
use lib.Dec.{T}
use Rattle.std.specs.Option.{option_map, option_copied}
use Rattle.std.specs.List.{filter_map, AllZip}
use Rattle.std.specs.Ordering.{nat_cmp, is_eq, is_lt, ordering_then, eq_by_cmp}
use Rattle.std.specs.declared.cmp.Ordering.{Ordering}
use Rattle.std.specs.declared.cmp.Ordering.TheVariants.{Less, Equal, Greater}
use Rattle.std.specs.Cmp.Lexicographic.{slice_cmp}
use Rattle.std.specs.Global.{Vec}
use Rattle.std.specs.BTreeMap.{insert_entry, is_at}
use Rattle.std.specs.Cmp.{alike_right, eq_by_cmp_equiv}
use Rattle.std.specs.Map.{lookup, remove_entry}
use Rattle.std.specs.FinMap.{get, empty, insert, remove, entries, from_sorted, get-from_sorted, get-remove, entries-from_sorted, entries-insert, same_entries_map, same_map, empty_of_len, len-entries}
use Rattle.std.specs.FinMap.Entries.{below_all, find, find-where_key, put, is_sorted, is_sorted-put, is_sorted-where_key, where_key}
use Rattle.arrayvec.specs.ArrayVec.{ArrayVec}
use Rattle.bp_layout.specs.declared.fields.Kind.{Kind}
use Rattle.bp_layout.specs.Paths.{rest_below, Name, Path}
use Rattle.bp_layout.specs.Listing.{listed}
use Rattle.bp_plain.specs.Numbered.{Numbered, plain_entry, plain_node}
use Rattle.bp_plain.specs.declared.trees.entries.Node.{Node as Kept}
use Rattle.bp_plain.specs.Plain.{kind_of_node, listed_in, only_name}
use Rattle.bp_plain.specs.PlainTree.{path_cmp}
use Rattle.bp_plain.specs.SeenTree.{names_of, numbered, node_seen, entry_kept}
use Rattle.bp_plain.proofs.PathOrder.{path_cmp-IsAntisymmetric, path_cmp-IsTotalOrder}

-- the order of names and of paths in a program
abbrev pub name_order : ArrayVec ℕ → ArrayVec ℕ → Ordering
name_order a b = slice_cmp nat_cmp a.items b.items

abbrev pub key_order : Vec (ArrayVec ℕ) → Vec (ArrayVec ℕ) → Ordering
key_order a b = slice_cmp name_order a.items b.items

-- is that of the definitions
pub order_seen : (a b : List (ArrayVec ℕ)) → slice_cmp name_order a b ≡ path_cmp (names_of a) (names_of b)
order_seen [] [] = refl
order_seen [] (y ∷ ys) = refl
order_seen (x ∷ xs) [] = refl
order_seen (x ∷ xs) (y ∷ ys) = ap (ordering_then (name_order x y)) (order_seen xs ys)

-- so a path finds the same node
pub find_seen : (path : List (ArrayVec ℕ)) (es : List (Vec (ArrayVec ℕ) × Kept)) →
    find path_cmp (names_of path) (map entry_kept es) ≡ option_map numbered (lookup (is_at (λ key. slice_cmp name_order path key.items)) es)
find_seen path [] = refl
find_seen path (e ∷ es) = go (is_eq (slice_cmp name_order path e.0.items)) refl (find_seen path es)
  where
    go : (b : Bool) → is_eq (slice_cmp name_order path e.0.items) ≡ b → find path_cmp (names_of path) (map entry_kept es) ≡ option_map numbered (lookup (is_at (λ key. slice_cmp name_order path key.items)) es) →
        find path_cmp (names_of path) (map entry_kept (e ∷ es)) ≡ option_map numbered (lookup (is_at (λ key. slice_cmp name_order path key.items)) (e ∷ es))
    go true at rest = rw (sym (ap is_eq (order_seen path e.0.items)) ∙ at, at) refl
    go false at rest = rw (sym (ap is_eq (order_seen path e.0.items)) ∙ at, at) rest

pub passes : {b : Bool} → b ≡ true → T b
passes e = subst T (sym e) tt

pub get_seen : (path : List (ArrayVec ℕ)) (es : List (Vec (ArrayVec ℕ) × Kept)) → is_sorted path_cmp (map entry_kept es) ≡ true →
    get (from_sorted {R = path_cmp} (map entry_kept es)) (names_of path) ≡ option_map numbered (lookup (is_at (λ key. slice_cmp name_order path key.items)) es)
get_seen path es sorted = get-from_sorted path_cmp (map entry_kept es) (names_of path) (passes sorted) ∙ find_seen path es

-- a node that comes in
pub put_seen : (es : List (Vec (ArrayVec ℕ) × Kept)) (key : Vec (ArrayVec ℕ)) (node : Kept) →
    map entry_kept (insert_entry key_order es key node) ≡ put path_cmp (names_of key.items) (numbered node) (map entry_kept es)
put_seen [] key node = refl
put_seen (e ∷ es) key node = go (key_order key e.0) refl (put_seen es key node)
  where
    go : (r : Ordering) → key_order key e.0 ≡ r → map entry_kept (insert_entry key_order es key node) ≡ put path_cmp (names_of key.items) (numbered node) (map entry_kept es) →
        map entry_kept (insert_entry key_order (e ∷ es) key node) ≡ put path_cmp (names_of key.items) (numbered node) (map entry_kept (e ∷ es))
    go Less at rest = rw (sym (order_seen key.items e.0.items) ∙ at, at) refl
    go Equal at rest = rw (sym (order_seen key.items e.0.items) ∙ at, at) refl
    go Greater at rest = rw (sym (order_seen key.items e.0.items) ∙ at, at) (ap (λ es. entry_kept e ∷ es) rest)

true_from : (b : Bool) → T b → b ≡ true
true_from true t = refl
true_from false t = absurd t

pub left_holds : (a b : Bool) → T (a && b) → T a
left_holds true b both = tt
left_holds false b both = both

pub right_holds : (a b : Bool) → T (a && b) → T b
right_holds true b both = both
right_holds false b both = absurd both

pub less_than : (r : Ordering) → T (is_lt r) → r ≡ Less
less_than Less low = refl
less_than Equal low = absurd low
less_than Greater low = absurd low

module _ (old : List (Vec (ArrayVec ℕ) × Kept)) (sorted : is_sorted path_cmp (map entry_kept old) ≡ true) (key : Vec (ArrayVec ℕ)) (node : Kept)
    (new : List (Vec (ArrayVec ℕ) × Kept)) (is : new ≡ insert_entry key_order old key node) where
  -- the order stays
  pub sorted_after : is_sorted path_cmp (map entry_kept new) ≡ true
  sorted_after =
      ap (is_sorted path_cmp) (ap (map entry_kept) is ∙ put_seen old key node)
      ∙ true_from _ (is_sorted-put path_cmp path_cmp-IsTotalOrder (names_of key.items) (numbered node) (map entry_kept old) (passes sorted))

  -- and the tree gains the node
  pub tree_after_put : from_sorted {R = path_cmp} (map entry_kept new) ≡ insert (from_sorted {R = path_cmp} (map entry_kept old)) (names_of key.items) (numbered node)
  tree_after_put =
      same_entries_map _ _
      (entries-from_sorted path_cmp (map entry_kept new) (passes sorted_after) ∙ ap (map entry_kept) is ∙ put_seen old key node
      ∙ ap (put path_cmp (names_of key.items) (numbered node)) (sym (entries-from_sorted path_cmp (map entry_kept old) (passes sorted)))
      ∙ sym (entries-insert path_cmp-IsTotalOrder (from_sorted {R = path_cmp} (map entry_kept old)) (names_of key.items) (numbered node)))

-- ---- a node that goes

-- entries after a key are not those of the key
others_kept : (k x : Path) (es : List (Path × Numbered)) → path_cmp k x ≡ Equal → T (below_all path_cmp x es) → where_key path_cmp (λ y. not (eq_by_cmp path_cmp k y)) es ≡ es
others_kept k x [] tied below = refl
others_kept k x (e ∷ es) tied below =
    let less = less_than (path_cmp x e.0) (left_holds _ _ below) in
    let other : eq_by_cmp path_cmp k e.0 ≡ false = ap is_eq (path_cmp-IsTotalOrder.congr k x e.0 tied ∙ less) in
    rw other (ap (λ es. e ∷ es) (others_kept k x es tied (right_holds _ _ below)))

pub remove_seen : (path : List (ArrayVec ℕ)) (es : List (Vec (ArrayVec ℕ) × Kept)) → T (is_sorted path_cmp (map entry_kept es)) →
    map entry_kept (remove_entry (is_at (λ key. slice_cmp name_order path key.items)) es) ≡ where_key path_cmp (λ y. not (eq_by_cmp path_cmp (names_of path) y)) (map entry_kept es)
remove_seen path [] sorted = refl
remove_seen path (e ∷ es) sorted = go (slice_cmp name_order path e.0.items) refl (remove_seen path es (right_holds _ _ sorted))
  where
    go : (r : Ordering) → slice_cmp name_order path e.0.items ≡ r →
        map entry_kept (remove_entry (is_at (λ key. slice_cmp name_order path key.items)) es) ≡ where_key path_cmp (λ y. not (eq_by_cmp path_cmp (names_of path) y)) (map entry_kept es) →
        map entry_kept (remove_entry (is_at (λ key. slice_cmp name_order path key.items)) (e ∷ es)) ≡ where_key path_cmp (λ y. not (eq_by_cmp path_cmp (names_of path) y)) (map entry_kept (e ∷ es))
    go Less at rest = rw (sym (order_seen path e.0.items) ∙ at, at) (ap (λ es. entry_kept e ∷ es) rest)
    go Equal at rest = rw (sym (order_seen path e.0.items) ∙ at, at) (sym (others_kept (names_of path) (names_of e.0.items) (map entry_kept es) (sym (order_seen path e.0.items) ∙ at) (left_holds _ _ sorted)))
    go Greater at rest = rw (sym (order_seen path e.0.items) ∙ at, at) (ap (λ es. entry_kept e ∷ es) rest)

module _ (old : List (Vec (ArrayVec ℕ) × Kept)) (sorted : is_sorted path_cmp (map entry_kept old) ≡ true) (path : List (ArrayVec ℕ))
    (new : List (Vec (ArrayVec ℕ) × Kept)) (is : new ≡ remove_entry (is_at (λ key. slice_cmp name_order path key.items)) old) where
  left : map entry_kept new ≡ where_key path_cmp (λ y. not (eq_by_cmp path_cmp (names_of path) y)) (map entry_kept old)
  left = ap (map entry_kept) is ∙ remove_seen path old (passes sorted)

  -- the order stays
  pub sorted_without : is_sorted path_cmp (map entry_kept new) ≡ true
  sorted_without =
      ap (is_sorted path_cmp) left ∙ true_from _ (is_sorted-where_key path_cmp (λ y. not (eq_by_cmp path_cmp (names_of path) y)) (map entry_kept old) (passes sorted))

  -- and the tree loses the node
  pub tree_without : from_sorted {R = path_cmp} (map entry_kept new) ≡ remove (from_sorted {R = path_cmp} (map entry_kept old)) (names_of path)
  tree_without = same_map path_cmp-IsTotalOrder path_cmp-IsAntisymmetric _ _ at
    where
      turned : (b : Bool) (found : Option Numbered) → cond (not b) found None ≡ cond b None found
      turned true found = refl
      turned false found = refl

      at : (q : Path) → get (from_sorted {R = path_cmp} (map entry_kept new)) q ≡ get (remove (from_sorted {R = path_cmp} (map entry_kept old)) (names_of path)) q
      at q =
          get-from_sorted path_cmp (map entry_kept new) q (passes sorted_without) ∙ ap (find path_cmp q) left
          ∙ find-where_key path_cmp (λ y. not (eq_by_cmp path_cmp (names_of path) y)) q (λ x tied. ap (λ r. not (is_eq r)) (sym (alike_right path_cmp-IsTotalOrder q x (names_of path) tied))) (map entry_kept old)
          ∙ turned (eq_by_cmp path_cmp (names_of path) q) _
          ∙ ap₂ (λ b found. cond b None found) ((eq_by_cmp_equiv path_cmp-IsTotalOrder).symm (names_of path) q) (sym (get-from_sorted path_cmp (map entry_kept old) q (passes sorted)))
          ∙ sym (get-remove path_cmp-IsTotalOrder (from_sorted {R = path_cmp} (map entry_kept old)) (names_of path) q)

pub no_entries : (es : List (Vec (ArrayVec ℕ) × Kept)) → es ≡ [] → from_sorted {R = path_cmp} (map entry_kept es) ≡ empty
no_entries es is = ap (λ xs. from_sorted {R = path_cmp} (map entry_kept xs)) is ∙ empty_of_len _ (len-entries _ ∙ ap length (entries-from_sorted path_cmp [] tt))

pub all_entries : (es : List (Vec (ArrayVec ℕ) × Kept)) → is_sorted path_cmp (map entry_kept es) ≡ true → entries (from_sorted {R = path_cmp} (map entry_kept es)) ≡ map entry_kept es
all_entries es sorted = entries-from_sorted path_cmp (map entry_kept es) (passes sorted)

-- a node after a reference
pub node_of_reference : (found : Option (Bor Kept)) → option_map (λ node. numbered node.now) found ≡ option_map numbered (option_copied found)
node_of_reference None = refl
node_of_reference (Some node) = refl

-- ---- the rows of a listing

abbrev pub rows : List (ArrayVec ℕ) → List (Vec (ArrayVec ℕ) × Kept) → List (Kind × Name)
rows dir es = filter_map (listed_in (names_of dir)) (map plain_entry (map entry_kept es))

-- a further row, which was found
pub row_found : (dir : List (ArrayVec ℕ)) (e : Vec (ArrayVec ℕ) × Kept) (rest left : List (Vec (ArrayVec ℕ) × Kept)) (before after : List (Kind × ArrayVec ℕ)) (kind : Kind) (copy : ArrayVec ℕ) (name : Name) (whole : List (Kind × Name)) →
    left ≡ e ∷ rest → Some name ≡ only_name (rest_below (names_of dir) (names_of e.0.items)) → after ≡ before ++ (kind, copy) ∷ [] → copy.items ≡ name → kind ≡ kind_of_node (node_seen e.1) →
    listed before ++ rows dir left ≡ whole → listed after ++ rows dir rest ≡ whole
row_found dir e rest left before after kind copy name whole is found more same kinds so_far =
    let here : rows dir (e ∷ rest) ≡ (kind_of_node (node_seen e.1), name) ∷ rows dir rest = rw (sym found) refl in
    ap (λ x. listed x ++ rows dir rest) more
    ∙ ap (λ x. x ++ rows dir rest) (map-append (λ entry. (entry.0, entry.1.items)) before ((kind, copy) ∷ []))
    ∙ append_assoc (listed before) ((kind, copy.items) ∷ []) (rows dir rest)
    ∙ ap₂ (λ k n. listed before ++ (k, n) ∷ rows dir rest) kinds same
    ∙ ap (λ x. listed before ++ x) (sym here) ∙ ap (λ es. listed before ++ rows dir es) (sym is) ∙ so_far

pub same_bytes : (xs ys : List ℕ) → AllZip (λ x y. y ≡ x) xs ys → ys ≡ xs
same_bytes [] [] all = refl
same_bytes [] (y ∷ ys) all = absurd all
same_bytes (x ∷ xs) [] all = absurd all
same_bytes (x ∷ xs) (y ∷ ys) all = ap₂ (λ a b. a ∷ b) all.0 (same_bytes xs ys all.1)

-- a node after a reference, without its number
pub plain_of_reference : (found : Option (Bor Kept)) → option_map (λ node. node_seen node.now) found ≡ option_map plain_node (option_map (λ node. numbered node.now) found)
plain_of_reference None = refl
plain_of_reference (Some node) = refl
