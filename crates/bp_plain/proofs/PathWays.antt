-- Entries of a map in the order of their paths, and the way from the root to a path.
use Rattle.std.proofs.Common.{◌≡◌, ◌&&◌, Bool, true, false, cond, T, List, [], ◌∷◌, ◌++◌, None, Some, is_some, refl, sym, ◌∙◌, ap, subst, true≢false, append_assoc, Ordering, Less, Equal, Greater}
use Rattle.std.specs.Option.{is_none}
use Rattle.std.specs.List.{list_all}
use Rattle.std.specs.Ordering.{is_eq, is_lt, eq_by_cmp, ordering_reverse}
use Rattle.std.specs.Cmp.{tied_itself}
use Rattle.std.specs.Cmp.Lexicographic.{nat_list_cmp_total}
use Rattle.std.specs.FinMap.{get, insert, entries, entries_sorted, get-entries, get-insert}
use Rattle.std.specs.FinMap.Entries.{below_all, find, is_sorted}
use Rattle.bp_layout.specs.Paths.{Name, Path, Node, is_name}
use Rattle.bp_layout.specs.Paths.Node.{dir}
use Rattle.bp_plain.specs.Plain.{first_refusal_from, parent_of, walk, walk_parent}
use Rattle.bp_plain.specs.PlainTree.{IsDirAt, IsPathMap, Nodes, PathMap, path_cmp}
use Rattle.bp_plain.proofs.PathOrder.{path_cmp-IsTotalOrder}
use Rattle.bp_plain.proofs.PathTexts.{both_true, name_passes}

abbrev pub Entry : Type 0
Entry = Path × Node

pub less_than : (r : Ordering) → T (is_lt r) → r ≡ Less
less_than Less low = refl
less_than Equal low = absurd low
less_than Greater low = absurd low

pub is_less : (r : Ordering) → r ≡ Less → T (is_lt r)
is_less Less e = tt
is_less Equal e = absurd (true≢false (ap is_eq e))
is_less Greater e = absurd (true≢false (ap is_lt (sym e)))

pub both_hold : (a b : Bool) → T a → T b → T (a && b)
both_hold true b one two = two
both_hold false b one two = one

pub left_holds : (a b : Bool) → T (a && b) → T a
left_holds true b both = tt
left_holds false b both = both

pub right_holds : (a b : Bool) → T (a && b) → T b
right_holds true b both = both
right_holds false b both = absurd both

-- a path below all of these is none of them
pub find_below : (q : Path) (es : List Entry) → T (below_all path_cmp q es) → find path_cmp q es ≡ None
find_below q [] below = refl
find_below q (e ∷ es) below = rw (less_than (path_cmp q e.0) (left_holds _ _ below)) (find_below q es (right_holds _ _ below))

-- what is below the first is below all
pub below_further : (p q : Path) (es : List Entry) → path_cmp p q ≡ Less → T (below_all path_cmp q es) → T (below_all path_cmp p es)
below_further p q [] low below = tt
below_further p q (e ∷ es) low below =
    both_hold _ _ (is_less _ (path_cmp-IsTotalOrder.trans p q e.0 low (less_than _ (left_holds _ _ below)))) (below_further p q es low (right_holds _ _ below))

-- what is found in the one part or in the other
pub find_prefix : (q : Path) (xs ys : List Entry) → T (below_all path_cmp q ys) → find path_cmp q (xs ++ ys) ≡ find path_cmp q xs
find_prefix q [] ys below = find_below q ys below
find_prefix q (x ∷ xs) ys below = go (eq_by_cmp path_cmp q x.0) (find_prefix q xs ys below)
  where
    go : (b : Bool) → find path_cmp q (xs ++ ys) ≡ find path_cmp q xs → cond b (Some x.1) (find path_cmp q (xs ++ ys)) ≡ cond b (Some x.1) (find path_cmp q xs)
    go true rest = refl
    go false rest = rest

pub find_back : (q : Path) (xs ys : List Entry) → find path_cmp q xs ≡ None → find path_cmp q (xs ++ ys) ≡ find path_cmp q ys
find_back q [] ys none = refl
find_back q (x ∷ xs) ys none = go (eq_by_cmp path_cmp q x.0) none (λ n. find_back q xs ys n)
  where
    go : (b : Bool) → cond b (Some x.1) (find path_cmp q xs) ≡ None → (find path_cmp q xs ≡ None → find path_cmp q (xs ++ ys) ≡ find path_cmp q ys) → cond b (Some x.1) (find path_cmp q (xs ++ ys)) ≡ find path_cmp q ys
    go true some rest = absurd (true≢false (ap is_some some))
    go false none rest = rest none

-- an entry in the middle: it is below all after it, and none before it is at its path
pub below_back : (xs : List Entry) (e : Entry) (ys : List Entry) → T (is_sorted path_cmp (xs ++ e ∷ ys)) → T (below_all path_cmp e.0 ys)
below_back [] e ys sorted = left_holds _ _ sorted
below_back (x ∷ xs) e ys sorted = below_back xs e ys (right_holds _ _ sorted)

pub below_middle : (q : Path) (xs : List Entry) (e : Entry) (ys : List Entry) → T (below_all path_cmp q (xs ++ e ∷ ys)) → path_cmp q e.0 ≡ Less
below_middle q [] e ys below = less_than _ (left_holds _ _ below)
below_middle q (x ∷ xs) e ys below = below_middle q xs e ys (right_holds _ _ below)

pub new_path : (xs : List Entry) (e : Entry) (ys : List Entry) → T (is_sorted path_cmp (xs ++ e ∷ ys)) → find path_cmp e.0 xs ≡ None
new_path [] e ys sorted = refl
new_path (x ∷ xs) e ys sorted =
    let greater : path_cmp e.0 x.0 ≡ Greater = path_cmp-IsTotalOrder.antisymm e.0 x.0 ∙ ap ordering_reverse (below_middle x.0 xs e ys (left_holds _ _ sorted)) in
    rw greater (new_path xs e ys (right_holds _ _ sorted))

-- so it is found
pub entry_there : (nodes : Nodes) (before : List Entry) (e : Entry) (after : List Entry) → entries nodes ≡ before ++ e ∷ after → get nodes e.0 ≡ Some e.1
entry_there nodes before e after are =
    get-entries nodes e.0 ∙ ap (find path_cmp e.0) are
    ∙ find_back e.0 before (e ∷ after) (new_path before e after (subst (λ es. T (is_sorted path_cmp es)) are (entries_sorted nodes)))
    ∙ ap (λ r. cond (is_eq r) (Some e.1) (find path_cmp e.0 after)) (tied_itself path_cmp-IsTotalOrder e.0)

-- a path is below those that go on from it
pub below_longer : (p : Path) (name : Name) (rest : Path) → path_cmp p (p ++ name ∷ rest) ≡ Less
below_longer [] name rest = refl
below_longer (x ∷ p) name rest = rw (tied_itself nat_list_cmp_total x) (below_longer p name rest)

-- ---- the way to a path

-- there is a directory at each path above
abbrev pub HasWay : Nodes → Path → Type 0
HasWay nodes path = (p : Path) (name : Name) (rest : Path) → path ≡ p ++ name ∷ rest → IsDirAt nodes p

pub map_has_way : (map : PathMap) → IsPathMap map → (path : Path) (node : Node) → get map.nodes path ≡ Some node → HasWay map.nodes path
map_has_way map is path node at p name rest cut = go p name rest node (ap (get map.nodes) (sym cut) ∙ at)
  where
    go : (p : Path) (name : Name) (rest : Path) (node : Node) → get map.nodes (p ++ name ∷ rest) ≡ Some node → IsDirAt map.nodes p
    go p name [] node there = is.parents p name node there
    go p name (other ∷ rest) node there =
        let next : IsDirAt map.nodes (p ++ name ∷ []) = go (p ++ name ∷ []) other rest node (ap (get map.nodes) (append_assoc p (name ∷ []) (other ∷ rest)) ∙ there) in
        is.parents p name (dir next.attributes) next.is

-- each name of a path that is there can be spelled
pub all_named : (map : PathMap) → IsPathMap map → (path : Path) (node : Node) → get map.nodes path ≡ Some node → list_all is_name path ≡ true
all_named map is path node at = go [] path refl
  where
    way : HasWay map.nodes path
    way = map_has_way map is path node at

    here : (prefix : Path) (name : Name) (rest : Path) → path ≡ prefix ++ name ∷ rest → is_name name ≡ true
    here prefix name [] cut = name_passes name (is.names prefix name node (ap (get map.nodes) (sym cut) ∙ at))
    here prefix name (other ∷ rest) cut =
        let next : IsDirAt map.nodes (prefix ++ name ∷ []) = way (prefix ++ name ∷ []) other rest (cut ∙ sym (append_assoc prefix (name ∷ []) (other ∷ rest))) in
        name_passes name (is.names prefix name (dir next.attributes) next.is)

    go : (prefix rest : Path) → path ≡ prefix ++ rest → list_all is_name rest ≡ true
    go prefix [] cut = refl
    go prefix (name ∷ rest) cut = both_true _ _ (here prefix name rest cut) (go (prefix ++ name ∷ []) rest (cut ∙ sym (append_assoc prefix (name ∷ []) rest)))

pub walks : (nodes : Nodes) (path : Path) (node : Node) → HasWay nodes path → get nodes path ≡ Some node → walk nodes path ≡ None
walks nodes path node way at = go [] path refl
  where
    there : (here : Path) (name : Name) (rest : Path) → path ≡ here ++ name ∷ rest → is_none (get nodes (here ++ name ∷ [])) ≡ false
    there here name [] cut = ap (λ p. is_none (get nodes p)) (sym cut) ∙ ap is_none at
    there here name (other ∷ rest) cut = ap is_none (way (here ++ name ∷ []) other rest (cut ∙ sym (append_assoc here (name ∷ []) (other ∷ rest)))).is

    go : (here rest : Path) → path ≡ here ++ rest → first_refusal_from nodes here rest ≡ None
    go here [] cut = refl
    go here (name ∷ rest) cut =
        rw ((way here name rest cut).is, there here name rest cut, go (here ++ name ∷ []) rest (cut ∙ sym (append_assoc here (name ∷ []) rest))) refl

-- a path without its last name, and that name
parent_cut : (name : Name) (path : Path) → (last : Name) × (name ∷ path ≡ parent_of (name ∷ path) ++ last ∷ [])
parent_cut name [] = (name, refl)
parent_cut name (other ∷ path) = let rest = parent_cut other path in (rest.0, ap (λ p. name ∷ p) rest.1)

pub walks_parent : (nodes : Nodes) (name : Name) (path : Path) → HasWay nodes (name ∷ path) → walk_parent nodes (name ∷ path) ≡ None
walks_parent nodes name path way =
    let cut = parent_cut name path in
    let here : IsDirAt nodes (parent_of (name ∷ path)) = way (parent_of (name ∷ path)) cut.0 [] cut.1 in
    let above : HasWay nodes (parent_of (name ∷ path)) = λ p n rest is. way p n (rest ++ cut.0 ∷ []) (cut.1 ∙ ap (λ x. x ++ cut.0 ∷ []) is ∙ append_assoc p (n ∷ rest) (cut.0 ∷ [])) in
    rw (walks nodes (parent_of (name ∷ path)) (dir here.attributes) above here.is, here.is) refl

-- a node at the path itself is none above it
pub insert_keeps_way : (nodes : Nodes) (path : Path) (node : Node) → HasWay nodes path → HasWay (insert nodes path node) path
insert_keeps_way nodes path node way p name rest cut =
    let other : eq_by_cmp path_cmp p path ≡ false = ap (λ q. is_eq (path_cmp p q)) cut ∙ ap is_eq (below_longer p name rest) in
    let here : IsDirAt nodes p = way p name rest cut in
    record {
      attributes = here.attributes;
      is = get-insert path_cmp-IsTotalOrder nodes path node p ∙ ap (λ b. cond b (Some node) (get nodes p)) other ∙ here.is;
    }

pub get_inserted : (nodes : Nodes) (path : Path) (node : Node) → get (insert nodes path node) path ≡ Some node
get_inserted nodes path node = get-insert path_cmp-IsTotalOrder nodes path node path ∙ ap (λ r. cond (is_eq r) (Some node) (get nodes path)) (tied_itself path_cmp-IsTotalOrder path)
