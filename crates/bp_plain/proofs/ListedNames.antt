-- The names that a plain tree lists in a directory: they are in order, and a name is among them where the tree has it. Items
-- under such names, once they are sorted, are the listing. What stands beside a name is left open: its kind, or nothing.
use Rattle.std.proofs.Common.{◌≡◌, ℕ, zero, suc, ◌+◌, ◌<◌, List, [], ◌∷◌, ◌++◌, map, length, Bool, true, false, cond, ◌&&◌, T, Option, None, Some, filter_map, refl, sym, ◌∙◌, ap, ap₂, subst, arith, add-one, true≢false, IsPermutation, IsSortedBy, Contains, get_or}
use Rattle.std.specs.Option.{option_map}
use Rattle.std.specs.List.{IsDistinct, AllByRecursion}
use Rattle.std.specs.declared.cmp.Ordering.{Ordering}
use Rattle.std.specs.declared.cmp.Ordering.TheVariants.{Less, Equal, Greater}
use Rattle.std.specs.Ordering.{nat_cmp, eq_by_cmp, is_eq, is_lt, ordering_then, ordering_reverse}
use Rattle.std.specs.Cmp.{eq_by_cmp_equiv, Equal-is}
use Rattle.std.specs.Cmp.Lexicographic.{slice_cmp, nat_list_cmp_total}
use Rattle.std.specs.FinMap.{IsAntisymmetric, entries, entries_sorted, get, get-entries, nat_cmp-IsAntisymmetric, slice_cmp-IsAntisymmetric}
use Rattle.std.specs.FinMap.Entries.{below_all, find, is_sorted, same_entries}
use Rattle.std.proofs.lemmas.Cmp.{tied_itself}
use Rattle.std.proofs.lemmas.List.Sorted.{Contains-permutation, IsPermutation-map, IsPermutation-sym, ranks_by, sorted_far}
use Rattle.std.proofs.lemmas.Map.Keys.{IsDistinct-IsPermutation}
use Rattle.bp_layout.specs.Paths.{rest_below, Name, Node, Path}
use Rattle.bp_layout.specs.declared.fields.Kind.{Kind}
use Rattle.bp_layout.proofs.Below.{rest_below-append, rest_below-is}
use Rattle.bp_plain.specs.Plain.{kind_of_node, listed_in, listing, only_name}
use Rattle.bp_plain.specs.PlainTree.{Nodes, path_cmp}
use Rattle.bp_plain.proofs.Kept.{left_holds, right_holds}
use Rattle.bp_plain.proofs.PathOrder.{same_path_from}

abbrev pub by_bytes : Name → Name → Ordering
by_bytes = slice_cmp nat_cmp

pub by_bytes-IsAntisymmetric : IsAntisymmetric by_bytes
by_bytes-IsAntisymmetric = slice_cmp-IsAntisymmetric nat_cmp-IsAntisymmetric

pub same_name : (a b : Name) → eq_by_cmp by_bytes a b ≡ true → a ≡ b
same_name a b tied = by_bytes-IsAntisymmetric a b ((Equal-is (by_bytes a b)).0 tied)

-- an entry of a listing under its name, with what is stated of its kind
abbrev pub under_name : {A : Type 0} → (Kind → A) → Kind × Name → Name × A
under_name of entry = (entry.1, of entry.0)

abbrev pub value_of : {A : Type 0} → (Kind → A) → Node → A
value_of of node = of (kind_of_node node)

abbrev pub NamesDiffer : {A : Type 0} → List (Name × A) → Type 0
NamesDiffer es = IsDistinct (eq_by_cmp by_bytes) (map (λ e. e.0) es)

both : (a b : Bool) → T a → T b → T (a && b)
both true b p q = q
both false b p q = p

-- ---- what the tree lists

then_equal : (o : Ordering) → ordering_then o Equal ≡ o
then_equal Less = refl
then_equal Equal = refl
then_equal Greater = refl

only_is : (rest : Option Path) (name : Name) → only_name rest ≡ Some name → rest ≡ Some (name ∷ [])
only_is None name e = absurd (cc)
only_is (Some []) name e = absurd (cc)
only_is (Some (first ∷ [])) name e = let same : first ≡ name = cc in ap (λ n. Some (n ∷ [])) same
only_is (Some (first ∷ second ∷ rest)) name e = absurd (cc)

path_cmp-below : (here : Path) (a b : Name) → path_cmp (here ++ a ∷ []) (here ++ b ∷ []) ≡ by_bytes a b
path_cmp-below [] a b = then_equal (by_bytes a b)
path_cmp-below (name ∷ here) a b =
    ap (λ o. ordering_then o (path_cmp (here ++ a ∷ []) (here ++ b ∷ []))) (tied_itself nat_list_cmp_total name)
    ∙ path_cmp-below here a b

module _ (here : Path) where
  only_at : (path : Path) (name : Name) → only_name (rest_below here path) ≡ Some name → path ≡ here ++ name ∷ []
  only_at path name e = rest_below-is here path (name ∷ []) (only_is (rest_below here path) name e)

  at_only : (name : Name) → only_name (rest_below here (here ++ name ∷ [])) ≡ Some name
  at_only name = ap only_name (rest_below-append here (name ∷ []))

  -- an entry that is not listed has no such path
  not_there : (path : Path) (name : Name) → only_name (rest_below here path) ≡ None → eq_by_cmp path_cmp (here ++ name ∷ []) path ≡ false
  not_there path name e = go (eq_by_cmp path_cmp (here ++ name ∷ []) path) refl
    where
      go : (b : Bool) → eq_by_cmp path_cmp (here ++ name ∷ []) path ≡ b → b ≡ false
      go true at =
          let same : here ++ name ∷ [] ≡ path = same_path_from (here ++ name ∷ []) path at in
          let some : Some name ≡ None = sym (at_only name) ∙ ap (λ p. only_name (rest_below here p)) same ∙ e in
          absurd (cc)
      go false at = refl

module _ {A : Type 0} (of : Kind → A) (here : Path) where
  abbrev listed : List (Path × Node) → List (Name × A)
  listed es = map (under_name of) (filter_map (listed_in here) es)

  abbrev value_at : Name → List (Path × Node) → Option A
  value_at name es = option_map (value_of of) (find path_cmp (here ++ name ∷ []) es)

  find-listed : (es : List (Path × Node)) (name : Name) → find by_bytes name (listed es) ≡ value_at name es
  find-listed [] name = refl
  find-listed (entry ∷ es) name = go (find-listed es name) (only_name (rest_below here entry.0)) refl
    where
      go : find by_bytes name (listed es) ≡ value_at name es → (o : Option Name) → only_name (rest_below here entry.0) ≡ o →
          find by_bytes name (listed (entry ∷ es)) ≡ value_at name (entry ∷ es)
      go rest None at = rw at (rw (not_there here entry.0 name at) rest)
      go rest (Some other) at = rw at (
          ap₂ (λ b o. cond b (Some (value_of of entry.1)) o) (sym (ap is_eq (path_cmp-below here name other))) rest
          ∙ ap (λ p. cond (is_eq (path_cmp (here ++ name ∷ []) p)) (Some (value_of of entry.1)) (value_at name es)) (sym (only_at here entry.0 other at))
          ∙ pushed (eq_by_cmp path_cmp (here ++ name ∷ []) entry.0))
        where
          pushed : (b : Bool) → cond b (Some (value_of of entry.1)) (value_at name es) ≡ option_map (value_of of) (cond b (Some entry.1) (find path_cmp (here ++ name ∷ []) es))
          pushed true = refl
          pushed false = refl

  below_listed : (name : Name) (es : List (Path × Node)) → T (below_all path_cmp (here ++ name ∷ []) es) → T (below_all by_bytes name (listed es))
  below_listed name [] h = tt
  below_listed name (entry ∷ es) h = go (below_listed name es (right_holds _ _ h)) (only_name (rest_below here entry.0)) refl
    where
      go : T (below_all by_bytes name (listed es)) → (o : Option Name) → only_name (rest_below here entry.0) ≡ o →
          T (below_all by_bytes name (listed (entry ∷ es)))
      go rest None at = rw at rest
      go rest (Some other) at =
          let less : T (is_lt (path_cmp (here ++ name ∷ []) (here ++ other ∷ []))) = subst (λ p. T (is_lt (path_cmp (here ++ name ∷ []) p))) (only_at here entry.0 other at) (left_holds _ _ h) in
          rw at (both _ _ (subst (λ o. T (is_lt o)) (path_cmp-below here name other) less) rest)

  sorted_listed : (es : List (Path × Node)) → T (is_sorted path_cmp es) → T (is_sorted by_bytes (listed es))
  sorted_listed [] h = tt
  sorted_listed (entry ∷ es) h = go (sorted_listed es (right_holds _ _ h)) (only_name (rest_below here entry.0)) refl
    where
      go : T (is_sorted by_bytes (listed es)) → (o : Option Name) → only_name (rest_below here entry.0) ≡ o →
          T (is_sorted by_bytes (listed (entry ∷ es)))
      go rest None at = rw at rest
      go rest (Some name) at =
          let below : T (below_all path_cmp (here ++ name ∷ []) es) = subst (λ p. T (below_all path_cmp p es)) (only_at here entry.0 name at) (left_holds _ _ h) in
          rw at (both _ _ (below_listed name es below) rest)

  -- what a listing has under a name, and that it is sorted
  pub find-listing : (nodes : Nodes) (name : Name) →
      find by_bytes name (map (under_name of) (listing nodes here)) ≡ option_map (value_of of) (get nodes (here ++ name ∷ []))
  find-listing nodes name = find-listed (entries nodes) name ∙ ap (option_map (value_of of)) (sym (get-entries nodes (here ++ name ∷ [])))

  pub sorted_listing : (nodes : Nodes) → T (is_sorted by_bytes (map (under_name of) (listing nodes here)))
  sorted_listing nodes = sorted_listed (entries nodes) (entries_sorted nodes)

-- ---- items of which no two have one name

get_or-next : {A : Type 0} (x : A) (xs : List A) (k : ℕ) (d : A) → get_or (x ∷ xs) (k + 1) d ≡ get_or xs k d
get_or-next x xs k d = rw add-one refl

contains-next : {A : Type 0} (x : A) (xs : List A) (y : A) → Contains xs y → Contains (x ∷ xs) y
contains-next x xs y c = (c.0 + 1, omega (arith, c.1), get_or-next x xs c.0 y ∙ c.2)

less_from : (a b : Name) → is_lt (by_bytes b a) ≡ false → eq_by_cmp by_bytes a b ≡ false → T (is_lt (by_bytes a b))
less_from a b above apart = go (by_bytes b a) refl
  where
    go : (o : Ordering) → by_bytes b a ≡ o → T (is_lt (by_bytes a b))
    go Less at = absurd (true≢false (sym (ap is_lt at) ∙ above))
    go Equal at = absurd (true≢false (sym (ap is_eq (nat_list_cmp_total.antisymm a b ∙ ap ordering_reverse at)) ∙ apart))
    go Greater at = subst (λ o. T (is_lt o)) (sym (nat_list_cmp_total.antisymm a b ∙ ap ordering_reverse at)) tt

module _ {Item A : Type 0} (keyed : Item → Name × A) where
  abbrev pub comes_before : Item → Item → Bool
  comes_before x y = is_lt (by_bytes (keyed x).0 (keyed y).0)

  -- what is found under a name belongs to an item, and under the name of each item is what belongs to it
  find-item : (items : List Item) (name : Name) (value : A) → find by_bytes name (map keyed items) ≡ Some value →
      (x : Item) × Contains items x × (keyed x ≡ (name, value))
  find-item [] name value e = absurd (cc)
  find-item (x ∷ xs) name value e = go (λ r. find-item xs name value r) (eq_by_cmp by_bytes name (keyed x).0) refl
    where
      go : (find by_bytes name (map keyed xs) ≡ Some value → (y : Item) × Contains xs y × (keyed y ≡ (name, value))) →
          (b : Bool) → eq_by_cmp by_bytes name (keyed x).0 ≡ b → (y : Item) × Contains (x ∷ xs) y × (keyed y ≡ (name, value))
      go rest true at =
          let same : name ≡ (keyed x).0 = same_name name (keyed x).0 at in
          let values : Some (keyed x).1 ≡ Some value = rw at at e in
          let has : (keyed x).1 ≡ value = cc in
          (x, (0, omega arith, refl), ap₂ (λ n v. (n, v)) (sym same) has)
      go rest false at = let found = rest (rw at at e) in (found.0, contains-next x xs found.0 found.1, found.2)

  all-contains : (P : Name → Type 0) (items : List Item) (x : Item) → AllByRecursion P (map (λ e. e.0) (map keyed items)) → Contains items x → P (keyed x).0
  all-contains P [] x all c = absurd (omega (arith, c.1))
  all-contains P (y ∷ ys) x all c = go c.0 c.1 c.2 (λ r. all-contains P ys x all.1 r)
    where
      go : (k : ℕ) → k < length (y ∷ ys) → get_or (y ∷ ys) k x ≡ x → (Contains ys x → P (keyed x).0) → P (keyed x).0
      go zero low is rest = subst (λ z. P (keyed z).0) is all.0
      go (suc k) low is rest = rest (k, omega (arith, low), is)

  pub item-find : (items : List Item) (x : Item) → NamesDiffer (map keyed items) → Contains items x → find by_bytes (keyed x).0 (map keyed items) ≡ Some (keyed x).1
  unfolding IsDistinct
  item-find [] x apart c = absurd (omega (arith, c.1))
  item-find (y ∷ ys) x apart c = go c.0 c.1 c.2 (λ r. item-find ys x apart.1 r)
    where
      go : (k : ℕ) → k < length (y ∷ ys) → get_or (y ∷ ys) k x ≡ x → (Contains ys x → find by_bytes (keyed x).0 (map keyed ys) ≡ Some (keyed x).1) →
          find by_bytes (keyed x).0 (map keyed (y ∷ ys)) ≡ Some (keyed x).1
      go zero low is rest =
          let tied : eq_by_cmp by_bytes (keyed x).0 (keyed y).0 ≡ true =
          ap (λ z. eq_by_cmp by_bytes (keyed x).0 (keyed z).0) is ∙ ap is_eq (tied_itself nat_list_cmp_total (keyed x).0) in
          rw tied (ap (λ z. Some (keyed z).1) is)
      go (suc k) low is rest =
          let there : Contains ys x = (k, omega (arith, low), is) in
          let other : eq_by_cmp by_bytes (keyed y).0 (keyed x).0 ≡ false = all-contains (λ n. eq_by_cmp by_bytes (keyed y).0 n ≡ false) ys x apart.0 there in
          rw ((eq_by_cmp_equiv nat_list_cmp_total).symm (keyed x).0 (keyed y).0 ∙ other) (rest there)

  pub NamesDiffer-permutation : (items done : List Item) → IsPermutation items done → NamesDiffer (map keyed items) → NamesDiffer (map keyed done)
  NamesDiffer-permutation items done moved =
      IsDistinct-IsPermutation (eq_by_cmp by_bytes) (eq_by_cmp_equiv nat_list_cmp_total).symm (map (λ e. e.0) (map keyed items)) (map (λ e. e.0) (map keyed done))
      (IsPermutation-map (λ e. e.0) (map keyed items) (map keyed done) (IsPermutation-map keyed items done moved))

  -- what is found among some items is found among others that have them, so a search finds the same once they are moved
  found-among : (some others : List Item) → NamesDiffer (map keyed others) → ((x : Item) → Contains some x → Contains others x) →
      (name : Name) (value : A) → find by_bytes name (map keyed some) ≡ Some value → find by_bytes name (map keyed others) ≡ Some value
  found-among some others apart among name value e =
      let item = find-item some name value e in
      subst (λ (k : Name × A). find by_bytes k.0 (map keyed others) ≡ Some k.1) item.2 (item-find others item.0 apart (among item.0 item.1))

  pub find-moved : (items done : List Item) → IsPermutation items done → NamesDiffer (map keyed items) →
      (name : Name) → find by_bytes name (map keyed done) ≡ find by_bytes name (map keyed items)
  find-moved items done moved apart name = go (find by_bytes name (map keyed done)) refl (find by_bytes name (map keyed items)) refl
    where
      go : (o : Option A) → find by_bytes name (map keyed done) ≡ o → (p : Option A) → find by_bytes name (map keyed items) ≡ p →
          find by_bytes name (map keyed done) ≡ find by_bytes name (map keyed items)
      go (Some value) e p f = e ∙ sym (found-among done items apart (λ x c. Contains-permutation _ _ x (IsPermutation-sym _ _ moved) c) name value e)
      go None e (Some value) f =
          found-among items done (NamesDiffer-permutation items done moved apart) (λ x c. Contains-permutation _ _ x moved c) name value f ∙ sym f
      go None e None f = e ∙ sym f

  -- ---- and sorted

  sorted-tail : (x : Item) (xs : List Item) → IsSortedBy comes_before (x ∷ xs) → IsSortedBy comes_before xs
  sorted-tail x xs up k d low high =
      let here : comes_before (get_or (x ∷ xs) (k + 1 + 1) d) (get_or (x ∷ xs) (k + 1) d) ≡ false = up (k + 1) d (omega arith) (omega (arith, high)) in
      ap₂ comes_before (sym (get_or-next x xs (k + 1) d)) (sym (get_or-next x xs k d)) ∙ here

  below_items : (x : Item) (xs : List Item) → ((k : ℕ) (d : Item) → k < length xs → comes_before (get_or xs k d) x ≡ false) →
      AllByRecursion (λ y. eq_by_cmp by_bytes (keyed x).0 y ≡ false) (map (λ e. e.0) (map keyed xs)) → T (below_all by_bytes (keyed x).0 (map keyed xs))
  below_items x [] above apart = tt
  below_items x (y ∷ xs) above apart =
      both _ _ (less_from (keyed x).0 (keyed y).0 (above 0 y (omega arith)) apart.0)
      (below_items x xs (λ k d low. ap (λ z. comes_before z x) (sym (get_or-next y xs k d)) ∙ above (k + 1) d (omega (arith, low))) apart.1)

  sorted_items : (items : List Item) → IsSortedBy comes_before items → NamesDiffer (map keyed items) → T (is_sorted by_bytes (map keyed items))
  unfolding IsDistinct
  sorted_items [] up apart = tt
  sorted_items (x ∷ xs) up apart =
      let above : (k : ℕ) (d : Item) → k < length xs → comes_before (get_or xs k d) x ≡ false =
      λ k d low. ap (λ z. comes_before z x) (sym (get_or-next x xs k d))
      ∙ sorted_far comes_before (ranks_by nat_list_cmp_total (λ y. (keyed y).0)) (x ∷ xs) up 0 (k + 1) d (omega arith) (omega (arith, low)) in
      both _ _ (below_items x xs above apart.0) (sorted_items xs (sorted-tail x xs up) apart.1)

  -- items that are found where the tree lists a name are its listing
  pub sorted-listed : (of : Kind → A) (here : Path) (nodes : Nodes) (items : List Item) → IsSortedBy comes_before items → NamesDiffer (map keyed items) →
      ((name : Name) → find by_bytes name (map keyed items) ≡ option_map (value_of of) (get nodes (here ++ name ∷ []))) →
      map keyed items ≡ map (under_name of) (listing nodes here)
  sorted-listed of here nodes items up apart finds =
      same_entries by_bytes nat_list_cmp_total by_bytes-IsAntisymmetric (map keyed items) (map (under_name of) (listing nodes here))
      (sorted_items items up apart) (sorted_listing of here nodes) (λ name. finds name ∙ sym (find-listing of here nodes name))
