-- The entries of a tree as a walk finds them: those of a directory, name by name.
use Rattle.std.proofs.Common.{◌≡◌, ℕ, ◌&&◌, ◌||◌, Bool, true, false, cond, T, List, [], ◌∷◌, ◌++◌, Option, None, Some, is_some, flat_map, refl, sym, ◌∙◌, ap, subst, true≢false, append_assoc, append-nil, if◌then◌else◌, Ordering, Less, Equal, Greater}
use Rattle.std.specs.Prelude.{bytes_eq}
use Rattle.std.specs.List.{filter, filter_map, list_all, list_any, AllByRecursion}
use Rattle.std.specs.Ordering.{nat_cmp, is_eq, is_lt, eq_by_cmp, ordering_then}
use Rattle.std.specs.Cmp.{tied_itself}
use Rattle.std.specs.Cmp.Lexicographic.{slice_cmp, nat_list_cmp_total}
use Rattle.std.specs.FinMap.{get, entries, entries_sorted, get-entries}
use Rattle.std.specs.FinMap.Entries.{below_all, find, find-where_key, is_sorted, is_sorted-where_key, same_entries, where_key}
use Rattle.bp_layout.proofs.Below.{bytes_eq_self, rest_below-append, rest_below-is}
use Rattle.bp_layout.specs.Paths.{rest_below, Attributes, Name, Path, Node}
use Rattle.bp_layout.specs.Paths.Node.{dir, file}
use Rattle.bp_layout.specs.declared.fields.Kind.{Kind}
use Rattle.bp_plain.specs.Export.{IsWalked, entries_below}
use Rattle.bp_plain.specs.Plain.{listed_in, listing, only_name}
use Rattle.bp_plain.specs.PlainTree.{IsDirAt, IsPathMap, PathMap, path_cmp}
use Rattle.bp_plain.proofs.PathWays.{Entry, below_longer, both_hold, find_back, is_less, left_holds, less_than, right_holds, map_has_way}
use Rattle.bp_plain.proofs.PathOrder.{path_cmp-IsTotalOrder, path_cmp-IsAntisymmetric, same_path_from}

-- ---- the order of paths below a path

cmp_below : (p a b : Path) → path_cmp (p ++ a) (p ++ b) ≡ path_cmp a b
cmp_below [] a b = refl
cmp_below (n ∷ p) a b = rw (tied_itself nat_list_cmp_total n) (cmp_below p a b)

cmp_names : (n m : Name) (r s : Path) → slice_cmp nat_cmp n m ≡ Less → path_cmp (n ∷ r) (m ∷ s) ≡ Less
cmp_names n m r s low = rw low refl

-- ---- lists in order, one after the other

below_both : (q : Path) (xs ys : List Entry) → T (below_all path_cmp q xs) → T (below_all path_cmp q ys) → T (below_all path_cmp q (xs ++ ys))
below_both q [] ys one two = two
below_both q (x ∷ xs) ys one two = both_hold _ _ (left_holds _ _ one) (below_both q xs ys (right_holds _ _ one) two)

sorted_both : (xs ys : List Entry) → T (is_sorted path_cmp xs) → T (is_sorted path_cmp ys) → AllByRecursion (λ e. T (below_all path_cmp e.0 ys)) xs → T (is_sorted path_cmp (xs ++ ys))
sorted_both [] ys one two below = two
sorted_both (x ∷ xs) ys one two below =
    both_hold _ _ (below_both x.0 xs ys (left_holds _ _ one) below.0) (sorted_both xs ys (right_holds _ _ one) two below.1)

-- what holds of each key that passes
all_where : (P : Path → Type 0) (test : Path → Bool) → ((k : Path) → test k ≡ true → P k) → (es : List Entry) → AllByRecursion (λ e. P e.0) (where_key path_cmp test es)
all_where P test holds [] = tt
all_where P test holds (e ∷ es) = go (test e.0) refl (all_where P test holds es)
  where
    go : (b : Bool) → test e.0 ≡ b → AllByRecursion (λ e. P e.0) (where_key path_cmp test es) → AllByRecursion (λ e. P e.0) (cond b (e ∷ where_key path_cmp test es) (where_key path_cmp test es))
    go true at rest = (holds e.0 at, rest)
    go false at rest = rest

below_where : (q : Path) (test : Path → Bool) → ((k : Path) → test k ≡ true → path_cmp q k ≡ Less) → (es : List Entry) → T (below_all path_cmp q (where_key path_cmp test es))
below_where q test low [] = tt
below_where q test low (e ∷ es) = go (test e.0) refl (below_where q test low es)
  where
    go : (b : Bool) → test e.0 ≡ b → T (below_all path_cmp q (where_key path_cmp test es)) → T (below_all path_cmp q (cond b (e ∷ where_key path_cmp test es) (where_key path_cmp test es)))
    go true at rest = both_hold _ _ (is_less _ (low e.0 at)) rest
    go false at rest = rest

find_where : (test : Path → Bool) (q : Path) (es : List Entry) → find path_cmp q (where_key path_cmp test es) ≡ cond (test q) (find path_cmp q es) None
find_where test q es = find-where_key path_cmp test q (λ x tied. ap test (sym (path_cmp-IsAntisymmetric q x tied))) es

find_first : (q : Path) (xs ys : List Entry) (node : Node) → find path_cmp q xs ≡ Some node → find path_cmp q (xs ++ ys) ≡ Some node
find_first q [] ys node found = absurd (cc)
find_first q (x ∷ xs) ys node found = go (eq_by_cmp path_cmp q x.0) found (λ f. find_first q xs ys node f)
  where
    go : (b : Bool) → cond b (Some x.1) (find path_cmp q xs) ≡ Some node → (find path_cmp q xs ≡ Some node → find path_cmp q (xs ++ ys) ≡ Some node) → cond b (Some x.1) (find path_cmp q (xs ++ ys)) ≡ Some node
    go true is rest = is
    go false is rest = rest is

differ : (q k : Path) → (q ≡ k → ⊥) → eq_by_cmp path_cmp q k ≡ false
differ q k other = go (eq_by_cmp path_cmp q k) refl
  where
    go : (b : Bool) → eq_by_cmp path_cmp q k ≡ b → eq_by_cmp path_cmp q k ≡ false
    go true e = absurd (other (same_path_from q k e))
    go false e = e

ties : (q : Path) → eq_by_cmp path_cmp q q ≡ true
ties q = ap is_eq (tied_itself path_cmp-IsTotalOrder q)

-- ---- names in order

abbrev Listed : Type 0
Listed = Kind × Name

abbrev name_below : Name → List Listed → Bool
name_below n ks = list_all (λ k. is_lt (slice_cmp nat_cmp n k.1)) ks

abbrev names_sorted : List Listed → Bool
names_sorted [] = true
names_sorted (k ∷ ks) = name_below k.1 ks && names_sorted ks

less_from : (r : Ordering) → ordering_then r Equal ≡ Less → r ≡ Less
less_from Less e = refl
less_from Equal e = e
less_from Greater e = e

only_names : (p q : Path) (n : Name) → only_name (rest_below p q) ≡ Some n → q ≡ p ++ n ∷ []
only_names p q n is = go (rest_below p q) refl is
  where
    go : (o : Option Path) → rest_below p q ≡ o → only_name o ≡ Some n → q ≡ p ++ n ∷ []
    go None at is = absurd (cc)
    go (Some []) at is = absurd (cc)
    go (Some (m ∷ [])) at is = let same : m ≡ n = cc in rest_below-is p q (m ∷ []) at ∙ ap (λ x. p ++ x ∷ []) same
    go (Some (m ∷ k ∷ r)) at is = absurd (cc)

module _ (p : Path) where
  names_above : (n : Name) (es : List Entry) → T (below_all path_cmp (p ++ n ∷ []) es) → T (name_below n (filter_map (listed_in p) es))
  names_above n [] below = tt
  names_above n (e ∷ es) below = go (only_name (rest_below p e.0)) refl (names_above n es (right_holds _ _ below))
    where
      go : (o : Option Name) → only_name (rest_below p e.0) ≡ o → T (name_below n (filter_map (listed_in p) es)) → T (name_below n (filter_map (listed_in p) (e ∷ es)))
      go None at rest = rw at rest
      go (Some m) at rest =
          let here : path_cmp (p ++ n ∷ []) (p ++ m ∷ []) ≡ Less = sym (ap (path_cmp (p ++ n ∷ [])) (only_names p e.0 m at)) ∙ less_than _ (left_holds _ _ below) in
          rw at (both_hold _ _ (is_less _ (less_from _ (sym (cmp_below p (n ∷ []) (m ∷ [])) ∙ here))) rest)

  listing_sorted : (es : List Entry) → T (is_sorted path_cmp es) → T (names_sorted (filter_map (listed_in p) es))
  listing_sorted [] sorted = tt
  listing_sorted (e ∷ es) sorted = go (only_name (rest_below p e.0)) refl (listing_sorted es (right_holds _ _ sorted))
    where
      go : (o : Option Name) → only_name (rest_below p e.0) ≡ o → T (names_sorted (filter_map (listed_in p) es)) → T (names_sorted (filter_map (listed_in p) (e ∷ es)))
      go None at rest = rw at rest
      go (Some n) at rest = rw at (both_hold _ _ (names_above n es (subst (λ k. T (below_all path_cmp k es)) (only_names p e.0 n at) (left_holds _ _ sorted))) rest)

  has_name : (n : Name) (es : List Entry) (node : Node) → find path_cmp (p ++ n ∷ []) es ≡ Some node → list_any (λ k. bytes_eq k.1 n) (filter_map (listed_in p) es) ≡ true
  has_name n [] node found = absurd (cc)
  has_name n (e ∷ es) node found = go (eq_by_cmp path_cmp (p ++ n ∷ []) e.0) refl (λ f. has_name n es node f)
    where
      further : (o : Option Name) → only_name (rest_below p e.0) ≡ o → list_any (λ k. bytes_eq k.1 n) (filter_map (listed_in p) es) ≡ true → list_any (λ k. bytes_eq k.1 n) (filter_map (listed_in p) (e ∷ es)) ≡ true
      further None at rest = rw at rest
      further (Some m) at rest = rw at (either (bytes_eq m n) rest)
        where
          either : (b : Bool) → list_any (λ k. bytes_eq k.1 n) (filter_map (listed_in p) es) ≡ true → (b || list_any (λ k. bytes_eq k.1 n) (filter_map (listed_in p) es)) ≡ true
          either true rest = refl
          either false rest = rest

      go : (b : Bool) → eq_by_cmp path_cmp (p ++ n ∷ []) e.0 ≡ b → (find path_cmp (p ++ n ∷ []) es ≡ Some node → list_any (λ k. bytes_eq k.1 n) (filter_map (listed_in p) es) ≡ true) → list_any (λ k. bytes_eq k.1 n) (filter_map (listed_in p) (e ∷ es)) ≡ true
      go true at rest =
          let only : only_name (rest_below p e.0) ≡ Some n = ap (λ q. only_name (rest_below p q)) (sym (same_path_from (p ++ n ∷ []) e.0 at)) ∙ ap only_name (rest_below-append p (n ∷ [])) in
          rw (only, bytes_eq_self n) refl
      go false at rest = further (only_name (rest_below p e.0)) refl (rest (rw at at found))

-- ---- the entries below each name

abbrev at_or_below : Path → Path → Bool
at_or_below p q = is_some (rest_below p q)

is_below : (p q : Path) → at_or_below p q ≡ true → (r : Path) × (q ≡ p ++ r)
is_below p q is = go (rest_below p q) refl is
  where
    go : (o : Option Path) → rest_below p q ≡ o → is_some o ≡ true → (r : Path) × (q ≡ p ++ r)
    go None at is = absurd (true≢false (sym is))
    go (Some r) at is = (r, rest_below-is p q r at)

below_name : (p : Path) (n : Name) (q : Path) → at_or_below (p ++ n ∷ []) q ≡ true → (r : Path) × (q ≡ p ++ n ∷ r)
below_name p n q is = let cut = is_below (p ++ n ∷ []) q is in (cut.0, cut.1 ∙ append_assoc p (n ∷ []) cut.0)

below_other : (p : Path) (k n : Name) (r : Path) → at_or_below (p ++ k ∷ []) (p ++ n ∷ r) ≡ bytes_eq k n
below_other [] k n r = go (bytes_eq k n)
  where
    go : (b : Bool) → is_some (if b then Some r else None) ≡ b
    go true = refl
    go false = refl
below_other (x ∷ p) k n r = rw (bytes_eq_self x) (below_other p k n r)

module _ (map : PathMap) (p : Path) where
  abbrev block : Listed → List Entry
  block k = entries_below map (p ++ k.1 ∷ [])

  abbrev blocks : List Listed → List Entry
  blocks ks = flat_map block ks

  block_sorted : (k : Listed) → T (is_sorted path_cmp (block k))
  block_sorted k = is_sorted-where_key path_cmp (at_or_below (p ++ k.1 ∷ [])) (entries map.nodes) (entries_sorted map.nodes)

  find_block : (k : Listed) (q : Path) → find path_cmp q (block k) ≡ cond (at_or_below (p ++ k.1 ∷ []) q) (get map.nodes q) None
  find_block k q = find_where (at_or_below (p ++ k.1 ∷ [])) q (entries map.nodes) ∙ ap (λ o. cond (at_or_below (p ++ k.1 ∷ []) q) o None) (sym (get-entries map.nodes q))

  -- a path below the name is below the blocks of greater names
  below_blocks : (n : Name) (r : Path) (ks : List Listed) → T (name_below n ks) → T (below_all path_cmp (p ++ n ∷ r) (blocks ks))
  below_blocks n r [] low = tt
  below_blocks n r (k ∷ ks) low =
      below_both (p ++ n ∷ r) (block k) (blocks ks)
      (below_where (p ++ n ∷ r) (at_or_below (p ++ k.1 ∷ [])) less (entries map.nodes))
      (below_blocks n r ks (right_holds _ _ low))
    where
      less : (q : Path) → at_or_below (p ++ k.1 ∷ []) q ≡ true → path_cmp (p ++ n ∷ r) q ≡ Less
      less q is =
          let cut = below_name p k.1 q is in
          ap (path_cmp (p ++ n ∷ r)) cut.1 ∙ cmp_below p (n ∷ r) (k.1 ∷ cut.0) ∙ cmp_names n k.1 r cut.0 (less_than (slice_cmp nat_cmp n k.1) (left_holds (is_lt (slice_cmp nat_cmp n k.1)) (name_below n ks) low))

  blocks_sorted : (ks : List Listed) → T (names_sorted ks) → T (is_sorted path_cmp (blocks ks))
  blocks_sorted [] sorted = tt
  blocks_sorted (k ∷ ks) sorted =
      sorted_both (block k) (blocks ks) (block_sorted k) (blocks_sorted ks (right_holds _ _ sorted))
      (all_where (λ q. T (below_all path_cmp q (blocks ks))) (at_or_below (p ++ k.1 ∷ [])) low (entries map.nodes))
    where
      low : (q : Path) → at_or_below (p ++ k.1 ∷ []) q ≡ true → T (below_all path_cmp q (blocks ks))
      low q is =
          let cut = below_name p k.1 q is in
          subst (λ x. T (below_all path_cmp x (blocks ks))) (sym cut.1) (below_blocks k.1 cut.0 ks (left_holds (name_below k.1 ks) (names_sorted ks) sorted))

  first_below : (ks : List Listed) → T (below_all path_cmp p (blocks ks))
  first_below [] = tt
  first_below (k ∷ ks) =
      below_both p (block k) (blocks ks)
      (below_where p (at_or_below (p ++ k.1 ∷ [])) (λ q is. let cut = below_name p k.1 q is in ap (path_cmp p) cut.1 ∙ below_longer p k.1 cut.0) (entries map.nodes)) (first_below ks)

  -- what is found in the blocks
  find_blocks : (n : Name) (r : Path) (ks : List Listed) → find path_cmp (p ++ n ∷ r) (blocks ks) ≡ cond (list_any (λ k. bytes_eq k.1 n) ks) (get map.nodes (p ++ n ∷ r)) None
  find_blocks n r [] = refl
  find_blocks n r (k ∷ ks) = go (bytes_eq k.1 n) refl (get map.nodes (p ++ n ∷ r)) refl (find_blocks n r ks)
    where
      here : (b : Bool) → bytes_eq k.1 n ≡ b → find path_cmp (p ++ n ∷ r) (block k) ≡ cond b (get map.nodes (p ++ n ∷ r)) None
      here b at = find_block k (p ++ n ∷ r) ∙ ap (λ c. cond c (get map.nodes (p ++ n ∷ r)) None) (below_other p k.1 n r ∙ at)

      either_none : (b : Bool) → ◌≡◌ {A = Option Node} (cond b None None) None
      either_none true = refl
      either_none false = refl

      go : (b : Bool) → bytes_eq k.1 n ≡ b → (o : Option Node) → get map.nodes (p ++ n ∷ r) ≡ o → find path_cmp (p ++ n ∷ r) (blocks ks) ≡ cond (list_any (λ k. bytes_eq k.1 n) ks) (get map.nodes (p ++ n ∷ r)) None
          → find path_cmp (p ++ n ∷ r) (block k ++ blocks ks) ≡ cond (b || list_any (λ k. bytes_eq k.1 n) ks) (get map.nodes (p ++ n ∷ r)) None
      go true at (Some node) is rest = find_first (p ++ n ∷ r) (block k) (blocks ks) node (here true at ∙ is) ∙ sym is
      go true at None is rest =
          find_back (p ++ n ∷ r) (block k) (blocks ks) (here true at ∙ is) ∙ rest ∙ ap (λ o. cond (list_any (λ k. bytes_eq k.1 n) ks) o None) is ∙ either_none (list_any (λ k. bytes_eq k.1 n) ks) ∙ sym is
      go false at o is rest = find_back (p ++ n ∷ r) (block k) (blocks ks) (here false at) ∙ rest

  find_no_blocks : (q : Path) (ks : List Listed) → rest_below p q ≡ None → find path_cmp q (blocks ks) ≡ None
  find_no_blocks q [] apart = refl
  find_no_blocks q (k ∷ ks) apart = find_back q (block k) (blocks ks) (find_block k q ∙ go (at_or_below (p ++ k.1 ∷ []) q) refl) ∙ find_no_blocks q ks apart
    where
      go : (b : Bool) → at_or_below (p ++ k.1 ∷ []) q ≡ b → cond b (get map.nodes q) None ≡ None
      go true at =
          let cut = below_name p k.1 q at in
          let some : ◌≡◌ {A = Option Path} None (Some (k.1 ∷ cut.0)) = sym apart ∙ ap (rest_below p) cut.1 ∙ rest_below-append p (k.1 ∷ cut.0) in absurd (cc)
      go false at = refl

-- ---- the walk

module _ (map : PathMap) (is : IsPathMap map) (p : Path) where
  own : (q : Path) → find path_cmp q (entries_below map p) ≡ cond (at_or_below p q) (get map.nodes q) None
  own q = find_where (at_or_below p) q (entries map.nodes) ∙ ap (λ o. cond (at_or_below p q) o None) (sym (get-entries map.nodes q))

  sorted_own : T (is_sorted path_cmp (entries_below map p))
  sorted_own = is_sorted-where_key path_cmp (at_or_below p) (entries map.nodes) (entries_sorted map.nodes)

  itself : (q : Path) → q ≡ p ++ [] → q ≡ p
  itself q e = e ∙ append-nil p

  longer : (n : Name) (r : Path) → p ++ n ∷ r ≡ p → ⊥
  longer n r e =
      let none : ◌≡◌ {A = Option Path} (Some (n ∷ r)) (Some []) = sym (rest_below-append p (n ∷ r)) ∙ ap (rest_below p) (e ∙ sym (append-nil p)) ∙ rest_below-append p [] in absurd (cc)

  walked_file : (attributes : Attributes) (content : List ℕ) → get map.nodes p ≡ Some (file attributes content) → entries_below map p ≡ (p, file attributes content) ∷ []
  walked_file attributes content at = same_entries path_cmp path_cmp-IsTotalOrder path_cmp-IsAntisymmetric (entries_below map p) ((p, file attributes content) ∷ []) sorted_own tt (λ q. own q ∙ go q (rest_below p q) refl)
    where
      go : (q : Path) (o : Option Path) → rest_below p q ≡ o → cond (is_some o) (get map.nodes q) None ≡ cond (eq_by_cmp path_cmp q p) (Some (file attributes content)) None
      go q None apart =
          let other : eq_by_cmp path_cmp q p ≡ false = differ q p (λ e. let some : ◌≡◌ {A = Option Path} None (Some []) = sym apart ∙ ap (rest_below p) (e ∙ sym (append-nil p)) ∙ rest_below-append p [] in absurd (cc)) in
          ap (λ b. cond b (Some (file attributes content)) None) (sym other)
      go q (Some []) here =
          let same : q ≡ p = itself q (rest_below-is p q [] here) in
          ap (get map.nodes) same ∙ at ∙ sym (ap (λ b. cond b (Some (file attributes content)) None) (ap (λ x. eq_by_cmp path_cmp x p) same ∙ ties p))
      go q (Some (n ∷ r)) below =
          let cut : q ≡ p ++ n ∷ r = rest_below-is p q (n ∷ r) below in
          let other : eq_by_cmp path_cmp q p ≡ false = differ q p (λ e. longer n r (sym cut ∙ e)) in
          none q n r cut (get map.nodes q) refl ∙ ap (λ b. cond b (Some (file attributes content)) None) (sym other)
        where
          none : (q : Path) (n : Name) (r : Path) → q ≡ p ++ n ∷ r → (o : Option Node) → get map.nodes q ≡ o → get map.nodes q ≡ None
          none q n r cut None is_none = is_none
          none q n r cut (Some node) there =
              let above : IsDirAt map.nodes p = map_has_way map is q node there p n r cut in
              let two : ◌≡◌ {A = Option Node} (Some (file attributes content)) (Some (dir above.attributes)) = sym at ∙ above.is in absurd (cc)

  walked_dir : (attributes : Attributes) → get map.nodes p ≡ Some (dir attributes) → entries_below map p ≡ (p, dir attributes) ∷ flat_map (λ entry. entries_below map (p ++ entry.1 ∷ [])) (listing map.nodes p)
  walked_dir attributes at =
      same_entries path_cmp path_cmp-IsTotalOrder path_cmp-IsAntisymmetric (entries_below map p) ((p, dir attributes) ∷ blocks map p ks) sorted_own
      (both_hold _ _ (first_below map p ks) (blocks_sorted map p ks (listing_sorted p (entries map.nodes) (entries_sorted map.nodes)))) (λ q. own q ∙ go q (rest_below p q) refl)
    where
      ks : List Listed
      ks = listing map.nodes p

      named : (q : Path) (n : Name) (r : Path) → q ≡ p ++ n ∷ r → (node : Node) → get map.nodes q ≡ Some node → list_any (λ k. bytes_eq k.1 n) (listing map.nodes p) ≡ true
      named q n [] cut node there = has_name p n (entries map.nodes) node (sym (get-entries map.nodes (p ++ n ∷ [])) ∙ ap (get map.nodes) (sym cut) ∙ there)
      named q n (m ∷ r) cut node there =
          let next : IsDirAt map.nodes (p ++ n ∷ []) = map_has_way map is q node there (p ++ n ∷ []) m r (cut ∙ sym (append_assoc p (n ∷ []) (m ∷ r))) in
          has_name p n (entries map.nodes) (dir next.attributes) (sym (get-entries map.nodes (p ++ n ∷ [])) ∙ next.is)

      go : (q : Path) (o : Option Path) → rest_below p q ≡ o → cond (is_some o) (get map.nodes q) None ≡ cond (eq_by_cmp path_cmp q p) (Some (dir attributes)) (find path_cmp q (blocks map p (listing map.nodes p)))
      go q None apart =
          let other : eq_by_cmp path_cmp q p ≡ false = differ q p (λ e. let some : ◌≡◌ {A = Option Path} None (Some []) = sym apart ∙ ap (rest_below p) (e ∙ sym (append-nil p)) ∙ rest_below-append p [] in absurd (cc)) in
          rw other (sym (find_no_blocks map p q (listing map.nodes p) apart))
      go q (Some []) here =
          let same : q ≡ p = itself q (rest_below-is p q [] here) in
          ap (get map.nodes) same ∙ at ∙ sym (ap (λ b. cond b (Some (dir attributes)) (find path_cmp q (blocks map p (listing map.nodes p)))) (ap (λ x. eq_by_cmp path_cmp x p) same ∙ ties p))
      go q (Some (n ∷ r)) below =
          let cut : q ≡ p ++ n ∷ r = rest_below-is p q (n ∷ r) below in
          let other : eq_by_cmp path_cmp q p ≡ false = differ q p (λ e. longer n r (sym cut ∙ e)) in
          rw other (found (get map.nodes q) refl ∙ ap (λ x. cond (list_any (λ k. bytes_eq k.1 n) (listing map.nodes p)) (get map.nodes x) None) cut ∙ sym (find_blocks map p n r (listing map.nodes p)) ∙ ap (λ x. find path_cmp x (blocks map p (listing map.nodes p))) (sym cut))
        where
          found : (o : Option Node) → get map.nodes q ≡ o → get map.nodes q ≡ cond (list_any (λ k. bytes_eq k.1 n) (listing map.nodes p)) (get map.nodes q) None
          found (Some node) there = sym (ap (λ b. cond b (get map.nodes q) None) (named q n r (rest_below-is p q (n ∷ r) below) node there))
          found None nothing = nothing ∙ sym (ap (λ o. cond (list_any (λ k. bytes_eq k.1 n) (listing map.nodes p)) o None) nothing ∙ either (list_any (λ k. bytes_eq k.1 n) (listing map.nodes p)))
            where
              either : (b : Bool) → ◌≡◌ {A = Option Node} (cond b None None) None
              either true = refl
              either false = refl

all_below_root : (es : List Entry) → filter (λ entry. is_some (rest_below [] entry.0)) es ≡ es
all_below_root [] = refl
all_below_root (e ∷ es) = ap (λ rest. e ∷ rest) (all_below_root es)

pub map_walked : (map : PathMap) → IsPathMap map → IsWalked map
map_walked map is = record {
  all = all_below_root (entries map.nodes);
  at_file = λ path attributes content at. walked_file map is path attributes content at;
  at_dir = λ path attributes at. walked_dir map is path attributes at;
}
