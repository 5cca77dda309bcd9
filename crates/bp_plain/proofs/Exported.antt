-- The calls of an export make the tree.
use Rattle.std.proofs.Common.{◌≡◌, ℕ, ◌&&◌, ◌||◌, Bool, true, false, cond, T, List, [], ◌∷◌, ◌++◌, length, find, Option, None, Some, is_some, flat_map, refl, sym, ◌∙◌, ap, ap₂, subst, true≢false, append_assoc, append-nil, length-append, arith, Less}
use Rattle.std.specs.Option.{unwrap_or}
use Rattle.std.specs.Ordering.{eq_by_cmp, is_eq}
use Rattle.std.specs.Cmp.{tied_itself}
use Rattle.std.specs.FinMap.{get, insert, entries, entries_sorted, get-empty, get-entries, get-insert, same_map}
use Rattle.std.specs.FinMap as finite
use Rattle.std.specs.FinMap.Entries.{below_all, is_sorted}
use Rattle.std.specs.FinMap.Entries as entry
use Rattle.std.specs.FinSet as set
use Rattle.std.specs.FinSet.{contains-empty, contains-from_list, contains-insert, contains-union, same_set}
use Rattle.bp_limits.specs.Limits.{attributes}
use Rattle.bp_limits.specs.CallLimits.{allows_attributes}
use Rattle.bp_layout.specs.Paths.{Attributes, same_path, Name, Path, Node, no_attributes, parse}
use Rattle.bp_layout.specs.Paths.Node.{dir, file}
use Rattle.bp_layout.proofs.Below.{same_path-is, same_path-self}
use Rattle.bp_plain.specs.Calls.{Call}
use Rattle.bp_plain.specs.Plain.{alone, attributes_at, attributes_in, bytes_in, linked, paths_of, pairs_with, with_name}
use Rattle.bp_plain.specs.PlainTree.{Aliases, FileTree, IsPathMap, PathMap, empty_tree, is_one, pair_cmp, path_cmp}
use Rattle.bp_plain.specs.Export.{AllDone, IsExportable, calls_at, export_calls, first_of, path_text, root_text, sets_of, without_snapshot}
use Rattle.bp_plain.proofs.ExportedNodes.{AllDone-append, dir_put, dir_sets, link_goes, node_done, placed, stage}
use Rattle.bp_plain.proofs.FirstPaths.{first_before, first_there, has, none_passes, none_there, paths}
use Rattle.bp_plain.proofs.Kernels.{any_path, by_bools, pairs_of-any, paths_of-any, same_by_cmp, tie_paths}
use Rattle.bp_plain.proofs.PathOrder.{pair_cmp-IsAntisymmetric, pair_cmp-IsTotalOrder, path_cmp-IsAntisymmetric, path_cmp-IsTotalOrder, same_path_from}
use Rattle.bp_plain.proofs.PathTexts.{parse-path_text}
use Rattle.bp_plain.proofs.PathWays.{Entry, HasWay, all_named, below_back, below_further, below_longer, below_middle, both_hold, find_back, find_below, find_prefix, is_less, left_holds, map_has_way, new_path, right_holds, walks, walks_parent}

-- a path of an entry before another one is below it
prefix_less : (q : Path) (xs : List Entry) (e : Entry) (ys : List Entry) → T (is_sorted path_cmp (xs ++ e ∷ ys)) → has q xs ≡ true → path_cmp q e.0 ≡ Less
prefix_less q [] e ys sorted there = absurd (true≢false (sym there))
prefix_less q (x ∷ xs) e ys sorted there = go (eq_by_cmp path_cmp q x.0) refl (λ later. prefix_less q xs e ys (right_holds _ _ sorted) later)
  where
    go : (b : Bool) → eq_by_cmp path_cmp q x.0 ≡ b → (has q xs ≡ true → path_cmp q e.0 ≡ Less) → path_cmp q e.0 ≡ Less
    go true same rest = ap (λ y. path_cmp y e.0) (same_path_from q x.0 same) ∙ below_middle x.0 xs e ys (left_holds _ _ sorted)
    go false same rest = rest (rw same at there)

-- ---- the pairs among the paths that are there

and_false : (a : Bool) → (a && false) ≡ false
and_false true = refl
and_false false = refl

-- the map with no entry
abbrev nothing : PathMap
nothing = record { nodes = finite.empty; one = set.empty }

no_way : HasWay nothing.nodes []
no_way p name rest cut = absurd (omega (arith, ap length cut, length-append p (name ∷ rest)))

module _ (tree : FileTree) (can : IsExportable tree) where
  abbrev now : PathMap
  now = tree.now

  is : IsPathMap now
  is = can.is_tree.now

  -- the attributes of what stands at a path
  many_at : (p : Path) (node : Node) → get now.nodes p ≡ Some node → length (attributes_in (Some node)) ≡ attributes
  many_at p node at = sym (ap (λ found. length (attributes_in found)) at) ∙ can.attributed p

  early_at : (p : Path) (node : Node) → get now.nodes p ≡ Some node → allows_attributes tree.version ≡ false → attributes_in (Some node) ≡ no_attributes
  early_at p node at early = sym (ap attributes_in at) ∙ can.early early p

  abbrev root : Node
  root = dir is.root.attributes

  -- the map that has only the root directory, with its attributes
  abbrev root_map : PathMap
  root_map = dir_put nothing [] is.root.attributes

  abbrev one : Path → Path → Bool
  one p q = is_one now.one p q

  one_back : (p q : Path) → one p q ≡ one q p
  one_back p q = by_bools _ _ (is.back p q) (is.back q p)

  -- the paths of one file are one with the same paths
  one_alike : (p q r : Path) → one p q ≡ true → one q r ≡ one p r
  one_alike p q r e = by_bools _ _ (λ f. is.chain p q r e f) (λ f. is.chain q p r (is.back p q e) f)

  dir_alone : (p : Path) (values : Attributes) → get now.nodes p ≡ Some (dir values) → (q : Path) → one p q ≡ false
  dir_alone p values at q = go (one p q) refl
    where
      go : (b : Bool) → one p q ≡ b → one p q ≡ false
      go true e =
          let both = is.files p q e in
          let wrong : ◌≡◌ {A = Option Node} (Some (dir values)) (Some (file both.attributes both.bytes)) = sym at ∙ both.one in absurd (cc)
      go false e = e

  -- the text of a path that is there spells it
  spelled : (name : Name) (rest : Path) (node : Node) → get now.nodes (name ∷ rest) ≡ Some node → parse (path_text (name ∷ rest)) ≡ Some (name ∷ rest)
  spelled name rest node at = parse-path_text name rest (all_named now is (name ∷ rest) node at) (can.spelled (name ∷ rest) node at)

  -- What is there after some entries: their nodes, and the pairs among their paths.
  pub record IsPrefix (prefix : List Entry) (made : PathMap) : Type 0 where
    pub nodes : (q : Path) → get made.nodes q ≡ entry.find path_cmp q prefix
    pub pairs : (p q : Path) → is_one made.one p q ≡ (has p prefix && (has q prefix && one p q))

  root_prefix : IsPrefix (([], root) ∷ []) root_map
  root_prefix = record {
    nodes = λ q. get-insert path_cmp-IsTotalOrder finite.empty [] root q ∙ ap (cond (eq_by_cmp path_cmp q []) (Some root)) (get-empty path_cmp q);
    pairs = λ p q. contains-empty pair_cmp (p, q) ∙ sym (none p q (eq_by_cmp path_cmp p []) refl);
  }
    where
      none : (p q : Path) (b : Bool) → eq_by_cmp path_cmp p [] ≡ b → (has p (([], root) ∷ []) && (has q (([], root) ∷ []) && one p q)) ≡ false
      none p q true at =
          let alone : one p q ≡ false = ap (λ x. one x q) (same_path_from p [] at) ∙ dir_alone [] is.root.attributes is.root.is q in
          rw (at, alone) (and_false _)
      none p q false at = rw at refl

  -- all entries
  whole_prefix : (made : PathMap) → IsPrefix (entries now.nodes) made → made ≡ now
  whole_prefix made prefix = λ i. record { nodes = same_nodes i; one = same_pairs i }
    where
      same_nodes : made.nodes ≡ now.nodes
      same_nodes = same_map path_cmp-IsTotalOrder path_cmp-IsAntisymmetric made.nodes now.nodes (λ q. prefix.nodes q ∙ sym (get-entries now.nodes q))

      there : (p : Path) (node : Node) → get now.nodes p ≡ Some node → has p (entries now.nodes) ≡ true
      there p node at = ap is_some (sym (get-entries now.nodes p) ∙ at)

      each : (p q : Path) → (b : Bool) → one p q ≡ b → (has p (entries now.nodes) && (has q (entries now.nodes) && one p q)) ≡ one p q
      each p q true e =
          let both = is.files p q e in
          let node : Node = file both.attributes both.bytes in
          rw (there p node both.one, there q node both.other) refl
      each p q false e = rw e (ap (λ x. has p (entries now.nodes) && x) (and_false _) ∙ and_false _)

      same_pairs : made.one ≡ now.one
      same_pairs = same_set pair_cmp-IsTotalOrder pair_cmp-IsAntisymmetric made.one now.one (λ pair. prefix.pairs pair.0 pair.1 ∙ each pair.0 pair.1 (one pair.0 pair.1) refl)

  -- ---- one entry more

  module _ (prefix after : List Entry) (name : Name) (rest : Path) (node : Node) (are : entries now.nodes ≡ prefix ++ (name ∷ rest, node) ∷ after) (made : PathMap) (so_far : IsPrefix prefix made) where
    abbrev place : Path
    place = name ∷ rest

    abbrev longer : List Entry
    longer = prefix ++ (place, node) ∷ []

    sorted : T (is_sorted path_cmp (prefix ++ (place, node) ∷ after))
    sorted = subst (λ es. T (is_sorted path_cmp es)) are (entries_sorted now.nodes)

    not_yet : entry.find path_cmp place prefix ≡ None
    not_yet = new_path prefix (place, node) after sorted

    not_has : has place prefix ≡ false
    not_has = ap is_some not_yet

    there : get now.nodes place ≡ Some node
    there =
        get-entries now.nodes place ∙ ap (entry.find path_cmp place) are ∙ find_back place prefix ((place, node) ∷ after) not_yet
        ∙ ap (λ r. cond (is_eq r) (Some node) (entry.find path_cmp place after)) (tied_itself path_cmp-IsTotalOrder place)

    -- below the path the map is whole
    as_map : (p : Path) → path_cmp p place ≡ Less → get made.nodes p ≡ get now.nodes p
    as_map p low =
        let below : T (below_all path_cmp p ((place, node) ∷ after)) = both_hold _ _ (is_less _ low) (below_further p place after low (below_back prefix (place, node) after sorted)) in
        so_far.nodes p ∙ sym (find_prefix p prefix ((place, node) ∷ after) below) ∙ ap (entry.find path_cmp p) (sym are) ∙ sym (get-entries now.nodes p)

    -- so is the way to a path that isn't above it
    way_made : (path : Path) (other : Node) → get now.nodes path ≡ Some other → ((p : Path) → path_cmp p path ≡ Less → path_cmp p place ≡ Less) → HasWay made.nodes path
    way_made path other at low p n r cut =
        let above = map_has_way now is path other at p n r cut in
        record { attributes = above.attributes; is = as_map p (low p (ap (path_cmp p) cut ∙ below_longer p n r)) ∙ above.is }

    way_here : HasWay made.nodes place
    way_here = way_made place node there (λ p low. low)

    new : get made.nodes place ≡ None
    new = so_far.nodes place ∙ not_yet

    -- ---- what is there then

    found_longer : (q : Path) → entry.find path_cmp q longer ≡ cond (same_path q place) (Some node) (entry.find path_cmp q prefix)
    found_longer q = entry.find-append path_cmp path_cmp-IsTotalOrder prefix place node q not_yet ∙ ap (λ b. cond b (Some node) (entry.find path_cmp q prefix)) (same_by_cmp q place)

    has_longer : (q : Path) → has q longer ≡ (same_path q place || has q prefix)
    has_longer q = ap is_some (found_longer q) ∙ either (same_path q place)
      where
        either : (b : Bool) → is_some (cond b (Some node) (entry.find path_cmp q prefix)) ≡ (b || has q prefix)
        either true = refl
        either false = refl

    put_nodes : (q : Path) → get (insert made.nodes place node) q ≡ entry.find path_cmp q longer
    put_nodes q =
        get-insert path_cmp-IsTotalOrder made.nodes place node q
        ∙ ap₂ (λ b found. cond b (Some node) found) (same_by_cmp q place) (so_far.nodes q) ∙ sym (found_longer q)

    -- the pairs, by whether a path is the new one
    module _ (aliases : Aliases)
        (both : is_one aliases place place ≡ one place place)
        (left : (q : Path) → same_path q place ≡ false → is_one aliases place q ≡ (has q prefix && one place q))
        (right : (p : Path) → same_path p place ≡ false → is_one aliases p place ≡ (has p prefix && one p place))
        (neither : (p q : Path) → same_path p place ≡ false → same_path q place ≡ false → is_one aliases p q ≡ is_one made.one p q) where
      put_pairs : (p q : Path) → is_one aliases p q ≡ (has p longer && (has q longer && one p q))
      put_pairs p q = go (same_path p place) refl (same_path q place) refl ∙ sym (ap₂ (λ a b. a && (b && one p q)) (has_longer p) (has_longer q))
        where
          go : (a : Bool) → same_path p place ≡ a → (b : Bool) → same_path q place ≡ b → is_one aliases p q ≡ ((same_path p place || has p prefix) && ((same_path q place || has q prefix) && one p q))
          go true e true f = rw (e, f) (ap₂ (is_one aliases) (same_path-is p place e) (same_path-is q place f) ∙ both ∙ sym (ap₂ one (same_path-is p place e) (same_path-is q place f)))
          go true e false f = rw (e, f) (ap (λ x. is_one aliases x q) (same_path-is p place e) ∙ left q f ∙ sym (ap (λ x. has q prefix && one x q) (same_path-is p place e)))
          go false e true f = rw (e, f) (ap (is_one aliases p) (same_path-is q place f) ∙ right p e ∙ sym (ap (λ x. has p prefix && one p x) (same_path-is q place f)))
          go false e false f = rw (e, f) (neither p q e f ∙ so_far.pairs p q)

    -- no pair has the new path yet
    made_left : (q : Path) → is_one made.one place q ≡ false
    made_left q = so_far.pairs place q ∙ rw not_has refl

    made_right : (p : Path) → is_one made.one p place ≡ false
    made_right p = so_far.pairs p place ∙ rw not_has (and_false _)

    -- ---- a directory

    dir_pairs : (values : Attributes) → node ≡ dir values → (p q : Path) → is_one made.one p q ≡ (has p longer && (has q longer && one p q))
    dir_pairs values is_dir = put_pairs made.one (made_left place ∙ sym (no place)) (λ q e. made_left q ∙ sym (none q (has q prefix) (no q)))
        (λ p e. made_right p ∙ sym (none_back p (has p prefix))) (λ p q e f. refl)
      where
        no : (q : Path) → one place q ≡ false
        no q = dir_alone place values (there ∙ ap Some is_dir) q

        none : (q : Path) (b : Bool) → one place q ≡ false → (b && one place q) ≡ false
        none q b e = rw e (and_false b)

        none_back : (p : Path) (b : Bool) → (b && one p place) ≡ false
        none_back p b = ap (λ x. b && x) (one_back p place ∙ no p) ∙ and_false b

    -- ---- the first path of a file

    module _ (values : Attributes) (content : List ℕ) (is_file : node ≡ file values content) where
      itself : one place place ≡ true
      itself = is.itself place values content (there ∙ ap Some is_file)

      alone_pairs : ((q : Path) → has q prefix ≡ true → one place q ≡ false) → (p q : Path) → is_one (alone made.one place) p q ≡ (has p longer && (has q longer && one p q))
      alone_pairs fresh = put_pairs (alone made.one place) (reported place place ∙ rw (same_path-self place) (sym itself)) left right neither
        where
          reported : (p q : Path) → is_one (alone made.one place) p q ≡ (same_path p place && same_path q place || is_one made.one p q)
          reported p q = contains-insert pair_cmp-IsTotalOrder made.one (place, place) (p, q) ∙ ap (λ b. b || is_one made.one p q) (tie_paths p q place place)

          none : (q : Path) (b : Bool) → has q prefix ≡ b → (has q prefix && one place q) ≡ false
          none q true e = rw (e, fresh q e) refl
          none q false e = rw e refl

          left : (q : Path) → same_path q place ≡ false → is_one (alone made.one place) place q ≡ (has q prefix && one place q)
          left q f = reported place q ∙ rw (f, same_path-self place, made_left q) (sym (none q (has q prefix) refl))

          right : (p : Path) → same_path p place ≡ false → is_one (alone made.one place) p place ≡ (has p prefix && one p place)
          right p e = reported p place ∙ rw (e, made_right p, one_back p place) (sym (none p (has p prefix) refl))

          neither : (p q : Path) → same_path p place ≡ false → same_path q place ≡ false → is_one (alone made.one place) p q ≡ is_one made.one p q
          neither p q e f = reported p q ∙ rw e refl

      -- ---- a later one

      module _ (first : Path) (in_prefix : has first prefix ≡ true) (same : one place first ≡ true) where
        first_here : one first place ≡ true
        first_here = is.back place first same

        linked_pairs : (p q : Path) → is_one (linked made.one first place) p q ≡ (has p longer && (has q longer && one p q))
        linked_pairs = put_pairs (linked made.one first place) (reported place place ∙ rw (same_path-self place) (or_true _ ∙ sym itself)) left right neither
          where
            or_true : (a : Bool) → (a || true) ≡ true
            or_true true = refl
            or_true false = refl

            or_false : (a : Bool) → (a || false) ≡ a
            or_false true = refl
            or_false false = refl

            any_of : (q : Path) → any_path q (paths_of made.one first) ≡ (has q prefix && one place q)
            any_of q = paths_of-any made.one first q ∙ so_far.pairs first q ∙ rw (in_prefix, one_alike place first q same) refl

            reported : (p q : Path) → is_one (linked made.one first place) p q ≡ (is_one made.one p q ||
                (same_path p place && same_path q place || (same_path p place && any_path q (paths_of made.one first) || same_path q place && any_path p (paths_of made.one first))))
            reported p q =
                contains-union pair_cmp-IsTotalOrder made.one _ (p, q)
                ∙ ap (λ b. is_one made.one p q || b) (contains-from_list pair_cmp-IsTotalOrder (pairs_with place (paths_of made.one first)) (p, q) ∙ pairs_of-any p q place (paths_of made.one first))

            left : (q : Path) → same_path q place ≡ false → is_one (linked made.one first place) place q ≡ (has q prefix && one place q)
            left q f = reported place q ∙ rw (f, same_path-self place, made_left q, any_of q) (or_false _)

            right : (p : Path) → same_path p place ≡ false → is_one (linked made.one first place) p place ≡ (has p prefix && one p place)
            right p e = reported p place ∙ rw (e, same_path-self place, made_right p, any_of p, one_back p place) refl

            neither : (p q : Path) → same_path p place ≡ false → same_path q place ≡ false → is_one (linked made.one first place) p q ≡ is_one made.one p q
            neither p q e f = reported p q ∙ rw (e, f) (or_false _)

        first_less : path_cmp first place ≡ Less
        first_less = prefix_less first prefix (place, node) after sorted in_prefix

        first_is : get now.nodes first ≡ Some (file values content)
        first_is =
            let both = is.files place first same in
            let same_file : ◌≡◌ {A = Option Node} (Some (file both.attributes both.bytes)) (Some (file values content)) = sym both.one ∙ there ∙ ap Some is_file in
            both.other ∙ same_file

        first_made : get made.nodes first ≡ Some (file values content)
        first_made = as_map first first_less ∙ first_is

        first_way : HasWay made.nodes first
        first_way = way_made first (file values content) first_is (λ p low. path_cmp-IsTotalOrder.trans p first place low first_less)

        name_prefix : IsPrefix longer (with_name made first place)
        name_prefix = record {
          nodes = λ q. ap (λ n. get (insert made.nodes place n) q) (ap (λ o. file (attributes_in o) (bytes_in o)) first_made ∙ sym is_file) ∙ put_nodes q;
          pairs = linked_pairs;
        }

    -- ---- the calls

    -- these calls are all done, and make the entry
    abbrev Goes : List Call → Type 0
    Goes calls = (next : PathMap) × AllDone (stage tree.version made) calls (stage tree.version next) × IsPrefix longer next

    spells : parse (path_text place) ≡ Some place
    spells = spelled name rest node there

    -- the first path of what stands here
    first_is_of : (o : Option Path) → find (one place) (paths prefix) ≡ o → first_of now place ≡ unwrap_or o place
    first_is_of o found = first_before now is prefix (place, node) after are ∙ ap (λ x. unwrap_or x place) found

    own_goes : first_of now place ≡ place → IsPrefix longer (placed made place node) → Goes (calls_at now (place, node))
    own_goes own next = (
      placed made place node,
      rw (own, same_path-self place) (node_done tree.version made name rest way_here spells made_left new node (λ values content is_file. can.sized place values content (there ∙ ap Some is_file))
          (many_at place node there) (early_at place node there)),
      next,
    )

    dir_goes : (values : Attributes) → node ≡ dir values → Goes (calls_at now (place, node))
    dir_goes values is_dir =
        own_goes (first_is_of None (none_passes (one place) (paths prefix) (λ q. dir_alone place values (there ∙ ap Some is_dir) q)))
        (subst (λ n. IsPrefix longer (placed made place n)) (sym is_dir) (record {
          nodes = λ q. ap (λ n. get (insert made.nodes place n) q) (sym is_dir) ∙ put_nodes q;
          pairs = dir_pairs values is_dir;
        }))

    file_goes : (values : Attributes) (content : List ℕ) → node ≡ file values content → Goes (calls_at now (place, node))
    file_goes values content is_file = go (find (one place) (paths prefix)) refl
      where
        go : (o : Option Path) → find (one place) (paths prefix) ≡ o → Goes (calls_at now (place, node))
        go None none =
            own_goes (first_is_of None none)
            (subst (λ n. IsPrefix longer (placed made place n)) (sym is_file) (record {
              nodes = λ q. ap (λ n. get (insert made.nodes place n) q) (sym is_file) ∙ put_nodes q;
              pairs = alone_pairs values content is_file (none_there (one place) prefix none);
            }))
        go (Some first) found = link_goes_on first (first_there (one place) prefix first found) (first_is_of (Some first) found)
          where
            link_goes_on : (first : Path) → (one place first ≡ true) × (has first prefix ≡ true) → first_of now place ≡ first → Goes (calls_at now (place, node))
            link_goes_on [] both is_first =
                let files = is.files place [] both.0 in
                let wrong : ◌≡◌ {A = Option Node} (Some root) (Some (file files.attributes files.bytes)) = sym is.root.is ∙ files.other in absurd (cc)
            link_goes_on (other ∷ more) both is_first = (
              with_name made (other ∷ more) place,
              rw (is_first, apart) (
                stage tree.version (with_name made (other ∷ more) place),
                link_goes (stage tree.version made) (path_text (other ∷ more)) (other ∷ more) (spelled other more (file values content) (first_is values content is_file (other ∷ more) both.1 both.0))
                    (path_text place) place values content spells
                    (walks made.nodes (other ∷ more) (file values content) (first_way values content is_file (other ∷ more) both.1 both.0) (first_made values content is_file (other ∷ more) both.1 both.0))
                    (first_made values content is_file (other ∷ more) both.1 both.0) refl (walks_parent made.nodes name rest way_here) new,
                refl,
              ),
              name_prefix values content is_file (other ∷ more) both.1 both.0,
            )
              where
                apart : same_path (other ∷ more) place ≡ false
                apart = differs (same_path (other ∷ more) place) refl
                  where
                    differs : (b : Bool) → same_path (other ∷ more) place ≡ b → same_path (other ∷ more) place ≡ false
                    differs true e = absurd (true≢false (sym both.1 ∙ ap (λ q. has q prefix) (same_path-is (other ∷ more) place e) ∙ not_has))
                    differs false e = e

    entry_goes : (n : Node) → node ≡ n → Goes (calls_at now (place, node))
    entry_goes (dir values) e = dir_goes values e
    entry_goes (file values content) e = file_goes values content e

  -- ---- the entries from one on

  rest_done : (before after : List Entry) (made : PathMap) → entries now.nodes ≡ (([], root) ∷ before) ++ after → IsPrefix (([], root) ∷ before) made
      → AllDone (stage tree.version made) (flat_map (calls_at now) after) (without_snapshot tree)
  rest_done before [] made are so_far =
      let all : ([], root) ∷ before ≡ entries now.nodes = sym (append-nil (([], root) ∷ before)) ∙ sym are in
      ap (stage tree.version) (whole_prefix made (subst (λ es. IsPrefix es made) all so_far))
  rest_done before (([], node) ∷ after) made are so_far =
      let none : ◌≡◌ {A = Option Node} (Some root) None = new_path (([], root) ∷ before) ([], node) after (subst (λ es. T (is_sorted path_cmp es)) are (entries_sorted now.nodes)) in
      absurd (true≢false (ap is_some none))
  rest_done before ((name ∷ rest, node) ∷ after) made are so_far =
      let one_more = entry_goes (([], root) ∷ before) after name rest node are made so_far node refl in
      AllDone-append (stage tree.version made) (stage tree.version one_more.0) (without_snapshot tree) (calls_at now (name ∷ rest, node)) (flat_map (calls_at now) after) one_more.1
      (rest_done (before ++ (name ∷ rest, node) ∷ []) after one_more.0 (are ∙ sym (append_assoc (([], root) ∷ before) ((name ∷ rest, node) ∷ []) after)) one_more.2)

  -- the root's attributes
  root_done : AllDone (empty_tree tree.version) (sets_of root_text (attributes_at now.nodes [])) (stage tree.version root_map)
  root_done =
      subst (λ values. AllDone (empty_tree tree.version) (sets_of root_text values) (stage tree.version root_map)) (sym (ap attributes_in is.root.is))
      (dir_sets tree.version nothing root_text [] refl no_way is.root.attributes (many_at [] root is.root.is) (early_at [] root is.root.is))

  pub export_done : AllDone (empty_tree tree.version) (export_calls tree) (without_snapshot tree)
  export_done = go (entries now.nodes) refl (sym (get-entries now.nodes []) ∙ is.root.is)
    where
      go : (es : List Entry) → entries now.nodes ≡ es → entry.find path_cmp [] (entries now.nodes) ≡ Some root → AllDone (empty_tree tree.version) (export_calls tree) (without_snapshot tree)
      go [] are there = let none : ◌≡◌ {A = Option Node} None (Some root) = rw are at there in absurd (cc)
      go (([], node) ∷ es) are there =
          let same : ◌≡◌ {A = Option Node} (Some node) (Some root) = rw are at there in
          let is_dir : node ≡ root = cc in
          let cut : entries now.nodes ≡ ([], root) ∷ es = are ∙ ap (λ n. ([], n) ∷ es) is_dir in
          subst (λ all. AllDone (empty_tree tree.version) (flat_map (calls_at now) all) (without_snapshot tree)) (sym cut)
          (AllDone-append (empty_tree tree.version) (stage tree.version root_map) (without_snapshot tree) (calls_at now ([], root)) (flat_map (calls_at now) es) root_done
          (rest_done [] es root_map cut root_prefix))
      go ((name ∷ rest, node) ∷ es) are there =
          let sorted : T (is_sorted path_cmp ((name ∷ rest, node) ∷ es)) = subst (λ es. T (is_sorted path_cmp es)) are (entries_sorted now.nodes) in
          let later : entry.find path_cmp [] es ≡ Some root = rw are at there in
          let none : ◌≡◌ {A = Option Node} None (Some root) = sym (find_below [] es (below_further [] (name ∷ rest) es refl (left_holds _ _ sorted))) ∙ later in
          absurd (cc)
