-- From a directory to an entry of it, and on to the next.
use Rattle.std.proofs.Common.{◌≡◌, ℕ, ◌+◌, ◌≤◌, List, [], ◌∷◌, ◌++◌, length, map, take, drop, flat_map, None, Some, option_and_then, refl, sym, ◌∙◌, ap, subst, arith, append_assoc, append-nil, take_all}
use Rattle.std.specs.Prelude.{All, slice_get}
use Rattle.std.specs.Option.{option_map}
use Rattle.std.specs.FinMap.{entries, get}
use Rattle.std.proofs.Math.Seq.{drop-append_seam, take-append_seam}
use Rattle.std.proofs.lemmas.Grind.{flat_map-append}
use Rattle.std.proofs.lemmas.List.{length-map, take-append-drop, take_more}
use Rattle.std.proofs.lemmas.List.Elements.{All-drop, All-get_or, All-take}
use Rattle.std.proofs.lemmas.List.Folds.{flat_map-map}
use Rattle.std.proofs.lemmas.Option.{get_or_from_slice_get, slice_get-map, slice_get_within}
use Rattle.bp_layout.specs.Directory.{lookup_in}
use Rattle.bp_layout.specs.Paths.{Attributes, Name, Node, Path}
use Rattle.bp_layout.specs.Inode.{IsDirectory, IsFile, attributes_of}
use Rattle.bp_layout.specs.Lookup.{lookup, node_of}
use Rattle.bp_layout.specs.Paths.Node.{dir, file}
use Rattle.bp_layout.specs.Words.{Image}
use Rattle.bp_layout.proofs.Paths.{lookup_from-append}
use Rattle.bp_plain.specs.Calls.{Call}
use Rattle.bp_plain.specs.Export.{IsWalked, calls_at, entries_below, path_text}
use Rattle.bp_plain.specs.Plain.{listing}
use Rattle.bp_plain.specs.PlainTree.{PathMap}
use Rattle.bp_plain.proofs.FileTrees.{shows_path_map}
use Rattle.bp_plain.proofs.PathWays.{Entry}
use Rattle.bp_plain.proofs.Walked.{map_walked}
use Rattle.bp_export.specs.Entries.{AreEntries}
use Rattle.bp_export.specs.Firsts.{first_text}
use Rattle.bp_script.specs.Export.{FitsText}
use Rattle.bp_export.specs.Walking.{CanExport, Place, RemembersFirsts, WalkStandsAt, entries_at, inside, itself, names_in, text_of_first}
use Rattle.bp_export.specs.declared.firsts.Firsts.{Firsts}
use Rattle.bp_export.proofs.FirstTexts.{finds_none, no_file_here}

-- ---- lists

next_taken : (xs : List Name) (k : ℕ) (x : Name) → slice_get xs k ≡ Some x → take (k + 1) xs ≡ take k xs ++ x ∷ []
next_taken xs k x at =
    take_more xs k x (slice_get_within xs k x at) ∙ ap (λ y. take k xs ++ y ∷ []) (get_or_from_slice_get xs k x x at)

cut_at : (xs : List Name) (k : ℕ) (x : Name) → slice_get xs k ≡ Some x → xs ≡ take k xs ++ x ∷ drop (k + 1) xs
cut_at xs k x at =
    sym (take-append-drop (k + 1) xs) ∙ ap (λ l. l ++ drop (k + 1) xs) (next_taken xs k x at) ∙ append_assoc (take k xs) (x ∷ []) (drop (k + 1) xs)

All_middle : (P : Call → Type 0) (xs ys zs : List Call) → All P (xs ++ (ys ++ zs)) → All P ys
All_middle P xs ys zs all =
    rw take-append_seam at (All-take P (length ys) (ys ++ zs) (rw drop-append_seam at (All-drop P (length xs) (xs ++ (ys ++ zs)) all)))

-- ---- parts of a tree

pub calls-append : (tree : PathMap) (xs ys : List Entry) → flat_map (calls_at tree) (xs ++ ys) ≡ flat_map (calls_at tree) xs ++ flat_map (calls_at tree) ys
calls-append tree xs ys = flat_map-append (calls_at tree) xs ys

pub text_further : (path : Path) (name : Name) → path_text (path ++ name ∷ []) ≡ path_text path ++ 47 ∷ name
text_further path name = flat_map-append (λ n. 47 ∷ n) path (name ∷ []) ∙ ap (λ l. path_text path ++ l) (append-nil (47 ∷ name))

entries_at-append : (tree : PathMap) (path : Path) (xs ys : List Name) → entries_at tree path (xs ++ ys) ≡ entries_at tree path xs ++ entries_at tree path ys
entries_at-append tree path xs ys = flat_map-append (λ name. entries_below tree (path ++ name ∷ [])) xs ys

module _ (image : Image) (tree : PathMap) (can : CanExport image tree) where
  walked : IsWalked tree
  walked = map_walked tree (shows_path_map image tree can.shows)

  directory_here : (path : Path) (attributes : Attributes) → get tree.nodes path ≡ Some (dir attributes) → entries_below tree path ≡ (path, dir attributes) ∷ inside tree path
  directory_here path attributes at =
      walked.at_dir path attributes at ∙ ap (λ es. (path, dir attributes) ∷ es) (sym (flat_map-map (λ name. entries_below tree (path ++ name ∷ [])) (λ entry. entry.1) (listing tree.nodes path)))

  node_here : (path : Path) (i : ℕ) → lookup image path ≡ Some i → get tree.nodes path ≡ Some (node_of image i)
  node_here path i found = can.shows.shows path ∙ ap (option_map (node_of image)) found

  node-directory : (i : ℕ) → IsDirectory image i → node_of image i ≡ dir (attributes_of image i)
  node-directory i kind = rw kind refl

  -- ---- the root

  abbrev pub root_place : Place
  root_place = record { tree = tree; path = []; noted = ([], dir (attributes_of image 1)) ∷ []; later = [] }

  pub stands_at_root : (counts : List ℕ) (firsts : Firsts) → ((i : ℕ) → first_text firsts i ≡ None) → WalkStandsAt image counts inside 1 [] firsts root_place
  stands_at_root counts firsts none = record {
    can = can;
    found = refl;
    spelled = refl;
    order = sym walked.all ∙ directory_here [] (attributes_of image 1) root_here ∙ ap (λ es. ([], dir (attributes_of image 1)) ∷ es) (sym (append-nil (inside tree [])));
    remembers = record { each = λ i several. none i ∙ sym (nothing i) };
  }
    where
      kind : IsDirectory image 1
      kind = can.shows.well_formed.root_kind

      root_here : get tree.nodes [] ≡ Some (dir (attributes_of image 1))
      root_here = node_here [] 1 refl ∙ ap Some (node-directory 1 kind)

      nothing : (i : ℕ) → text_of_first image i (([], dir (attributes_of image 1)) ∷ []) ≡ None
      nothing i = rw (finds_none image i [] (no_file_here image [] 1 refl kind)) refl

-- ---- the calls of what is next

pub fits_next : (image : Image) (counts : List ℕ) (next : PathMap → Path → List Entry) (i : ℕ) (text : List ℕ) (firsts : Firsts) (place : Place) → WalkStandsAt image counts next i text firsts place
    → All FitsText (flat_map (calls_at place.tree) (next place.tree place.path))
fits_next image counts next i text firsts place stands =
    All_middle FitsText (flat_map (calls_at place.tree) place.noted) (flat_map (calls_at place.tree) (next place.tree place.path)) (flat_map (calls_at place.tree) place.later)
    (subst (All FitsText) (ap (flat_map (calls_at place.tree)) stands.order ∙ calls-append place.tree place.noted _ ∙ ap (λ l. flat_map (calls_at place.tree) place.noted ++ l) (calls-append place.tree (next place.tree place.path) place.later)) stands.can.fits)

-- ---- an entry of a directory

module _ (image : Image) (counts : List ℕ) (i : ℕ) (text : List ℕ) (before : Firsts) (place : Place) (stands : WalkStandsAt image counts inside i text before place)
    (rows : List (ℕ × Name)) (are : AreEntries image i rows) where
  abbrev tree : PathMap
  tree = place.tree

  abbrev names : List Name
  names = names_in tree place.path

  listed : map (λ (row : ℕ × Name). row.1) rows ≡ names
  listed = are.names tree place.path stands.can.shows stands.found

  -- what is reported before the k-th entry
  abbrev pub entries_to : ℕ → List Entry
  entries_to k = entries_at tree place.path (take k names)

  abbrev pub reported_to : ℕ → List Entry
  reported_to k = place.noted ++ entries_to k

  pub reported_none : reported_to 0 ≡ place.noted
  reported_none = append-nil place.noted

  pub entries_all : (k : ℕ) → length rows ≤ k → entries_to k ≡ inside tree place.path
  entries_all k all = ap (entries_at tree place.path) (take_all k names (omega (arith, ap length listed, length-map rows (λ (row : ℕ × Name). row.1), all)))

  module _ (k j : ℕ) (name : Name) (at : slice_get rows k ≡ Some (j, name)) where
    at_name : slice_get names k ≡ Some name
    at_name = ap (λ l. slice_get l k) (sym listed) ∙ slice_get-map (λ (row : ℕ × Name). row.1) rows k ∙ ap (option_map (λ (row : ℕ × Name). row.1)) at

    finds : lookup_in image i name ≡ Some j
    finds =
        subst (λ (row : ℕ × Name). lookup_in image i row.1 ≡ Some row.0) (get_or_from_slice_get rows k (j, name) (j, name) at)
        (All-get_or (λ (row : ℕ × Name). lookup_in image i row.1 ≡ Some row.0) rows k (j, name) (slice_get_within rows k (j, name) at) are.found)

    abbrev pub child : Path
    child = place.path ++ name ∷ []

    pub child_found : lookup image child ≡ Some j
    child_found = lookup_from-append image 1 place.path name ∙ ap (option_and_then (λ u. lookup_in image u name)) stands.found ∙ finds

    pub child_text : text ++ 47 ∷ name ≡ path_text child
    child_text = ap (λ l. l ++ 47 ∷ name) stands.spelled ∙ sym (text_further place.path name)

    child_there : get tree.nodes child ≡ Some (node_of image j)
    child_there = node_here image tree stands.can child j child_found

    pub child_short : length (text ++ 47 ∷ name) ≤ 4096
    child_short = rw child_text (stands.can.short child (node_of image j) child_there)

    -- what is below the entry
    abbrev pub below_node : Node → List Entry
    below_node (dir attributes) = inside tree child
    below_node (file attributes content) = []

    below_child : entries_below tree child ≡ itself image j tree child ++ below_node (node_of image j)
    below_child = go (node_of image j) refl
      where
        go : (node : Node) → node_of image j ≡ node → entries_below tree child ≡ (child, node_of image j) ∷ below_node (node_of image j)
        go (dir attributes) is = rw is (directory_here image tree stands.can child attributes (child_there ∙ ap Some is))
        go (file attributes content) is = rw is ((walked image tree stands.can).at_file child attributes content (child_there ∙ ap Some is))

    abbrev pub following : List Entry
    following = entries_at tree place.path (drop (k + 1) names)

    pub whole : inside tree place.path ≡ entries_to k ++ ((itself image j tree child ++ below_node (node_of image j)) ++ following)
    whole =
        ap (entries_at tree place.path) (cut_at names k name at_name) ∙ entries_at-append tree place.path (take k names) (name ∷ drop (k + 1) names)
        ∙ ap (λ es. entries_to k ++ (es ++ following)) below_child

    order : (rest : List Entry) → below_node (node_of image j) ≡ rest → entries tree.nodes ≡ reported_to k ++ (itself image j tree child ++ (rest ++ (following ++ place.later)))
    order rest is = rw (← is) (
        stands.order ∙ ap (λ es. place.noted ++ (es ++ place.later)) whole
        ∙ ap (λ es. place.noted ++ es) (append_assoc (entries_to k) ((itself image j tree child ++ below_node (node_of image j)) ++ following) place.later
        ∙ ap (λ es. entries_to k ++ es) (append_assoc (itself image j tree child ++ below_node (node_of image j)) following place.later))
        ∙ sym (append_assoc place.noted (entries_to k) ((itself image j tree child ++ below_node (node_of image j)) ++ (following ++ place.later))))

    -- the walk stands at the entry, and then in it, where it is a directory
    abbrev pub child_place : Place
    child_place = record { tree = tree; path = child; noted = reported_to k; later = below_node (node_of image j) ++ (following ++ place.later) }

    pub stands_at_child : (firsts : Firsts) → RemembersFirsts image counts firsts (reported_to k) → WalkStandsAt image counts (itself image j) j (text ++ 47 ∷ name) firsts child_place
    stands_at_child firsts remembers = record {
      can = stands.can;
      found = child_found;
      spelled = child_text;
      order = order (below_node (node_of image j)) refl;
      remembers = remembers;
    }

    abbrev pub inner_place : Place
    inner_place = record { tree = tree; path = child; noted = reported_to k ++ itself image j tree child; later = following ++ place.later }

    pub is_dir : IsDirectory image j → below_node (node_of image j) ≡ inside tree child
    is_dir kind = ap below_node (node-directory image tree stands.can j kind)

    pub stands_in_child : IsDirectory image j → (firsts : Firsts) → RemembersFirsts image counts firsts (reported_to k ++ itself image j tree child) → WalkStandsAt image counts inside j (text ++ 47 ∷ name) firsts inner_place
    stands_in_child kind firsts remembers = record {
      can = stands.can;
      found = child_found;
      spelled = child_text;
      order = order (inside tree child) (is_dir kind) ∙ sym (append_assoc (reported_to k) (itself image j tree child) (inside tree child ++ (following ++ place.later)));
      remembers = remembers;
    }

    -- ---- and then at the next one

    next_entries : entries_to (k + 1) ≡ entries_to k ++ (itself image j tree child ++ below_node (node_of image j))
    next_entries =
        ap (entries_at tree place.path) (next_taken names k name at_name) ∙ entries_at-append tree place.path (take k names) (name ∷ [])
        ∙ ap (λ es. entries_to k ++ es) (append-nil (entries_below tree child) ∙ below_child)

    pub next_file : IsFile image j → entries_to (k + 1) ≡ entries_to k ++ itself image j tree child
    next_file kind = next_entries ∙ ap (λ es. entries_to k ++ es) (ap (λ es. itself image j tree child ++ es) (go kind) ∙ append-nil (itself image j tree child))
      where
        go : IsFile image j → below_node (node_of image j) ≡ []
        go kind = rw kind refl

    pub next_directory : IsDirectory image j → entries_to (k + 1) ≡ entries_to k ++ (itself image j tree child ++ inside tree child)
    next_directory kind = next_entries ∙ ap (λ es. entries_to k ++ (itself image j tree child ++ es)) (is_dir kind)

    pub reported_file : IsFile image j → reported_to (k + 1) ≡ reported_to k ++ itself image j tree child
    reported_file kind = ap (λ es. place.noted ++ es) (next_file kind) ∙ sym (append_assoc place.noted (entries_to k) (itself image j tree child))

    pub reported_directory : IsDirectory image j → reported_to (k + 1) ≡ (reported_to k ++ itself image j tree child) ++ inside tree child
    reported_directory kind =
        ap (λ es. place.noted ++ es) (next_directory kind) ∙ sym (append_assoc place.noted (entries_to k) (itself image j tree child ++ inside tree child))
        ∙ sym (append_assoc (reported_to k) (itself image j tree child) (inside tree child))
