-- The calls of one path of an export make what stands there.
use Rattle.std.proofs.Common.{◌≡◌, ◌⊎◌, inl, inr, ℕ, zero, suc, ◌+◌, ◌-◌, ◌*◌, ◌/◌, ◌<◌, ◌≤◌, ◌==◌, ◌||◌, Bool, true, false, not, cond, List, [], ◌∷◌, ◌++◌, length, take, drop, replicate, None, Some, nat_lt, slice_set, flat_map, refl, sym, ◌∙◌, ap, ap₂, subst, arith, length-drop, length-take, take_all, if◌then◌else◌}
use Rattle.std.specs.Option.{unwrap_or}
use Rattle.std.specs.Ordering.{eq_by_cmp}
use Rattle.std.specs.List.{range_with_len}
use Rattle.std.specs.FinMap.{get, insert, get-insert, same_map}
use Rattle.std.specs.FinSet.{contains-insert}
use Rattle.std.proofs.lemmas.List.{take_at}
use Rattle.std.proofs.lemmas.Bool.{eqb-true, lt-ltb, le-ltb, ltb-true, ltb-false}
use Rattle.bp_limits.specs.Limits.{attributes, block_size}
use Rattle.bp_limits.specs.CallLimits.{allows_attributes, greatest_size, greatest_write}
use Rattle.bp_limits.specs.declared.version.Version.{Version}
use Rattle.bp_limits.specs.declared.version.Version.TheVariants.{One, Two, Three}
use Rattle.bp_layout.specs.Paths.{Attributes, same_path, Name, Path, Node, no_attributes, parse}
use Rattle.bp_layout.specs.Paths.Node.{dir, file}
use Rattle.bp_layout.proofs.Below.{same_path-self}
use Rattle.bp_plain.specs.Calls.{Call, Answer}
use Rattle.bp_plain.specs.Calls.Call.{create, link, mkdir, set_attribute, write, truncate}
use Rattle.bp_plain.specs.Calls.Answer.{done}
use Rattle.bp_plain.specs.Plain.{alone, answer_or, attributes_in, bytes_at, bytes_in, is_root_path, path_named, paths_of, plain, refusal, resized, walk, walk_parent, with_attribute, with_attributes, with_content, with_dir, with_file, with_name, with_node_at, with_now, with_written, written}
use Rattle.bp_plain.specs.PlainTree.{FileTree, Nodes, PathMap, is_one, path_cmp}
use Rattle.bp_plain.specs.Export.{AllDone, calls_for, is_zeros, path_text, set_of, sets_of, size_call, stretch, stretches, write_of, writes_of}
use Rattle.bp_plain.proofs.Kernels.{any_path, get-with_node_at, paths_of-any, same_by_cmp, tie_paths}
use Rattle.bp_plain.proofs.MadeFiles.{Made, made_whole, made_written, made_zeros}
use Rattle.bp_plain.proofs.PathOrder.{pair_cmp-IsTotalOrder, path_cmp-IsAntisymmetric, path_cmp-IsTotalOrder}
use Rattle.bp_plain.proofs.PathWays.{HasWay, get_inserted, insert_keeps_way, walks, walks_parent}

-- ---- a list of calls in parts

pub AllDone-append : (a b c : FileTree) (xs ys : List Call) → AllDone a xs b → AllDone b ys c → AllDone a (xs ++ ys) c
AllDone-append a b c [] ys one two = subst (λ t. AllDone t ys c) (sym one) two
AllDone-append a b c (x ∷ xs) ys one two = (one.0, one.1, AllDone-append one.0 b c xs ys one.2 two)

-- ---- calls that are not refused

abbrev pub finished : FileTree → Answer × FileTree
finished tree = (done, tree)

module _ (tree : FileTree) (text : List ℕ) (path : Path) (spells : parse text ≡ Some path) where
  named_here : path_named text ≡ path
  named_here = ap (λ o. unwrap_or o []) spells

  write_goes : (attributes : Attributes) (made new : List ℕ) (offset : ℕ) → walk tree.now.nodes path ≡ None → get tree.now.nodes path ≡ Some (file attributes made)
      → nat_lt (greatest_write tree.version) (length new) ≡ false → nat_lt (greatest_size tree.version) (offset + length new) ≡ false → nat_lt 0 (length new) ≡ true
      → plain tree (write text offset new) ≡ finished (with_now tree (with_content tree.now path (written made offset new)))
  write_goes attributes made new offset way at long large some =
      ap (answer_or tree (write text offset new)) refuses
      ∙ ap₂ (λ b p. finished (if b then with_now tree (with_written tree.now p offset new) else tree)) some named_here
      ∙ ap (λ o. finished (with_now tree (with_content tree.now path (written (bytes_in o) offset new)))) at
    where
      refuses : refusal tree (write text offset new) ≡ None
      refuses = rw (spells, long, way, at, some, large) refl

  truncate_goes : (attributes : Attributes) (made : List ℕ) (size : ℕ) → walk tree.now.nodes path ≡ None → get tree.now.nodes path ≡ Some (file attributes made) → nat_lt (greatest_size tree.version) size ≡ false
      → plain tree (truncate text size) ≡ finished (if not (size == length made) then with_now tree (with_content tree.now path (resized made size)) else tree)
  truncate_goes attributes made size way at large =
      ap (answer_or tree (truncate text size)) refuses
      ∙ ap (λ p. finished (if not (size == length (bytes_at tree.now.nodes p)) then with_now tree (with_content tree.now p (resized (bytes_at tree.now.nodes p) size)) else tree)) named_here
      ∙ ap (λ o. finished (if not (size == length (bytes_in o)) then with_now tree (with_content tree.now path (resized (bytes_in o) size)) else tree)) at
    where
      refuses : refusal tree (truncate text size) ≡ None
      refuses = rw (spells, way, at, large) refl

  create_goes : is_root_path path ≡ false → walk_parent tree.now.nodes path ≡ None → get tree.now.nodes path ≡ None
      → plain tree (create text) ≡ finished (with_now tree (with_file tree.now path))
  create_goes inner way none = ap (answer_or tree (create text)) refuses ∙ ap (λ p. finished (with_now tree (with_file tree.now p))) named_here
    where
      refuses : refusal tree (create text) ≡ None
      refuses = rw (spells, inner, way, none) refl

  mkdir_goes : is_root_path path ≡ false → walk_parent tree.now.nodes path ≡ None → get tree.now.nodes path ≡ None
      → plain tree (mkdir text) ≡ finished (with_now tree (with_dir tree.now path))
  mkdir_goes inner way none = ap (answer_or tree (mkdir text)) refuses ∙ ap (λ p. finished (with_now tree (with_dir tree.now p))) named_here
    where
      refuses : refusal tree (mkdir text) ≡ None
      refuses = rw (spells, inner, way, none) refl

  -- another path of a file
  pub link_goes : (to_text : List ℕ) (to : Path) (attributes : Attributes) (made : List ℕ) → parse to_text ≡ Some to → walk tree.now.nodes path ≡ None
      → get tree.now.nodes path ≡ Some (file attributes made)
      → is_root_path to ≡ false → walk_parent tree.now.nodes to ≡ None → get tree.now.nodes to ≡ None
      → plain tree (link text to_text) ≡ finished (with_now tree (with_name tree.now path to))
  link_goes to_text to attributes made spells_to way at inner above none =
      ap (answer_or tree (link text to_text)) refuses
      ∙ ap₂ (λ p q. finished (with_now tree (with_name tree.now p q))) named_here (ap (λ o. unwrap_or o []) spells_to)
    where
      refuses : refusal tree (link text to_text) ≡ None
      refuses = rw (spells, spells_to, way, at, inner, above, none) refl

  set_goes : (number value : ℕ) → allows_attributes tree.version ≡ true → walk tree.now.nodes path ≡ None
      → plain tree (set_attribute text number value) ≡ finished (with_now tree (with_attribute tree.now path number value))
  set_goes number value allowed way =
      ap (answer_or tree (set_attribute text number value)) refuses ∙ ap (λ p. finished (with_now tree (with_attribute tree.now p number value))) named_here
    where
      refuses : refusal tree (set_attribute text number value) ≡ None
      refuses = rw (spells, allowed, way) refl

-- ---- the attributes of one file or directory

-- the trees that differ in these attributes only, and a call that sets one of them
module _ (version : Version) (text : List ℕ) (state : Attributes → FileTree)
    (step : allows_attributes version ≡ true → (values : Attributes) (number value : ℕ)
    → plain (state values) (set_attribute text number value) ≡ finished (state (slice_set values number value))) where
  one_set : allows_attributes version ≡ true → (values new : Attributes) (number value : ℕ) → slice_set values number value ≡ new → (value ≡ 0 → values ≡ new)
      → AllDone (state values) (if value == 0 then [] else set_attribute text number value ∷ []) (state new)
  one_set allowed values new number value set same = go (value == 0) refl
    where
      go : (b : Bool) → (value == 0) ≡ b → AllDone (state values) (if value == 0 then [] else set_attribute text number value ∷ []) (state new)
      go true at = rw at (ap state (same (eqb-true value 0 at)))
      go false at = rw at (state new, step allowed values number value ∙ ap (λ xs. finished (state xs)) set, refl)

  three_set : allows_attributes version ≡ true → (a b c : ℕ) → AllDone (state no_attributes) (sets_of text (a ∷ b ∷ c ∷ [])) (state (a ∷ b ∷ c ∷ []))
  three_set allowed a b c =
      let values : Attributes = a ∷ b ∷ c ∷ [] in
      let none : Attributes = no_attributes in
      let one : Attributes = a ∷ 0 ∷ 0 ∷ [] in
      let two : Attributes = a ∷ b ∷ 0 ∷ [] in
      AllDone-append (state none) (state one) (state values) (set_of text values 0) (set_of text values 1 ++ (set_of text values 2 ++ []))
      (one_set allowed none one 0 a refl (λ e. ap (λ x. x ∷ 0 ∷ 0 ∷ []) (sym e)))
      (AllDone-append (state one) (state two) (state values) (set_of text values 1) (set_of text values 2 ++ [])
      (one_set allowed one two 1 b refl (λ e. ap (λ x. a ∷ x ∷ 0 ∷ []) (sym e)))
      (AllDone-append (state two) (state values) (state values) (set_of text values 2) []
      (one_set allowed two values 2 c refl (λ e. ap (λ x. a ∷ b ∷ x ∷ []) (sym e)))
      refl))

  -- all are set, if the version has any
  pub sets_done : (values : Attributes) → length values ≡ attributes → (allows_attributes version ≡ false → values ≡ no_attributes)
      → AllDone (state no_attributes) (sets_of text values) (state values)
  sets_done values many early = go (allows_attributes version) refl values many early
    where
      go : (b : Bool) → allows_attributes version ≡ b → (values : Attributes) → length values ≡ attributes → (allows_attributes version ≡ false → values ≡ no_attributes)
          → AllDone (state no_attributes) (sets_of text values) (state values)
      go false at values many early = rw (early at) refl
      go true at (a ∷ b ∷ c ∷ []) many early = three_set at a b c
      go true at [] many early = absurd (omega (arith, many))
      go true at (a ∷ []) many early = absurd (omega (arith, many))
      go true at (a ∷ b ∷ []) many early = absurd (omega (arith, many))
      go true at (a ∷ b ∷ c ∷ d ∷ more) many early = absurd (omega (arith, many))

-- ---- the calls at a new path

-- a tree of a version, and without a snapshot
abbrev pub stage : Version → PathMap → FileTree
stage version map = record { version = version; now = map; snap = None }

-- the map with a directory with these attributes at a path
abbrev pub dir_put : PathMap → Path → Attributes → PathMap
dir_put map path values = record { nodes = insert map.nodes path (dir values); one = map.one }

-- the map with a node at a new path
abbrev pub placed : PathMap → Path → Node → PathMap
placed map path (dir values) = dir_put map path values
placed map path (file values content) = record { nodes = insert map.nodes path (file values content); one = alone map.one path }

twice : {A : Type 0} (b : Bool) (new old found : A) → cond b new (cond b old found) ≡ cond b new found
twice true new old found = refl
twice false new old found = refl

-- another node where there is one
insert_again : (nodes : Nodes) (path : Path) (old new : Node) → insert (insert nodes path old) path new ≡ insert nodes path new
insert_again nodes path old new = same_map path_cmp-IsTotalOrder path_cmp-IsAntisymmetric _ _ same
  where
    same : (q : Path) → get (insert (insert nodes path old) path new) q ≡ get (insert nodes path new) q
    same q =
        get-insert path_cmp-IsTotalOrder (insert nodes path old) path new q
        ∙ ap (cond (eq_by_cmp path_cmp q path) (Some new)) (get-insert path_cmp-IsTotalOrder nodes path old q)
        ∙ twice (eq_by_cmp path_cmp q path) (Some new) (Some old) (get nodes q)
        ∙ sym (get-insert path_cmp-IsTotalOrder nodes path new q)

-- ---- the attributes of a directory

module _ (version : Version) (before : PathMap) (text : List ℕ) (path : Path) (spells : parse text ≡ Some path) (way : HasWay before.nodes path) where
  abbrev dir_map : Attributes → PathMap
  dir_map values = dir_put before path values

  abbrev nodes : Nodes
  nodes = before.nodes

  set_dir : (values new : Attributes) → with_attributes (dir_map values) path new ≡ dir_map new
  set_dir values new = rw (get_inserted nodes path (dir values)) (ap (λ ns. record { nodes = ns; one = before.one }) (insert_again nodes path (dir values) (dir new)))

  dir_step : allows_attributes version ≡ true → (values : Attributes) (number value : ℕ)
      → plain (stage version (dir_map values)) (set_attribute text number value) ≡ finished (stage version (dir_map (slice_set values number value)))
  dir_step allowed values number value =
      set_goes (stage version (dir_map values)) text path spells number value allowed
      (walks (dir_map values).nodes path (dir values) (insert_keeps_way nodes path (dir values) way) (get_inserted nodes path (dir values)))
      ∙ ap (λ found. finished (stage version (with_attributes (dir_map values) path (slice_set (attributes_in found) number value)))) (get_inserted nodes path (dir values))
      ∙ ap (λ map. finished (stage version map)) (set_dir values (slice_set values number value))

  pub dir_sets : (values : Attributes) → length values ≡ attributes → (allows_attributes version ≡ false → values ≡ no_attributes)
      → AllDone (stage version (dir_map no_attributes)) (sets_of text values) (stage version (dir_map values))
  dir_sets = sets_done version text (λ values. stage version (dir_map values)) dir_step

-- ---- the bytes and the attributes of a file

writable : (version : Version) → 4096 ≤ greatest_write version
writable One = omega arith
writable Two = omega arith
writable Three = omega arith

or_false : (a : Bool) → (a || false) ≡ a
or_false true = refl
or_false false = refl

module _ (version : Version) (before : PathMap) (name : Name) (rest : Path) (way : HasWay before.nodes (name ∷ rest))
    (spells : parse (path_text (name ∷ rest)) ≡ Some (name ∷ rest)) (fresh : (q : Path) → is_one before.one (name ∷ rest) q ≡ false) where
  abbrev path : Path
  path = name ∷ rest

  abbrev text : List ℕ
  text = path_text path

  -- a file at the path, with these attributes and bytes
  abbrev filled : Attributes → List ℕ → Node
  filled values made = file values made

  abbrev holding_map : Attributes → List ℕ → PathMap
  holding_map values made = placed before path (filled values made)

  abbrev holding_with : Attributes → List ℕ → FileTree
  holding_with values made = stage version (holding_map values made)

  abbrev holding : List ℕ → FileTree
  holding made = holding_with no_attributes made

  walks_here : (values : Attributes) (made : List ℕ) → walk (holding_map values made).nodes path ≡ None
  walks_here values made =
      walks (holding_map values made).nodes path (filled values made) (insert_keeps_way before.nodes path (filled values made) way) (get_inserted before.nodes path (filled values made))

  -- it is at no other path
  only_here : (q : Path) → any_path q (paths_of (alone before.one path) path) ≡ same_path q path
  only_here q =
      paths_of-any (alone before.one path) path q
      ∙ contains-insert pair_cmp-IsTotalOrder before.one (path, path) (path, q)
      ∙ rw (tie_paths path q path path, same_path-self path, fresh q) (or_false (same_path q path))

  put_here : (old new : Node) → with_node_at (paths_of (alone before.one path) path) new (insert before.nodes path old) ≡ insert before.nodes path new
  put_here old new = same_map path_cmp-IsTotalOrder path_cmp-IsAntisymmetric _ _ same
    where
      same : (q : Path) → get (with_node_at (paths_of (alone before.one path) path) new (insert before.nodes path old)) q ≡ get (insert before.nodes path new) q
      same q =
          get-with_node_at (paths_of (alone before.one path) path) new (insert before.nodes path old) q
          ∙ ap₂ (λ b found. cond b (Some new) found) (only_here q)
          (get-insert path_cmp-IsTotalOrder before.nodes path old q ∙ ap (λ b. cond b (Some old) (get before.nodes q)) (same_by_cmp q path))
          ∙ twice (same_path q path) (Some new) (Some old) (get before.nodes q)
          ∙ sym (get-insert path_cmp-IsTotalOrder before.nodes path new q ∙ ap (λ b. cond b (Some new) (get before.nodes q)) (same_by_cmp q path))

  abbrev with_nodes : Nodes → PathMap
  with_nodes nodes = record { nodes = nodes; one = alone before.one path }

  content_put : (values : Attributes) (old new : List ℕ) → with_content (holding_map values old) path new ≡ holding_map values new
  content_put values old new =
      ap (λ found. with_nodes (with_node_at (paths_of (alone before.one path) path) (file (attributes_in found) new) (holding_map values old).nodes)) (get_inserted before.nodes path (filled values old))
      ∙ ap with_nodes (put_here (filled values old) (filled values new))

  attributes_put : (old new : Attributes) (made : List ℕ) → with_attributes (holding_map old made) path new ≡ holding_map new made
  attributes_put old new made = rw (get_inserted before.nodes path (filled old made)) (ap with_nodes (put_here (filled old made) (filled new made)))

  file_step : (made : List ℕ) → allows_attributes version ≡ true → (values : Attributes) (number value : ℕ)
      → plain (holding_with values made) (set_attribute text number value) ≡ finished (holding_with (slice_set values number value) made)
  file_step made allowed values number value =
      set_goes (holding_with values made) text path spells number value allowed (walks_here values made)
      ∙ ap (λ found. finished (stage version (with_attributes (holding_map values made) path (slice_set (attributes_in found) number value)))) (get_inserted before.nodes path (filled values made))
      ∙ ap (λ map. finished (stage version map)) (attributes_put values (slice_set values number value) made)

  file_sets : (made : List ℕ) (values : Attributes) → length values ≡ attributes → (allows_attributes version ≡ false → values ≡ no_attributes)
      → AllDone (holding made) (sets_of text values) (holding_with values made)
  file_sets made = sets_done version text (λ values. holding_with values made) (file_step made)

  write_done : (made new : List ℕ) (offset : ℕ) → 0 < length new → length new ≤ greatest_write version → offset + length new ≤ greatest_size version
      → plain (holding made) (write text offset new) ≡ (done, holding (written made offset new))
  write_done made new offset some few fits =
      write_goes (holding made) text path spells no_attributes made new offset (walks_here no_attributes made) (get_inserted before.nodes path (filled no_attributes made))
      (le-ltb (greatest_write version) (length new) few) (le-ltb (greatest_size version) (offset + length new) fits) (lt-ltb 0 (length new) some)
      ∙ ap (λ map. finished (stage version map)) (content_put no_attributes made (written made offset new))

  same_length : (made : List ℕ) (size : ℕ) → (size == length made) ≡ true → resized made size ≡ made
  same_length made size same =
      let e : size ≡ length made = eqb-true size (length made) same in
      ap (λ n. take n (made ++ replicate (n - length made) 0)) e ∙ take_at made (replicate (length made - length made) 0) (length made) refl

  truncate_done : (made : List ℕ) (size : ℕ) → size ≤ greatest_size version → plain (holding made) (truncate text size) ≡ (done, holding (resized made size))
  truncate_done made size fits =
      truncate_goes (holding made) text path spells no_attributes made size (walks_here no_attributes made) (get_inserted before.nodes path (filled no_attributes made)) (le-ltb (greatest_size version) size fits)
      ∙ ap finished (go (size == length made) refl)
    where
      go : (b : Bool) → (size == length made) ≡ b → (if not b then stage version (with_content (holding_map no_attributes made) path (resized made size)) else holding made) ≡ holding (resized made size)
      go true at = ap holding (sym (same_length made size at))
      go false at = ap (stage version) (content_put no_attributes made (resized made size))

  module _ (content : List ℕ) (fits : length content ≤ greatest_size version) where
    -- one stretch
    stretch_done : (k : ℕ) (made : List ℕ) → Made content k made → block_size * k < length content
        → (new : List ℕ) × Made content (k + 1) new × AllDone (holding made) (write_of text content k) (holding new)
    stretch_done k made m low = go (is_zeros (stretch content k)) refl
      where
        part : length (stretch content k) ≤ 4096
        part = omega (arith, length-take 4096 (drop (4096 * k) content))

        ends : 4096 * k + length (stretch content k) ≤ length content
        ends = omega (arith, length-take 4096 (drop (4096 * k) content), length-drop (4096 * k) content, low)

        some : 0 < length (stretch content k)
        some = omega (arith, length-take 4096 (drop (4096 * k) content), length-drop (4096 * k) content, low)

        go : (zeros : Bool) → is_zeros (stretch content k) ≡ zeros
            → (new : List ℕ) × Made content (k + 1) new × AllDone (holding made) (write_of text content k) (holding new)
        go true at = (made, made_zeros content made k m at, rw at refl)
        go false at =
            let is = made_written content made k m low in (
              take (block_size * (k + 1)) content,
              made_whole content (k + 1),
              rw at (
                holding (take (block_size * (k + 1)) content),
                write_done made (stretch content k) (block_size * k) some (omega (arith, part, writable version)) (omega (arith, ends, fits)) ∙ ap (λ xs. finished (holding xs)) is,
                refl,
              ),
            )

    -- and those after it
    stretches_done : (n k : ℕ) (made : List ℕ) → Made content k made → (n ≡ 0) ⊎ (block_size * (k + n - 1) < length content)
        → (new : List ℕ) × Made content (k + n) new × AllDone (holding made) (flat_map (write_of text content) (range_with_len k n)) (holding new)
    stretches_done zero k made m low = (made, subst (λ j. Made content j made) (omega arith) m, refl)
    stretches_done (suc n) k made m (inl none) = absurd (omega (arith, none))
    stretches_done (suc n) k made m (inr low) =
        let one = stretch_done k made m (omega (arith, low)) in
        let more = stretches_done n (k + 1) one.0 one.1 (left n low) in (
          more.0,
          subst (λ j. Made content j more.0) (omega arith) more.1,
          AllDone-append (holding made) (holding one.0) (holding more.0) (write_of text content k) (flat_map (write_of text content) (range_with_len (k + 1) n)) one.2 more.2,
        )
      where
        left : (n : ℕ) → block_size * (k + suc n - 1) < length content → (n ≡ 0) ⊎ (block_size * (k + 1 + n - 1) < length content)
        left zero low = inl refl
        left (suc n) low = inr (omega (arith, low))

    count : ℕ
    count = stretches content

    all_taken : take (block_size * count) content ≡ content
    unfolding count
    all_taken = take_all (4096 * ((length content + 4095) / 4096)) content (omega arith)

    count_low : (count ≡ 0) ⊎ (block_size * (0 + count - 1) < length content)
    unfolding count
    count_low = go (nat_lt 0 (length content)) refl
      where
        go : (b : Bool) → nat_lt 0 (length content) ≡ b → ((length content + 4095) / 4096 ≡ 0) ⊎ (4096 * (0 + (length content + 4095) / 4096 - 1) < length content)
        go true at = let some : 0 < length content = ltb-true 0 (length content) at in inr (omega arith)
        go false at = let none : length content ≤ 0 = ltb-false 0 (length content) at in inl (omega arith)

    -- the size, where it is given
    size_done : (made : List ℕ) → Made content count made → AllDone (holding made) (size_call text content) (holding content)
    unfolding count
    size_done made m = go (nat_lt 0 (length content)) refl (is_zeros (stretch content (count - 1))) refl
      where
        go : (some : Bool) → nat_lt 0 (length content) ≡ some → (zeros : Bool) → is_zeros (stretch content (count - 1)) ≡ zeros → AllDone (holding made) (size_call text content) (holding content)
        go true has true at =
            let grown : resized made (length content) ≡ content =
            ap (λ n. take (length content) (made ++ replicate (n - length made) 0)) (sym (ap length all_taken))
            ∙ ap (take (length content)) m.padded ∙ ap (take (length content)) all_taken ∙ take_all (length content) content (omega arith) in
            rw (has, at) (holding content, truncate_done made (length content) fits ∙ ap (λ xs. finished (holding xs)) grown, refl)
        go true has false at = rw (has, at) (ap holding (m.whole at ∙ all_taken))
        go false has zeros at =
            let none : length content ≤ 0 = ltb-false 0 (length content) has in
            rw has (ap holding (empty_both made content (omega (arith, m.short, ap length all_taken, none)) none))
          where
            empty_both : (xs ys : List ℕ) → length xs ≤ 0 → length ys ≤ 0 → xs ≡ ys
            empty_both [] [] a b = refl
            empty_both (x ∷ xs) ys a b = absurd (omega (arith, a))
            empty_both [] (y ∷ ys) a b = absurd (omega (arith, b))

    nothing_made : Made content 0 []
    nothing_made = record { short = omega arith; padded = refl; whole = λ other. refl }

    bytes_done : AllDone (holding []) (writes_of text content ++ size_call text content) (holding content)
    unfolding count
    bytes_done =
        let all = stretches_done count 0 [] nothing_made count_low in
        let from_none : 0 + count ≡ count = omega arith in
        AllDone-append (holding []) (holding all.0) (holding content) (writes_of text content) (size_call text content) all.2
        (size_done all.0 (subst (λ j. Made content j all.0) from_none all.1))

    -- all calls after its creation
    file_done : (values : Attributes) → length values ≡ attributes → (allows_attributes version ≡ false → values ≡ no_attributes)
        → AllDone (holding []) (writes_of text content ++ size_call text content ++ sets_of text values) (holding_with values content)
    file_done values many early =
        AllDone-append (holding []) (holding content) (holding_with values content) (writes_of text content ++ size_call text content) (sets_of text values)
        bytes_done (file_sets content values many early)

  -- ---- the calls at the path

  module _ (new : get before.nodes path ≡ None) where
    create_done : plain (stage version before) (create text) ≡ (done, holding [])
    create_done = create_goes (stage version before) text path spells refl (walks_parent before.nodes name rest way) new

    mkdir_done : plain (stage version before) (mkdir text) ≡ (done, stage version (with_dir before path))
    mkdir_done = mkdir_goes (stage version before) text path spells refl (walks_parent before.nodes name rest way) new

    pub node_done : (node : Node) → ((values : Attributes) (content : List ℕ) → node ≡ file values content → length content ≤ greatest_size version)
        → length (attributes_in (Some node)) ≡ attributes → (allows_attributes version ≡ false → attributes_in (Some node) ≡ no_attributes)
        → AllDone (stage version before) (calls_for text node) (stage version (placed before path node))
    node_done (dir values) fits many early = (stage version (with_dir before path), mkdir_done, dir_sets version before text path spells way values many early)
    node_done (file values content) fits many early = (holding [], create_done, file_done content (fits values content refl) values many early)
