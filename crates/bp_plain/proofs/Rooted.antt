-- Nodes whose root is a directory, as is the parent of each other path: what each call keeps of it.
use Rattle.std.proofs.Common.{◌≡◌, ◌≢◌, ◌&&◌, ℕ, List, [], ◌∷◌, ◌++◌, length, suc, length-append, Bool, true, false, not, Option, None, Some, is_some, option_map, refl, sym, ◌∙◌, ap, true≢false, append-nil, append_assoc, arith}
use Rattle.std.proofs.lemmas.Bool.{eqb-true}
use Rattle.std.specs.List.{filter_map}
use Rattle.std.specs.Option.{is_none}
use Rattle.std.specs.Ordering.{eq_by_cmp}
use Rattle.std.specs.FinMap.{entries, get, get-entries, insert, remove}
use Rattle.std.specs.FinMap.Entries.{find}
use Rattle.bp_layout.specs.Paths.{rest_below, same_path, Attributes, Name, Path, Node}
use Rattle.bp_layout.specs.declared.fields.Kind.{Kind}
use Rattle.bp_layout.specs.Paths.Node.{dir, file}
use Rattle.bp_layout.proofs.Below.{rest_below-append, rest_below-is}
use Rattle.bp_layout.proofs.Paths.{ByLast, by_last}
use Rattle.bp_layout.proofs.Paths.ByLast.{none, more}
use Rattle.bp_plain.specs.Calls.{Refusal}
use Rattle.bp_plain.specs.Plain.{first, file_refusal, first_refusal_from, is_a_dir, is_dir_at, is_empty_dir, is_root_path, kind_of_node, listed_in, listing, move_refusal, moved, new_refusal, only_name, parent_of, walk, walk_parent, when}
use Rattle.bp_plain.specs.PlainTree.{IsDirAt, Nodes, path_cmp}
use Rattle.bp_plain.specs.SeenTree.{HasNoneBelow, IsRooted}
use Rattle.bp_plain.proofs.Moved.{after_move, get-moved}
use Rattle.bp_plain.proofs.Numbers.{Case, case_of, put_elsewhere, taken_elsewhere, taken_there}
use Rattle.bp_plain.proofs.Numbers.Case.{same, other}
use Rattle.bp_plain.proofs.PathOrder.{same_path_from}

-- ---- what no refusal reports

pub first_none : (found : Option Refusal) (rest : List (Option Refusal)) → first (found ∷ rest) ≡ None → (found ≡ None) × (first rest ≡ None)
first_none None rest e = (refl, e)
first_none (Some refusal) rest e = let some : ◌≡◌ {A = Option Refusal} (Some refusal) None = e in absurd (cc)

pub when_none : (b : Bool) (refusal : Refusal) → when b refusal ≡ None → b ≡ false
when_none true refusal e = let some : ◌≡◌ {A = Option Refusal} (Some refusal) None = e in absurd (cc)
when_none false refusal e = refl

pub not_false : (b : Bool) → not b ≡ false → b ≡ true
not_false true e = refl
not_false false e = absurd (true≢false e)

pub dir_there : (nodes : Nodes) (p : Path) → is_dir_at nodes p ≡ true → IsDirAt nodes p
dir_there nodes p = go (get nodes p) refl
  where
    go : (o : Option Node) → get nodes p ≡ o → is_a_dir (get nodes p) ≡ true → IsDirAt nodes p
    go None at e = absurd (true≢false (sym e ∙ ap is_a_dir at))
    go (Some (dir attributes)) at e = record { attributes = attributes; is = at }
    go (Some (file attributes bytes)) at e = absurd (true≢false (sym e ∙ ap is_a_dir at))

none_there : {A : Type 0} (o : Option A) → is_some o ≡ false → o ≡ None
none_there None e = refl
none_there (Some x) e = absurd (true≢false e)

-- ---- directories and files at paths

-- a directory is also where the same is found
dir_as : {new old : Nodes} {p q : Path} → get new p ≡ get old q → IsDirAt old q → IsDirAt new p
dir_as e is = record { attributes = is.attributes; is = e ∙ is.is }

-- there is no directory where nothing is
dir_nowhere : (nodes : Nodes) (p : Path) → get nodes p ≡ None → IsDirAt nodes p → ⊥
dir_nowhere nodes p nothing is = let wrong : ◌≡◌ {A = Option Node} None (Some (dir is.attributes)) = sym nothing ∙ is.is in absurd (cc)

pub record IsFileAt (nodes : Nodes) (p : Path) : Type 0 where
  pub attributes : Attributes
  pub bytes : List ℕ
  pub is : get nodes p ≡ Some (file attributes bytes)

-- a file is no directory
pub file_no_dir : (nodes : Nodes) (p : Path) → IsFileAt nodes p → IsDirAt nodes p → ⊥
file_no_dir nodes p one is =
    let wrong : ◌≡◌ {A = Option Node} (Some (file one.attributes one.bytes)) (Some (dir is.attributes)) = sym one.is ∙ is.is in absurd (cc)

-- ---- parents

pub parent_of-last : (path : Path) (name : Name) → parent_of (path ++ name ∷ []) ≡ path
parent_of-last [] name = refl
parent_of-last (x ∷ []) name = refl
parent_of-last (x ∷ y ∷ path) name = ap (λ p. x ∷ p) (parent_of-last (y ∷ path) name)

pub same_above : (path above : Path) (name last : Name) → path ++ name ∷ [] ≡ above ++ last ∷ [] → path ≡ above
same_above path above name last e = sym (parent_of-last path name) ∙ ap parent_of e ∙ parent_of-last above last

pub not_empty_path : (path : Path) (name : Name) → path ++ name ∷ [] ≢ []
not_empty_path [] name e = absurd (cc)
not_empty_path (x ∷ path) name e = absurd (cc)

module _ (nodes : Nodes) (rooted : IsRooted nodes) where
  -- nothing is below a path at which there is no directory
  pub below_none : (p : Path) → (IsDirAt nodes p → ⊥) → HasNoneBelow nodes p
  below_none p not_dir = record { none = λ name. go name (get nodes (p ++ name ∷ [])) refl }
    where
      go : (name : Name) (o : Option Node) → get nodes (p ++ name ∷ []) ≡ o → get nodes (p ++ name ∷ []) ≡ None
      go name None e = e
      go name (Some node) e = absurd (not_dir (rooted.parents p name node e))

  -- so neither is anything further below
  pub deep_none : (p : Path) → HasNoneBelow nodes p → (name : Name) (s : Path) → get nodes (p ++ name ∷ s) ≡ None
  deep_none p below name s = by_step s (by_last s)
    where
      by_step : (s : Path) → ByLast s → get nodes (p ++ name ∷ s) ≡ None
      by_step _ none = below.none name
      by_step _ (more {path = before} b last) = at (by_step before b) (get nodes (p ++ name ∷ (before ++ last ∷ []))) refl
        where
          at : get nodes (p ++ name ∷ before) ≡ None → (o : Option Node) → get nodes (p ++ name ∷ (before ++ last ∷ [])) ≡ o → get nodes (p ++ name ∷ (before ++ last ∷ [])) ≡ None
          at nothing None e = e
          at nothing (Some node) e =
              let there : get nodes ((p ++ name ∷ before) ++ last ∷ []) ≡ Some node = ap (get nodes) (append_assoc p (name ∷ before) (last ∷ [])) ∙ e in
              absurd (dir_nowhere nodes (p ++ name ∷ before) nothing (rooted.parents (p ++ name ∷ before) last node there))

  -- ---- one more path, or one fewer

  pub rooted_put : (p : Path) (node : Node) → get nodes p ≡ None → IsDirAt nodes (parent_of p) → IsRooted (insert nodes p node)
  rooted_put p node nothing parent = record {
    root = kept [] rooted.root;
    parents = λ path name found e. at path name found e (case_of (path ++ name ∷ []) p);
  }
    where
      kept : (path : Path) → IsDirAt nodes path → IsDirAt (insert nodes p node) path
      kept path there = dir_as (put_elsewhere nodes p node path (λ e. dir_nowhere nodes path (ap (get nodes) e ∙ nothing) there)) there

      at : (path : Path) (name : Name) (found : Node) → get (insert nodes p node) (path ++ name ∷ []) ≡ Some found → Case (path ++ name ∷ []) p → IsDirAt (insert nodes p node) path
      at path name found e (same here) = kept path (dir_as (ap (get nodes) (sym (parent_of-last path name) ∙ ap parent_of here)) parent)
      at path name found e (other apart) = kept path (rooted.parents path name found (sym (put_elsewhere nodes p node (path ++ name ∷ []) apart) ∙ e))

  pub rooted_taken : (p : Path) → p ≢ [] → HasNoneBelow nodes p → IsRooted (remove nodes p)
  rooted_taken p not_root below = record {
    root = dir_as (taken_elsewhere nodes p [] (λ e. not_root (sym e))) rooted.root;
    parents = λ path name found e. at path name found e (case_of (path ++ name ∷ []) p);
  }
    where
      at : (path : Path) (name : Name) (found : Node) → get (remove nodes p) (path ++ name ∷ []) ≡ Some found → Case (path ++ name ∷ []) p → IsDirAt (remove nodes p) path
      at path name found e (same here) =
          let wrong : ◌≡◌ {A = Option Node} None (Some found) = sym (ap (get (remove nodes p)) here ∙ taken_there nodes p) ∙ e in absurd (cc)
      at path name found e (other apart) =
          let before : get nodes (path ++ name ∷ []) ≡ Some found = sym (taken_elsewhere nodes p (path ++ name ∷ []) apart) ∙ e in
          dir_as (taken_elsewhere nodes p path (λ here. none_here path name found here before)) (rooted.parents path name found before)
        where
          none_here : (path : Path) (name : Name) (found : Node) → path ≡ p → get nodes (path ++ name ∷ []) ≡ Some found → ⊥
          none_here path name found here there =
              let wrong : ◌≡◌ {A = Option Node} None (Some found) = sym (below.none name) ∙ ap (λ x. get nodes (x ++ name ∷ [])) (sym here) ∙ there in absurd (cc)

  -- directories where they were, and nothing where nothing was
  pub rooted_same : (new : Nodes) → ((p : Path) → IsDirAt nodes p → IsDirAt new p) → ((p : Path) → get nodes p ≡ None → get new p ≡ None) → IsRooted new
  rooted_same new dirs nothing = record {
    root = dirs [] rooted.root;
    parents = λ path name found e. at path name found e (get nodes (path ++ name ∷ [])) refl;
  }
    where
      at : (path : Path) (name : Name) (found : Node) → get new (path ++ name ∷ []) ≡ Some found → (o : Option Node) → get nodes (path ++ name ∷ []) ≡ o → IsDirAt new path
      at path name found e None f = let wrong : ◌≡◌ {A = Option Node} None (Some found) = sym (nothing (path ++ name ∷ []) f) ∙ e in absurd (cc)
      at path name found e (Some node) f = dirs path (rooted.parents path name node f)

  -- ---- a path that moves

  module _ (p q : Path) (source : p ≢ []) (target : q ≢ []) (apart : rest_below p q ≡ None) (empty : HasNoneBelow nodes q) (parent : IsDirAt nodes (parent_of q)) where
    none_some : (x : Path) → ◌≡◌ {A = Option Path} (Some x) None → ⊥
    none_some x e = absurd (cc)

    under : (a c r : Path) → c ≡ a ++ r → rest_below a c ≡ None → ⊥
    under a c r e nothing = none_some r (sym (rest_below-append a r) ∙ ap (rest_below a) (sym e) ∙ nothing)

    beside : (a c : Path) → ((r : Path) → c ≡ a ++ r → ⊥) → rest_below a c ≡ None
    beside a c not_under = go (rest_below a c) refl
      where
        go : (o : Option Path) → rest_below a c ≡ o → rest_below a c ≡ None
        go None e = e
        go (Some r) e = absurd (not_under r (rest_below-is a c r e))

    got : (path : Path) → get (moved p q nodes) path ≡ after_move p q nodes path
    got path = get-moved p q nodes apart (deep_none q empty) path

    -- elsewhere
    got_else : (path : Path) → rest_below q path ≡ None → rest_below p path ≡ None → get (moved p q nodes) path ≡ get nodes path
    got_else path e f = got path ∙ rw (e, f) refl

    got_target : (path r : Path) → rest_below q path ≡ Some r → get (moved p q nodes) path ≡ get nodes (p ++ r)
    got_target path r e = got path ∙ rw e refl

    got_source : (path r : Path) → rest_below q path ≡ None → rest_below p path ≡ Some r → get (moved p q nodes) path ≡ None
    got_source path r e f = got path ∙ rw (e, f) refl

    not_nil : (a : Path) → a ≢ [] → rest_below a [] ≡ None
    not_nil [] not = absurd (not refl)
    not_nil (x ∷ a) not = refl

    pub rooted_moved : IsRooted (moved p q nodes)
    rooted_moved = record {
      root = dir_as (got_else [] (not_nil q target) (not_nil p source)) rooted.root;
      parents = λ path name found e. at path name found e (rest_below q (path ++ name ∷ [])) refl (rest_below p (path ++ name ∷ [])) refl;
    }
      where
        deeper : (a path r : Path) (name : Name) → path ≡ a ++ r → path ++ name ∷ [] ≡ a ++ (r ++ name ∷ [])
        deeper a path r name e = ap (λ x. x ++ name ∷ []) e ∙ append_assoc a r (name ∷ [])

        -- below the target
        below : (path : Path) (name : Name) (found : Node) (r : Path) → ByLast r → path ++ name ∷ [] ≡ q ++ r → get nodes (p ++ r) ≡ Some found → IsDirAt (moved p q nodes) path
        below path name found _ none e there =
            let here : path ++ name ∷ [] ≡ q = e ∙ append-nil q in
            dir_as
            (got_else path
            (beside q path (λ r f. longer_than r f here))
            (beside p path (λ r f. under p q (r ++ name ∷ []) (sym here ∙ deeper p path r name f) apart))
            ∙ ap (get nodes) (sym (parent_of-last path name) ∙ ap parent_of here))
            parent
          where
            longer_than : (r : Path) → path ≡ q ++ r → path ++ name ∷ [] ≡ q → ⊥
            longer_than r f here =
                let long : length (path ++ name ∷ []) ≡ length q = ap length here in
                let short : length path ≡ length (q ++ r) = ap length f in
                absurd (omega (arith, length-append path (name ∷ []), length-append q r, long, short))
        below path name found _ (more {path = before} b last) e there =
            let here : path ≡ q ++ before = same_above path (q ++ before) name last (e ∙ sym (append_assoc q before (last ∷ []))) in
            dir_as (got_target path before (ap (rest_below q) here ∙ rest_below-append q before))
            (rooted.parents (p ++ before) last found (ap (get nodes) (append_assoc p before (last ∷ [])) ∙ there))

        at : (path : Path) (name : Name) (found : Node) → get (moved p q nodes) (path ++ name ∷ []) ≡ Some found →
            (o : Option Path) → rest_below q (path ++ name ∷ []) ≡ o → (s : Option Path) → rest_below p (path ++ name ∷ []) ≡ s → IsDirAt (moved p q nodes) path
        at path name found e (Some r) f s g =
            below path name found r (by_last r) (rest_below-is q (path ++ name ∷ []) r f) (sym (got_target (path ++ name ∷ []) r f) ∙ e)
        at path name found e None f (Some s) g =
            let wrong : ◌≡◌ {A = Option Node} None (Some found) = sym (got_source (path ++ name ∷ []) s f g) ∙ e in absurd (cc)
        at path name found e None f None g =
            dir_as
            (got_else path
            (beside q path (λ r h. under q (path ++ name ∷ []) (r ++ name ∷ []) (deeper q path r name h) f))
            (beside p path (λ r h. under p (path ++ name ∷ []) (r ++ name ∷ []) (deeper p path r name h) g)))
            (rooted.parents path name found (sym (got_else (path ++ name ∷ []) f g) ∙ e))

-- ---- refusals

pub record IsNew (nodes : Nodes) (p : Path) : Type 0 where
  pub nothing : get nodes p ≡ None
  pub parent : IsDirAt nodes (parent_of p)

pub new_there : (nodes : Nodes) (p : Path) → new_refusal nodes p ≡ None → IsNew nodes p
new_there nodes p e =
    let rest = (first_none (when (is_root_path p) _) _ e).1 in
    let above = first_none (walk_parent nodes p) _ rest in
    let last = first_none (when (is_some (get nodes p)) _) _ above.1 in
    let parent = first_none (walk nodes (parent_of p)) _ above.0 in
    let is_dir = first_none (when (not (is_dir_at nodes (parent_of p))) _) _ parent.1 in
    record {
      nothing = none_there (get nodes p) (when_none _ _ last.0);
      parent = dir_there nodes (parent_of p) (not_false _ (when_none _ _ is_dir.0));
    }

-- a walk that is not refused finds something
walk_finds : (nodes : Nodes) (here path : Path) → is_some (get nodes here) ≡ true → first_refusal_from nodes here path ≡ None → is_some (get nodes (here ++ path)) ≡ true
walk_finds nodes here [] there e = ap (λ x. is_some (get nodes x)) (append-nil here) ∙ there
walk_finds nodes here (name ∷ path) there e =
    let rest = (first_none (when (not (is_dir_at nodes here)) _) _ e).1 in
    let next = first_none (when (is_none (get nodes (here ++ name ∷ []))) _) _ rest in
    let further = first_none (first_refusal_from nodes (here ++ name ∷ []) path) [] next.1 in
    ap (λ x. is_some (get nodes x)) (sym (append_assoc here (name ∷ []) path))
    ∙ walk_finds nodes (here ++ name ∷ []) path (some_there (get nodes (here ++ name ∷ [])) (when_none _ _ next.0)) further.0
  where
    some_there : (o : Option Node) → is_none o ≡ false → is_some o ≡ true
    some_there None e = absurd (true≢false e)
    some_there (Some node) e = refl

pub file_there : (nodes : Nodes) → IsRooted nodes → (p : Path) → file_refusal nodes p ≡ None → IsFileAt nodes p
file_there nodes rooted p e =
    let walked = first_none (walk nodes p) _ e in
    let is_dir = first_none (when (is_dir_at nodes p) _) [] walked.1 in
    go (get nodes p) refl (walk_finds nodes [] p (ap is_some rooted.root.is) walked.0) (when_none _ _ is_dir.0)
  where
    go : (o : Option Node) → get nodes p ≡ o → is_some (get nodes p) ≡ true → is_dir_at nodes p ≡ false → IsFileAt nodes p
    go None at some not_dir = absurd (true≢false (sym some ∙ ap is_some at))
    go (Some (dir attributes)) at some not_dir = absurd (true≢false (sym (ap is_a_dir at) ∙ not_dir))
    go (Some (file attributes bytes)) at some not_dir = record { attributes = attributes; bytes = bytes; is = at }

-- a directory in which no name is listed
listed_there : (p : Path) (name : Name) (node : Node) (es : List (Path × Node)) → find path_cmp (p ++ name ∷ []) es ≡ Some node → length (filter_map (listed_in p) es) ≢ 0
listed_there p name node [] e = let wrong : ◌≡◌ {A = Option Node} None (Some node) = e in absurd (cc)
listed_there p name node (x ∷ es) e = go (eq_by_cmp path_cmp (p ++ name ∷ []) x.0) refl (λ f. listed_there p name node es f)
  where
    no_more : (o : Option (Kind × Name)) → listed_in p x ≡ o → length (filter_map (listed_in p) es) ≢ 0 → length (filter_map (listed_in p) (x ∷ es)) ≢ 0
    no_more None at rest e = rest (rw at at e)
    no_more (Some row) at rest e =
        let long : suc (length (filter_map (listed_in p) es)) ≡ 0 = rw at at e in absurd (omega (arith, long))

    go : (b : Bool) → eq_by_cmp path_cmp (p ++ name ∷ []) x.0 ≡ b → (find path_cmp (p ++ name ∷ []) es ≡ Some node → length (filter_map (listed_in p) es) ≢ 0) → length (filter_map (listed_in p) (x ∷ es)) ≢ 0
    go true at rest f =
        let here : x.0 ≡ p ++ name ∷ [] = sym (same_path_from (p ++ name ∷ []) x.0 at) in
        let listed : listed_in p x ≡ Some (kind_of_node x.1, name) = ap (λ o. option_map (λ n. (kind_of_node x.1, n)) (only_name o)) (ap (rest_below p) here ∙ rest_below-append p (name ∷ [])) in
        let long : suc (length (filter_map (listed_in p) es)) ≡ 0 = rw listed at f in absurd (omega (arith, long))
    go false at rest f = no_more (listed_in p x) refl (rest (rw at at e)) f

pub empty_below : (nodes : Nodes) (p : Path) → is_empty_dir nodes p ≡ true → HasNoneBelow nodes p
empty_below nodes p e = record { none = λ name. go name (get nodes (p ++ name ∷ [])) refl }
  where
    go : (name : Name) (o : Option Node) → get nodes (p ++ name ∷ []) ≡ o → get nodes (p ++ name ∷ []) ≡ None
    go name None at = at
    go name (Some node) at = absurd (listed_there p name node (entries nodes) (sym (get-entries nodes (p ++ name ∷ [])) ∙ at) (eqb-true (length (listing nodes p)) 0 e))

pub file_below : (nodes : Nodes) → IsRooted nodes → (p : Path) → IsFileAt nodes p → HasNoneBelow nodes p
file_below nodes rooted p at = below_none nodes rooted p (file_no_dir nodes p at)

pub not_root_path : (p : Path) → is_root_path p ≡ false → p ≢ []
not_root_path [] e f = true≢false e
not_root_path (x ∷ p) e f = absurd (cc)

-- ---- a rename that is not refused

pub record Moves (nodes : Nodes) (p q : Path) : Type 0 where
  pub source : p ≢ []
  pub target : q ≢ []
  pub apart : rest_below p q ≡ None
  pub empty : HasNoneBelow nodes q
  pub parent : IsDirAt nodes (parent_of q)

and_parts : (a b : Bool) → (a && b) ≡ false → a ≡ true → b ≡ false
and_parts true b e f = e
and_parts false b e f = absurd (true≢false (sym f))

pub moves_there : (nodes : Nodes) → IsRooted nodes → (p q : Path) → move_refusal nodes p q ≡ None → same_path p q ≡ false → Moves nodes p q
moves_there nodes rooted p q e apart =
    let one = first_none (when (is_root_path p) _) _ e in
    let two = first_none (when (is_root_path q) _) _ one.1 in
    let three = first_none (walk nodes p) _ two.1 in
    let four = first_none (walk_parent nodes q) _ three.1 in
    let five = first_none (when (not (same_path p q) && is_some (rest_below p q)) _) _ four.1 in
    let six = first_none (when (not (is_dir_at nodes p) && is_dir_at nodes q) _) _ five.1 in
    let seven = first_none (when (is_dir_at nodes p && is_some (get nodes q) && not (is_dir_at nodes q)) _) _ six.1 in
    let eight = first_none (when (not (same_path p q) && is_dir_at nodes p && is_dir_at nodes q && not (is_empty_dir nodes q)) _) _ seven.1 in
    let above = first_none (walk nodes (parent_of q)) _ four.0 in
    let is_dir = first_none (when (not (is_dir_at nodes (parent_of q))) _) _ above.1 in
    record {
      source = not_root_path p (when_none _ _ one.0);
      target = not_root_path q (when_none _ _ two.0);
      apart = none_there (rest_below p q) (and_parts _ _ (when_none _ _ five.0) (ap not apart));
      empty = nothing_below (get nodes q) refl (when_none _ _ six.0) (when_none _ _ eight.0);
      parent = dir_there nodes (parent_of q) (not_false _ (when_none _ _ is_dir.0));
    }
  where
    -- a directory comes onto a directory, which is empty
    onto_dir : is_dir_at nodes q ≡ true → (not (is_dir_at nodes p) && is_dir_at nodes q) ≡ false → (not (same_path p q) && is_dir_at nodes p && is_dir_at nodes q && not (is_empty_dir nodes q)) ≡ false → is_empty_dir nodes q ≡ true
    onto_dir is f g = go (is_dir_at nodes p) refl
      where
        go : (b : Bool) → is_dir_at nodes p ≡ b → is_empty_dir nodes q ≡ true
        go false at = absurd (true≢false (rw (at, is) at f))
        go true at = not_false _ (rw (apart, at, is) at g)

    nothing_below : (o : Option Node) → get nodes q ≡ o → (not (is_dir_at nodes p) && is_dir_at nodes q) ≡ false → (not (same_path p q) && is_dir_at nodes p && is_dir_at nodes q && not (is_empty_dir nodes q)) ≡ false → HasNoneBelow nodes q
    nothing_below None at f g = below_none nodes rooted q (dir_nowhere nodes q at)
    nothing_below (Some (dir attributes)) at f g = empty_below nodes q (onto_dir (ap is_a_dir at) f g)
    nothing_below (Some (file attributes bytes)) at f g = file_below nodes rooted q (record { attributes = attributes; bytes = bytes; is = at })
