-- What each call makes of the pairs of paths that are one, where they are stated by labels.
use Rattle.std.proofs.Common.{◌≡◌, ◌≢◌, ℕ, List, [], ◌∷◌, ◌++◌, Bool, true, false, cond, not, ◌&&◌, ◌||◌, ◌==◌, Option, None, Some, option_and_then, if◌then◌else◌, refl, sym, ◌∙◌, ap, ap₂, true≢false, append-nil}
use Rattle.std.proofs.lemmas.Bool.{eqb-true, eqb-false}
use Rattle.std.proofs.lemmas.List.{append_cancel_left}
use Rattle.std.specs.List.{filter_map, list_any}
use Rattle.std.specs.Ordering.{eq_by_cmp}
use Rattle.std.specs.Cmp.{eq_by_cmp_equiv}
use Rattle.std.specs.FinMap.{get, get-insert}
use Rattle.std.specs.FinSet.{contains, items, same_set, contains-insert, contains-items, contains-retain, contains-union, contains-from_list}
use Rattle.bp_layout.specs.Lookup.{are_one}
use Rattle.bp_layout.specs.Paths.{Path, Name, Node, same_path, rest_below}
use Rattle.bp_layout.proofs.Below.{rest_below-append, rest_below-is, same_path-self, same_path-is}
use Rattle.bp_plain.specs.PlainTree.{Nodes, Aliases, is_one, path_cmp, pair_cmp}
use Rattle.bp_plain.specs.Plain.{alone, linked, moved_one, moved_pair, moved_path, paths_of, pairs_with, with_node_at, without}
use Rattle.bp_plain.specs.Kernels.{IsKernel, kernel_from, row, rows}
use Rattle.bp_plain.proofs.PathOrder.{pair_cmp-IsAntisymmetric, pair_cmp-IsTotalOrder, path_cmp-IsTotalOrder, same_path_from, tie_same, tie_self}

-- ---- tests

pub by_bools : (a b : Bool) → (a ≡ true → b ≡ true) → (b ≡ true → a ≡ true) → a ≡ b
by_bools true b on back = sym (on refl)
by_bools false true on back = back refl
by_bools false false on back = refl

both_true : (a b : Bool) → (a && b) ≡ true → (a ≡ true) × (b ≡ true)
both_true true true e = (refl, refl)
both_true true false e = absurd (true≢false (sym e))
both_true false b e = absurd (true≢false (sym e))

pub tie_paths : (a b p q : Path) → eq_by_cmp pair_cmp (a, b) (p, q) ≡ (same_path a p && same_path b q)
tie_paths a b p q = by_bools _ _ on back
  where
    on : eq_by_cmp pair_cmp (a, b) (p, q) ≡ true → (same_path a p && same_path b q) ≡ true
    on e =
        let same : ◌≡◌ {A = Path × Path} (a, b) (p, q) = tie_same (a, b) (p, q) e in
        rw (ap (λ x. x.0) same, ap (λ x. x.1) same, same_path-self p, same_path-self q) refl

    back : (same_path a p && same_path b q) ≡ true → eq_by_cmp pair_cmp (a, b) (p, q) ≡ true
    back e =
        let both : (same_path a p ≡ true) × (same_path b q ≡ true) = both_true _ _ e in
        rw (same_path-is a p both.0, same_path-is b q both.1) (tie_self (p, q))

-- ---- kernels

-- labels have one set of pairs
pub kernel_once : (label : Path → Option ℕ) (one other : Aliases) → IsKernel label one → IsKernel label other → one ≡ other
kernel_once label one other a b =
    same_set pair_cmp-IsTotalOrder pair_cmp-IsAntisymmetric one other (λ pair. a.each pair.0 pair.1 ∙ sym (b.each pair.0 pair.1))

pub kernel_same : (label new : Path → Option ℕ) (one : Aliases) → ((p : Path) → new p ≡ label p) → IsKernel label one → IsKernel new one
kernel_same label new one same k = record { each = λ p q. k.each p q ∙ ap₂ are_one (sym (same p)) (sym (same q)) }

pub are_one-none : (x : Option ℕ) → are_one x None ≡ false
are_one-none None = refl
are_one-none (Some i) = refl

pub are_one-self : (i : ℕ) → (i == i) ≡ true
are_one-self i = refl_eqb i
  where
    refl_eqb : (n : ℕ) → (n == n) ≡ true
    refl_eqb n = elim_eq (n == n) refl
      where
        elim_eq : (b : Bool) → (n == n) ≡ b → (n == n) ≡ true
        elim_eq true e = e
        elim_eq false e = absurd (eqb-false n n e refl)

-- a path of a file of its own
module _ (label new : Path → Option ℕ) (one : Aliases) (p : Path) (i : ℕ) (k : IsKernel label one) (there : new p ≡ Some i)
    (elsewhere : (q : Path) → q ≢ p → new q ≡ label q) (fresh : (q : Path) → label q ≢ Some i) where
  apart : (q : Path) → (o : Option ℕ) → label q ≡ o → are_one o (Some i) ≡ false
  apart q None e = refl
  apart q (Some j) e = go (j == i) refl
    where
      go : (b : Bool) → (j == i) ≡ b → (j == i) ≡ false
      go true at = absurd (fresh q (e ∙ ap Some (eqb-true j i at)))
      go false at = at

  apart_back : (q : Path) → (o : Option ℕ) → label q ≡ o → are_one (Some i) o ≡ false
  apart_back q None e = refl
  apart_back q (Some j) e = go (i == j) refl
    where
      go : (b : Bool) → (i == j) ≡ b → (i == j) ≡ false
      go true at = absurd (fresh q (e ∙ ap Some (sym (eqb-true i j at))))
      go false at = at

  pub kernel_alone : label p ≡ None → IsKernel new (alone one p)
  kernel_alone none = record { each = λ a b. contains-insert pair_cmp-IsTotalOrder one (p, p) (a, b) ∙ rw (tie_paths a b p p, k.each a b) (go a b (same_path a p) refl (same_path b p) refl) }
    where
      go : (a b : Path) → (x : Bool) → same_path a p ≡ x → (y : Bool) → same_path b p ≡ y → ((x && y) || are_one (label a) (label b)) ≡ are_one (new a) (new b)
      go a b true e true f = rw (same_path-is a p e, same_path-is b p f, there) (sym (are_one-self i))
      go a b true e false f =
          let other : b ≢ p = λ h. true≢false (sym (same_path-self p) ∙ ap (λ x. same_path x p) (sym h) ∙ f) in
          rw (same_path-is a p e, there, none, elsewhere b other) (sym (apart_back b (label b) refl))
      go a b false e true f =
          let other : a ≢ p = λ h. true≢false (sym (same_path-self p) ∙ ap (λ x. same_path x p) (sym h) ∙ e) in
          rw (same_path-is b p f, there, none, elsewhere a other, are_one-none (label a)) (sym (apart a (label a) refl))
      go a b false e false f =
          let other : a ≢ p = λ h. true≢false (sym (same_path-self p) ∙ ap (λ x. same_path x p) (sym h) ∙ e) in
          let more : b ≢ p = λ h. true≢false (sym (same_path-self p) ∙ ap (λ x. same_path x p) (sym h) ∙ f) in
          rw (elsewhere a other, elsewhere b more) refl

-- a path that no file has any more
module _ (label new : Path → Option ℕ) (one : Aliases) (p : Path) (k : IsKernel label one) (gone : new p ≡ None)
    (elsewhere : (q : Path) → q ≢ p → new q ≡ label q) where
  pub kernel_without : IsKernel new (without one p)
  kernel_without = record {
    each = λ a b. contains-retain one (λ pair. not (same_path pair.0 p) && not (same_path pair.1 p)) (a, b)
        (λ x tie. ap (λ y. not (same_path y.0 p) && not (same_path y.1 p)) (sym (pair_cmp-IsAntisymmetric (a, b) x tie)))
        ∙ rw (k.each a b) (go a b (same_path a p) refl (same_path b p) refl);
  }
    where
      drops : (x : Bool) → (x && false) ≡ false
      drops true = refl
      drops false = refl

      keeps : (x : Bool) → (x && true) ≡ x
      keeps true = refl
      keeps false = refl

      go : (a b : Path) → (x : Bool) → same_path a p ≡ x → (y : Bool) → same_path b p ≡ y → (are_one (label a) (label b) && (not x && not y)) ≡ are_one (new a) (new b)
      go a b true e y f = rw (same_path-is a p e, gone) (drops _)
      go a b false e true f = rw (same_path-is b p f, gone) (drops _ ∙ sym (are_one-none (new a)))
      go a b false e false f =
          let other : a ≢ p = λ h. true≢false (sym (same_path-self p) ∙ ap (λ x. same_path x p) (sym h) ∙ e) in
          let more : b ≢ p = λ h. true≢false (sym (same_path-self p) ∙ ap (λ x. same_path x p) (sym h) ∙ f) in
          rw (elsewhere a other, elsewhere b more) (keeps _)

-- ---- the paths of a file

abbrev pub any_path : Path → List Path → Bool
any_path q paths = list_any (λ p. same_path q p) paths

abbrev any_pair : Path × Path → List (Path × Path) → Bool
any_pair x pairs = list_any (eq_by_cmp pair_cmp x) pairs

same_back : (p q : Path) → same_path p q ≡ same_path q p
same_back p q = by_bools _ _ (λ h. rw (same_path-is p q h) (same_path-self q)) (λ h. rw (same_path-is q p h) (same_path-self p))

-- those that are one with a path, and no others
paths_in : (p q : Path) (pairs : List (Path × Path)) → any_path q (filter_map (λ pair. if same_path pair.0 p then Some pair.1 else None) pairs) ≡ any_pair (p, q) pairs
paths_in p q [] = refl
paths_in p q (e ∷ pairs) = rw (tie_paths p q e.0 e.1) (at (paths_in p q pairs) (same_path e.0 p) refl)
  where
    at : any_path q (filter_map (λ pair. if same_path pair.0 p then Some pair.1 else None) pairs) ≡ any_pair (p, q) pairs → (b : Bool) → same_path e.0 p ≡ b →
        any_path q (filter_map (λ pair. if same_path pair.0 p then Some pair.1 else None) (e ∷ pairs)) ≡ (same_path p e.0 && same_path q e.1 || any_pair (p, q) pairs)
    at rest true here = rw (same_back p e.0, here) (ap (λ b. same_path q e.1 || b) rest)
    at rest false here = rw (same_back p e.0, here) rest

pub paths_of-any : (one : Aliases) (p q : Path) → any_path q (paths_of one p) ≡ is_one one p q
paths_of-any one p q = paths_in p q (items one) ∙ sym (contains-items one (p, q))

pub same_by_cmp : (p q : Path) → eq_by_cmp path_cmp p q ≡ same_path p q
same_by_cmp p q = by_bools _ _ (λ e. rw (same_path_from p q e) (same_path-self q)) (λ e. rw (same_path-is p q e) ((eq_by_cmp_equiv path_cmp-IsTotalOrder).refl q))

-- nodes in which this one is at each of some paths
pub get-with_node_at : (paths : List Path) (node : Node) (nodes : Nodes) (q : Path) →
    get (with_node_at paths node nodes) q ≡ cond (any_path q paths) (Some node) (get nodes q)
get-with_node_at [] node nodes q = refl
get-with_node_at (p ∷ paths) node nodes q =
    get-insert path_cmp-IsTotalOrder (with_node_at paths node nodes) p node q
    ∙ rw (same_by_cmp q p, get-with_node_at paths node nodes q) (go (same_path q p) (any_path q paths))
  where
    go : (x y : Bool) → cond x (Some node) (cond y (Some node) (get nodes q)) ≡ cond (x || y) (Some node) (get nodes q)
    go true y = refl
    go false y = refl

-- ---- one more path of a file

pub pairs_of-any : (a b q : Path) (paths : List Path) → any_pair (a, b) (pairs_with q paths) ≡
    (same_path a q && same_path b q || (same_path a q && any_path b paths || same_path b q && any_path a paths))
pairs_of-any a b q [] = rw (tie_paths a b q q) (go (same_path a q) (same_path b q))
  where
    go : (x y : Bool) → (x && y || false) ≡ (x && y || (x && false || y && false))
    go true true = refl
    go true false = refl
    go false true = refl
    go false false = refl
pairs_of-any a b q (p ∷ paths) =
    rw (tie_paths a b q p, tie_paths a b p q, pairs_of-any a b q paths)
    (go (same_path a q) (same_path b q) (same_path b p) (same_path a p) (any_path b paths) (any_path a paths))
  where
    go : (x y s t v w : Bool) → (x && s || (t && y || (x && y || (x && v || y && w)))) ≡ (x && y || (x && (s || v) || y && (t || w)))
    go true true true t v w = refl
    go true true false true v w = refl
    go true true false false v w = refl
    go true false true t v w = refl
    go true false false true v w = refl
    go true false false false v w = refl
    go false true s true v w = refl
    go false true s false v w = refl
    go false false s true v w = refl
    go false false s false v w = refl

pub are_one-back : (x y : Option ℕ) → are_one x y ≡ are_one y x
are_one-back None None = refl
are_one-back None (Some j) = refl
are_one-back (Some i) None = refl
are_one-back (Some i) (Some j) = by_bools (i == j) (j == i)
    (λ e. rw (eqb-true i j e) (are_one-self j)) (λ e. rw (eqb-true j i e) (are_one-self i))

module _ (label new : Path → Option ℕ) (one : Aliases) (p q : Path) (i : ℕ) (k : IsKernel label one) (from : label p ≡ Some i) (none : label q ≡ None)
    (there : new q ≡ Some i) (elsewhere : (r : Path) → r ≢ q → new r ≡ label r) where
  with_file : (r : Path) → any_path r (paths_of one p) ≡ are_one (Some i) (label r)
  with_file r = paths_of-any one p r ∙ k.each p r ∙ ap (λ x. are_one x (label r)) from

  other : (r : Path) → same_path r q ≡ false → r ≢ q
  other r e h = true≢false (sym (same_path-self q) ∙ ap (λ x. same_path x q) (sym h) ∙ e)

  pub kernel_linked : IsKernel new (linked one p q)
  kernel_linked = record {
    each = λ a b. contains-union pair_cmp-IsTotalOrder one _ (a, b)
        ∙ rw (contains-from_list pair_cmp-IsTotalOrder (pairs_with q (paths_of one p)) (a, b), pairs_of-any a b q (paths_of one p), k.each a b, with_file a, with_file b)
        (go a b (same_path a q) refl (same_path b q) refl);
  }
    where
      last : (x : Bool) → (false || (x || false)) ≡ x
      last true = refl
      last false = refl

      go : (a b : Path) → (x : Bool) → same_path a q ≡ x → (y : Bool) → same_path b q ≡ y →
          (are_one (label a) (label b) || (x && y || (x && are_one (Some i) (label b) || y && are_one (Some i) (label a)))) ≡ are_one (new a) (new b)
      go a b true e true f = rw (same_path-is a q e, same_path-is b q f, none, there) (sym (are_one-self i))
      go a b true e false f = rw (same_path-is a q e, none, there, elsewhere b (other b f)) (last _)
      go a b false e true f = rw (same_path-is b q f, none, there, elsewhere a (other a e), are_one-none (label a)) (are_one-back (Some i) (label a))
      go a b false e false f = rw (elsewhere a (other a e), elsewhere b (other b f)) (drop _)
        where
          drop : (x : Bool) → (x || (false || (false || false))) ≡ x
          drop true = refl
          drop false = refl

-- ---- paths that move

-- where a path was before p and what is below it became q and what is below that; a path below p is new
abbrev pub moved_from : Path → Path → Option Path → Option Path → Option Path
moved_from p path (Some rest) below = Some (p ++ rest)
moved_from p path None (Some rest) = None
moved_from p path None None = Some path

abbrev pub before_move : Path → Path → Path → Option Path
before_move p q path = moved_from p path (rest_below q path) (rest_below p path)

differ : (p q : Path) → (p ≡ q → ⊥) → same_path p q ≡ false
differ p q other = go (same_path p q) refl
  where
    go : (b : Bool) → same_path p q ≡ b → same_path p q ≡ false
    go true e = absurd (other (same_path-is p q e))
    go false e = e

abbrev same_if : Option Path → Path → Bool
same_if None c = false
same_if (Some x) c = same_path x c

module _ (p q : Path) (apart : rest_below p q ≡ None) where
  -- the path is not below q, but may be q
  abbrev IsClean : Path → Type 0
  IsClean c = (n : Name) (s : Path) → c ≡ q ++ n ∷ s → ⊥

  none_some : (x : Path) → ◌≡◌ {A = Option Path} (Some x) None → ⊥
  none_some x e = absurd (cc)

  under : (a c r : Path) → c ≡ a ++ r → rest_below a c ≡ None → ⊥
  under a c r e none = none_some r (sym (rest_below-append a r) ∙ ap (rest_below a) (sym e) ∙ none)

  abbrev hit : Path → Path → Bool
  hit a c = not (same_path c q) && same_path a (moved_path p q c)

  one_hit : (a c : Path) → IsClean c → hit a c ≡ same_if (before_move p q a) c
  one_hit a c clean = go (rest_below q a) refl (rest_below p a) refl (same_path c q) refl (rest_below p c) refl
    where
      go : (x : Option Path) → rest_below q a ≡ x → (y : Option Path) → rest_below p a ≡ y → (b : Bool) → same_path c q ≡ b → (z : Option Path) → rest_below p c ≡ z → hit a c ≡ same_if (before_move p q a) c
      go (Some r) e y f true g z h = rw (e, g) (sym (differ (p ++ r) c (λ k. under p q r (sym (same_path-is c q g) ∙ sym k) apart)))
      go (Some r) e y f false g (Some s) h =
          let from : c ≡ p ++ s = rest_below-is p c s h in
          let here : a ≡ q ++ r = rest_below-is q a r e in
          rw (e, g, h)
          (by_bools (same_path a (q ++ s)) (same_path (p ++ r) c)
          (λ k. rw (from, append_cancel_left q r s (sym here ∙ same_path-is a (q ++ s) k)) (same_path-self (p ++ s)))
          (λ k. rw (here, append_cancel_left p r s (same_path-is (p ++ r) c k ∙ from)) (same_path-self (q ++ s))))
      go (Some r) e y f false g None h =
          let here : a ≡ q ++ r = rest_below-is q a r e in
          rw (e, g, h) (differ a c (λ k. not_kept r (sym k ∙ here)) ∙ sym (differ (p ++ r) c (λ k. under p c r (sym k) h)))
        where
          not_kept : (r : Path) → c ≡ q ++ r → ⊥
          not_kept [] k = true≢false (sym (same_path-self q) ∙ ap (λ x. same_path x q) (sym (k ∙ append-nil q)) ∙ g)
          not_kept (n ∷ s) k = clean n s k
      go None e (Some r) f true g z h = rw (e, f, g) refl
      go None e (Some r) f false g (Some s) h = rw (e, f, g, h) (differ a (q ++ s) (λ k. under q a s k e))
      go None e (Some r) f false g None h = rw (e, f, g, h) (differ a c (λ k. none_some r (sym f ∙ ap (rest_below p) k ∙ h)))
      go None e None f true g z h = rw (e, f, g) (sym (differ a c (λ k. under q a [] (k ∙ same_path-is c q g ∙ sym (append-nil q)) e)))
      go None e None f false g (Some s) h =
          rw (e, f, g, h) (differ a (q ++ s) (λ k. under q a s k e) ∙ sym (differ a c (λ k. under p a s (k ∙ rest_below-is p c s h) f)))
      go None e None f false g None h = rw (e, f, g, h) refl

  abbrev any_if : Option Path → Option Path → List (Path × Path) → Bool
  any_if (Some x) (Some y) pairs = any_pair (x, y) pairs
  any_if _ _ pairs = false

  or_right : (x y : Bool) → y ≡ true → (x || y) ≡ true
  or_right true y e = refl
  or_right false y e = e

  moved_in : (a b : Path) (pairs : List (Path × Path)) → ((x : Path × Path) → any_pair x pairs ≡ true → IsClean x.0 × IsClean x.1) →
      any_pair (a, b) (filter_map (moved_pair p q) pairs) ≡ any_if (before_move p q a) (before_move p q b) pairs
  moved_in a b [] clean = nothing (before_move p q a) (before_move p q b)
    where
      nothing : (x y : Option Path) → false ≡ any_if x y []
      nothing None y = refl
      nothing (Some x) None = refl
      nothing (Some x) (Some y) = refl
  moved_in a b (e ∷ pairs) clean =
      step (moved_in a b pairs (λ x any. clean x (or_right _ _ any))) (same_path e.0 q) refl (same_path e.1 q) refl
      ∙ add (before_move p q a) (before_move p q b) (one_hit a e.0 here.0) (one_hit b e.1 here.1)
    where
      here : IsClean e.0 × IsClean e.1
      here = clean e (ap (λ x. x || any_pair e pairs) (tie_self e))

      drop : (x y : Bool) → (x && false && y) ≡ false
      drop true y = refl
      drop false y = refl

      step : any_pair (a, b) (filter_map (moved_pair p q) pairs) ≡ any_if (before_move p q a) (before_move p q b) pairs → (x : Bool) → same_path e.0 q ≡ x → (y : Bool) → same_path e.1 q ≡ y →
          any_pair (a, b) (filter_map (moved_pair p q) (e ∷ pairs)) ≡ (hit a e.0 && hit b e.1 || any_if (before_move p q a) (before_move p q b) pairs)
      step rest true f y g = rw (f) rest
      step rest false f true g = rw (f, g) (rest ∙ lone (same_path a (moved_path p q e.0)) _)
        where
          lone : (x z : Bool) → z ≡ (x && false || z)
          lone true z = refl
          lone false z = refl
      step rest false f false g = rw (f, g, tie_paths a b (moved_path p q e.0) (moved_path p q e.1)) (ap (λ z. same_path a (moved_path p q e.0) && same_path b (moved_path p q e.1) || z) rest)

      add : (x y : Option Path) → hit a e.0 ≡ same_if x e.0 → hit b e.1 ≡ same_if y e.1 → (hit a e.0 && hit b e.1 || any_if x y pairs) ≡ any_if x y (e ∷ pairs)
      add None y f g = rw f refl
      add (Some x) None f g = rw (f, g) (none (same_path x e.0))
        where
          none : (z : Bool) → (z && false || false) ≡ false
          none true = refl
          none false = refl
      add (Some x) (Some y) f g = rw (f, g, tie_paths x y e.0 e.1) refl

  -- the labels go with the paths
  pub kernel_moved : (label new : Path → Option ℕ) (one : Aliases) → IsKernel label one → ((n : Name) (s : Path) → label (q ++ n ∷ s) ≡ None) →
      ((r : Path) → new r ≡ option_and_then label (before_move p q r)) → IsKernel new (moved_one p q one)
  kernel_moved label new one k empty moves = record {
    each = λ a b. contains-from_list pair_cmp-IsTotalOrder (filter_map (moved_pair p q) (items one)) (a, b)
        ∙ moved_in a b (items one) (λ x any. clean x (contains-items one x ∙ any))
        ∙ rw (moves a, moves b) (reported (before_move p q a) (before_move p q b));
  }
    where
      some_labels : (x y : Option ℕ) → are_one x y ≡ true → (x ≡ None → ⊥) × (y ≡ None → ⊥)
      some_labels None y e = absurd (true≢false (sym e))
      some_labels (Some i) None e = absurd (true≢false (sym e))
      some_labels (Some i) (Some j) e = ((λ f. absurd (cc)), (λ f. absurd (cc)))

      clean : (x : Path × Path) → contains one x ≡ true → IsClean x.0 × IsClean x.1
      clean x there =
          let both = some_labels (label x.0) (label x.1) (sym (k.each x.0 x.1) ∙ there) in
          ((λ n s f. both.0 (ap label f ∙ empty n s)), (λ n s f. both.1 (ap label f ∙ empty n s)))

      reported : (x y : Option Path) → any_if x y (items one) ≡ are_one (option_and_then label x) (option_and_then label y)
      reported None y = refl
      reported (Some x) None = sym (are_one-none (label x))
      reported (Some x) (Some y) = sym (contains-items one (x, y)) ∙ k.each x y

-- ---- the pairs of a labelling, among some paths

module _ (label : Path → Option ℕ) where
  any-append : (x : Path × Path) (one two : List (Path × Path)) → any_pair x (one ++ two) ≡ (any_pair x one || any_pair x two)
  any-append x [] two = refl
  any-append x (e ∷ one) two = ap (λ b. eq_by_cmp pair_cmp x e || b) (any-append x one two) ∙ assoc (eq_by_cmp pair_cmp x e) (any_pair x one) (any_pair x two)
    where
      assoc : (a b c : Bool) → (a || (b || c)) ≡ ((a || b) || c)
      assoc true b c = refl
      assoc false b c = refl

  row-any : (a b p : Path) (paths : List Path) → any_pair (a, b) (row label p paths) ≡ (same_path a p && (are_one (label a) (label b) && any_path b paths))
  row-any a b p [] = none (same_path a p) (are_one (label a) (label b))
    where
      none : (x y : Bool) → false ≡ (x && (y && false))
      none true true = refl
      none true false = refl
      none false y = refl
  row-any a b p (q ∷ paths) = go (row-any a b p paths) (are_one (label p) (label q)) refl (same_path a p) refl (same_path b q) refl
    where
      other : (x y : Bool) → (false || (x && y)) ≡ (x && (false || y))
      other true y = refl
      other false y = refl

      go : any_pair (a, b) (row label p paths) ≡ (same_path a p && (are_one (label a) (label b) && any_path b paths)) → (o : Bool) → are_one (label p) (label q) ≡ o → (x : Bool) → same_path a p ≡ x → (y : Bool) → same_path b q ≡ y →
          any_pair (a, b) (row label p (q ∷ paths)) ≡ (same_path a p && (are_one (label a) (label b) && (same_path b q || any_path b paths)))
      go rest true e true f true g =
          rw (e, tie_paths a b p q, f, g, ap label (same_path-is a p f), ap label (same_path-is b q g), e) refl
      go rest true e true f false g = rw (e, tie_paths a b p q, f, g) (rest ∙ rw f refl)
      go rest true e false f y g = rw (e, tie_paths a b p q, f) (rest ∙ rw f refl)
      go rest false e true f true g =
          rw (e, f, g) (rest ∙ rw (f, ap label (same_path-is a p f), ap label (same_path-is b q g), e) refl)
      go rest false e true f false g = rw (e, f, g) (rest ∙ rw f refl)
      go rest false e false f y g = rw (e, f) (rest ∙ rw f refl)

  rows-any : (a b : Path) (ps paths : List Path) → any_pair (a, b) (rows label ps paths) ≡ (any_path a ps && (are_one (label a) (label b) && any_path b paths))
  rows-any a b [] paths = refl
  rows-any a b (p ∷ ps) paths =
      any-append (a, b) (row label p paths) (rows label ps paths) ∙ rw (row-any a b p paths, rows-any a b ps paths) (join (same_path a p) (any_path a ps) (are_one (label a) (label b) && any_path b paths))
    where
      join : (x y z : Bool) → ((x && z) || (y && z)) ≡ ((x || y) && z)
      join true true true = refl
      join true true false = refl
      join true false true = refl
      join true false false = refl
      join false y z = refl

  pub kernel_of : (paths : List Path) → ((p : Path) (i : ℕ) → label p ≡ Some i → any_path p paths ≡ true) → IsKernel label (kernel_from label paths)
  kernel_of paths all = record {
    each = λ a b. contains-from_list pair_cmp-IsTotalOrder (rows label paths paths) (a, b) ∙ rows-any a b paths paths ∙ go a b (label a) refl (label b) refl;
  }
    where
      none : (x : Option ℕ) → are_one x None ≡ false
      none None = refl
      none (Some i) = refl

      drop : (x : Bool) → (x && false) ≡ false
      drop true = refl
      drop false = refl

      keep : (x : Bool) → (x && true) ≡ x
      keep true = refl
      keep false = refl

      go : (a b : Path) → (x : Option ℕ) → label a ≡ x → (y : Option ℕ) → label b ≡ y → (any_path a paths && (are_one (label a) (label b) && any_path b paths)) ≡ are_one (label a) (label b)
      go a b None e y f = rw e (drop (any_path a paths))
      go a b (Some i) e None f = rw (e, f) (drop (any_path a paths))
      go a b (Some i) e (Some j) f = rw (all a i e, all b j f) (keep (are_one (label a) (label b)))
