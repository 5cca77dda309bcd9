-- How many paths a file has: as many as there are entries with its number.
use Rattle.std.proofs.Common.{◌≡◌, ◌+◌, ◌||◌, ℕ, List, [], ◌∷◌, length, map, suc, Bool, true, false, cond, None, Some, if◌then◌else◌, arith, refl, sym, ◌∙◌, ap, ap₂, add-one}
use lib.Dec.{T}
use Rattle.std.specs.List.{list_any}
use Rattle.std.specs.Ordering.{eq_by_cmp, is_eq, is_lt}
use Rattle.std.specs.FinMap.{entries, entries_sorted, get-entries}
use Rattle.std.specs.FinMap.Entries.{below_all, find, is_sorted}
use Rattle.std.specs.FinSet.{contains, contains-from_list, from_list, len, len-empty, len-insert, same_set}
use Rattle.bp_layout.specs.Paths.{same_path, Path}
use Rattle.bp_layout.specs.Lookup.{are_one}
use Rattle.bp_layout.proofs.Below.{same_path-is}
use Rattle.bp_plain.specs.Numbered.{Numbered, NumberedFiles, has_number, map_of, number_at, number_in, paths_numbered}
use Rattle.bp_plain.specs.Numbered.Numbered.{directory, numbered_file}
use Rattle.bp_plain.specs.Plain.{path_count, paths_of}
use Rattle.bp_plain.specs.PlainTree.{Aliases, is_one, path_cmp}
use Rattle.std.specs.Global.{Vec}
use Rattle.arrayvec.specs.ArrayVec.{ArrayVec}
use Rattle.bp_plain.specs.declared.trees.entries.Node.{Node as Kept}
use Rattle.bp_plain.specs.SeenTree.{entry_kept, numbered}
use Rattle.bp_plain.proofs.Kept.{left_holds, less_than, right_holds}
use Rattle.bp_plain.proofs.Kernels.{any_path, are_one-back, paths_of-any, same_by_cmp}
use Rattle.bp_plain.proofs.Numbers.{pairs_of}
use Rattle.bp_plain.proofs.PathOrder.{path_cmp-IsAntisymmetric, path_cmp-IsTotalOrder}

-- ---- any list of the paths of a file, without one twice

-- no path stands in the list twice
abbrev pub AreOnce : List Path → Type 0
AreOnce [] = Unit {0}
AreOnce (p ∷ paths) = (any_path p paths ≡ false) × AreOnce paths

any_same : (p : Path) (ps : List Path) → list_any (eq_by_cmp path_cmp p) ps ≡ any_path p ps
any_same p [] = refl
any_same p (q ∷ ps) = ap₂ (λ a b. a || b) (same_by_cmp p q) (any_same p ps)

set_has : (paths : List Path) (q : Path) → contains (from_list {R = path_cmp} paths) q ≡ any_path q paths
set_has paths q = contains-from_list path_cmp-IsTotalOrder paths q ∙ any_same q paths

len_once : (paths : List Path) → AreOnce paths → len (from_list {R = path_cmp} paths) ≡ length paths
len_once [] once = len-empty path_cmp
len_once (p ∷ paths) once =
    len-insert path_cmp-IsTotalOrder (from_list paths) p ∙ rw (set_has paths p, once.0) (rw add-one (ap suc (len_once paths once.1)))

pub count_is : (one : Aliases) (p : Path) (paths : List Path) → AreOnce paths → ((q : Path) → any_path q paths ≡ is_one one p q) → path_count one p ≡ length paths
count_is one p paths once are =
    ap len (same_set path_cmp-IsTotalOrder path_cmp-IsAntisymmetric (from_list (paths_of one p)) (from_list paths) (λ q. set_has (paths_of one p) q ∙ paths_of-any one p q ∙ sym (are q) ∙ sym (set_has paths q)))
    ∙ len_once paths once

-- ---- the entries with a number

apart_below : (x y : Path) → T (is_lt (path_cmp x y)) → same_path x y ≡ false
apart_below x y low = sym (same_by_cmp x y) ∙ ap is_eq (less_than (path_cmp x y) low)

not_below : (id : ℕ) (x : Path) (es : List (Path × Numbered)) → T (below_all path_cmp x es) → any_path x (paths_numbered id es) ≡ false
not_below id x [] low = refl
not_below id x (e ∷ es) low = go (has_number id e.1) refl (not_below id x es (right_holds _ _ low))
  where
    go : (b : Bool) → has_number id e.1 ≡ b → any_path x (paths_numbered id es) ≡ false → any_path x (paths_numbered id (e ∷ es)) ≡ false
    go true at rest = rw (at, apart_below x e.0 (left_holds _ _ low)) rest
    go false at rest = rw at rest

once_numbered : (id : ℕ) (es : List (Path × Numbered)) → T (is_sorted path_cmp es) → AreOnce (paths_numbered id es)
once_numbered id [] sorted = tt
once_numbered id (e ∷ es) sorted = go (has_number id e.1) refl (once_numbered id es (right_holds _ _ sorted))
  where
    go : (b : Bool) → has_number id e.1 ≡ b → AreOnce (paths_numbered id es) → AreOnce (paths_numbered id (e ∷ es))
    go true at rest = rw at (not_below id e.0 es (left_holds _ _ sorted), rest)
    go false at rest = rw at rest

has_is : (id : ℕ) (node : Numbered) → has_number id node ≡ are_one (Some id) (number_in (Some node))
has_is id (directory attributes) = refl
has_is id (numbered_file other attributes content) = are_one-back (Some other) (Some id)

any_numbered : (id : ℕ) (es : List (Path × Numbered)) → T (is_sorted path_cmp es) → (q : Path) → any_path q (paths_numbered id es) ≡ are_one (Some id) (number_in (find path_cmp q es))
any_numbered id [] sorted q = refl
any_numbered id (e ∷ es) sorted q = go (same_path q e.0) refl (has_number id e.1) refl (any_numbered id es (right_holds _ _ sorted) q)
  where
    none_here : same_path q e.0 ≡ true → any_path q (paths_numbered id es) ≡ false
    none_here same = ap (λ p. any_path p (paths_numbered id es)) (same_path-is q e.0 same) ∙ not_below id e.0 es (left_holds _ _ sorted)

    go : (a : Bool) → same_path q e.0 ≡ a → (b : Bool) → has_number id e.1 ≡ b → any_path q (paths_numbered id es) ≡ are_one (Some id) (number_in (find path_cmp q es)) →
        any_path q (paths_numbered id (e ∷ es)) ≡ are_one (Some id) (number_in (find path_cmp q (e ∷ es)))
    go true same true has rest = rw (has, same_by_cmp q e.0, same) (sym (sym (has_is id e.1) ∙ has))
    go true same false has rest = rw (has, same_by_cmp q e.0, same) (none_here same ∙ sym (sym (has_is id e.1) ∙ has))
    go false same true has rest = rw (has, same_by_cmp q e.0, same) rest
    go false same false has rest = rw (has, same_by_cmp q e.0, same) rest

pub counted : (files : NumberedFiles) (p : Path) (id : ℕ) → number_at files p ≡ Some id → path_count (map_of files).one p ≡ length (paths_numbered id (entries files))
counted files p id is =
    count_is (map_of files).one p (paths_numbered id (entries files)) (once_numbered id (entries files) (entries_sorted files))
    (λ q. any_numbered id (entries files) (entries_sorted files) q ∙ ap (λ o. are_one (Some id) (number_in o)) (sym (get-entries files q))
    ∙ ap (λ x. are_one x (number_at files q)) (sym is) ∙ sym ((pairs_of files).each p q))

pub counted_none : (files : NumberedFiles) (p : Path) → number_at files p ≡ None → path_count (map_of files).one p ≡ 0
counted_none files p is = count_is (map_of files).one p [] tt (λ q. ap (λ x. are_one x (number_at files q)) (sym is) ∙ sym ((pairs_of files).each p q))

-- a further entry of a list of them
pub count_more : (id : ℕ) (e : Path × Numbered) (es : List (Path × Numbered)) → length (paths_numbered id (e ∷ es)) ≡ cond (has_number id e.1) 1 0 + length (paths_numbered id es)
count_more id e es = go (has_number id e.1) refl
  where
    go : (b : Bool) → has_number id e.1 ≡ b → length (paths_numbered id (e ∷ es)) ≡ cond (has_number id e.1) 1 0 + length (paths_numbered id es)
    go true at = rw at (grind arith)
    go false at = rw at (grind arith)

-- the same of the entries that a program has left
pub count_step : (id : ℕ) (e : Vec (ArrayVec ℕ) × Kept) (rest left : List (Vec (ArrayVec ℕ) × Kept)) (before after whole : ℕ) (holds : Bool) →
    left ≡ e ∷ rest → holds ≡ has_number id (numbered e.1) → after ≡ before + (if holds then 1 else 0) →
    before + length (paths_numbered id (map entry_kept left)) ≡ whole → after + length (paths_numbered id (map entry_kept rest)) ≡ whole
count_step id e rest left before after whole holds is has made so_far =
    let more : length (paths_numbered id (map entry_kept left)) ≡ cond (has_number id (numbered e.1)) 1 0 + length (paths_numbered id (map entry_kept rest)) =
    ap (λ es. length (paths_numbered id (map entry_kept es))) is ∙ count_more id (entry_kept e) (map entry_kept rest) in
    let one : ◌≡◌ {A = ℕ} (if holds then 1 else 0) (cond (has_number id (numbered e.1)) 1 0) = ap (λ (b : Bool). if b then 1 else 0) has in
    omega (arith, more, one, made, so_far)
