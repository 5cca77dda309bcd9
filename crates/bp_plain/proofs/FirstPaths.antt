-- The first path of a file.
use Rattle.std.proofs.Common.{◌≡◌, Bool, true, false, cond, List, [], ◌∷◌, ◌++◌, map, find, Option, None, Some, is_some, refl, sym, ◌∙◌, ap, true≢false}
use Rattle.std.specs.Option.{unwrap_or}
use Rattle.std.specs.Ordering.{eq_by_cmp, is_eq}
use Rattle.std.specs.Cmp.{tied_itself}
use Rattle.std.specs.FinMap.{entries, keys}
use Rattle.std.specs.FinMap.Entries as entry
use Rattle.bp_layout.specs.Paths.{Path}
use Rattle.bp_plain.specs.Export.{first_of}
use Rattle.bp_plain.specs.PlainTree.{IsPathMap, PathMap, is_one, path_cmp}
use Rattle.bp_plain.proofs.PathOrder.{path_cmp-IsTotalOrder, same_path_from}
use Rattle.bp_plain.proofs.PathWays.{Entry}

-- ---- the first path that passes a test

abbrev pub key : Entry → Path
key e = e.0

abbrev pub paths : List Entry → List Path
paths es = map key es

-- an entry is at the path
abbrev pub has : Path → List Entry → Bool
has q es = is_some (entry.find path_cmp q es)

pub first_there : (p : Path → Bool) (es : List Entry) (x : Path) → find p (paths es) ≡ Some x → (p x ≡ true) × (has x es ≡ true)
first_there p [] x e = let none : ◌≡◌ {A = Option Path} None (Some x) = e in absurd (cc)
first_there p (e ∷ es) x found = go (p e.0) refl (λ rest. first_there p es x rest)
  where
    more : (b : Bool) → has x es ≡ true → is_some (cond b (Some e.1) (entry.find path_cmp x es)) ≡ true
    more true later = refl
    more false later = later

    go : (b : Bool) → p e.0 ≡ b → (find p (paths es) ≡ Some x → (p x ≡ true) × (has x es ≡ true)) → (p x ≡ true) × (has x (e ∷ es) ≡ true)
    go true at rest =
        let some : ◌≡◌ {A = Option Path} (Some e.0) (Some x) = rw at at found in
        let is : e.0 ≡ x = cc in
        (ap p (sym is) ∙ at, ap (λ y. is_some (cond (eq_by_cmp path_cmp y e.0) (Some e.1) (entry.find path_cmp y es))) (sym is) ∙ ap (λ r. is_some (cond (is_eq r) (Some e.1) (entry.find path_cmp e.0 es))) (tied_itself path_cmp-IsTotalOrder e.0))
    go false at rest = let later = rest (rw at at found) in (later.0, more (eq_by_cmp path_cmp x e.0) later.1)

pub none_there : (p : Path → Bool) (es : List Entry) → find p (paths es) ≡ None → (x : Path) → has x es ≡ true → p x ≡ false
none_there p [] found x there = absurd (true≢false (sym there))
none_there p (e ∷ es) found x there = go (p e.0) refl (eq_by_cmp path_cmp x e.0) refl (λ none later. none_there p es none x later)
  where
    go : (b : Bool) → p e.0 ≡ b → (c : Bool) → eq_by_cmp path_cmp x e.0 ≡ c → (find p (paths es) ≡ None → has x es ≡ true → p x ≡ false) → p x ≡ false
    go true at c same rest = let some : ◌≡◌ {A = Option Path} (Some e.0) None = rw at at found in absurd (cc)
    go false at true same rest = ap p (same_path_from x e.0 same) ∙ at
    go false at false same rest = rest (rw at at found) (rw same at there)

pub none_passes : (p : Path → Bool) (qs : List Path) → ((q : Path) → p q ≡ false) → find p qs ≡ None
none_passes p [] none = refl
none_passes p (q ∷ qs) none = rw (none q) (none_passes p qs none)

find_on : (p : Path → Bool) (xs ys : List Path) → find p xs ≡ None → find p (xs ++ ys) ≡ find p ys
find_on p [] ys none = refl
find_on p (x ∷ xs) ys none = go (p x) refl (λ rest. find_on p xs ys rest)
  where
    go : (b : Bool) → p x ≡ b → (find p xs ≡ None → find p (xs ++ ys) ≡ find p ys) → find p (x ∷ (xs ++ ys)) ≡ find p ys
    go true at rest = let some : ◌≡◌ {A = Option Path} (Some x) None = rw at at none in absurd (cc)
    go false at rest = rw at (rest (rw at at none))

find_soon : (p : Path → Bool) (xs ys : List Path) (q : Path) → find p xs ≡ Some q → find p (xs ++ ys) ≡ Some q
find_soon p [] ys q found = let none : ◌≡◌ {A = Option Path} None (Some q) = found in absurd (cc)
find_soon p (x ∷ xs) ys q found = go (p x) refl (λ rest. find_soon p xs ys q rest)
  where
    go : (b : Bool) → p x ≡ b → (find p xs ≡ Some q → find p (xs ++ ys) ≡ Some q) → find p (x ∷ (xs ++ ys)) ≡ Some q
    go true at rest = rw at (rw at at found)
    go false at rest = rw at (rest (rw at at found))

paths-append : (xs ys : List Entry) → paths (xs ++ ys) ≡ paths xs ++ paths ys
paths-append [] ys = refl
paths-append (x ∷ xs) ys = ap (λ ps. x.0 ∷ ps) (paths-append xs ys)

-- The first path of what stands at a path is among those before it, or is the path itself.
pub first_before : (tree : PathMap) → IsPathMap tree → (prefix : List Entry) (e : Entry) (after : List Entry) → entries tree.nodes ≡ prefix ++ e ∷ after
    → first_of tree e.0 ≡ unwrap_or (find (is_one tree.one e.0) (paths prefix)) e.0
first_before tree is prefix e after are = ap (λ qs. own (find same qs)) keys_are ∙ go (find same (paths prefix)) refl
  where
    same : Path → Bool
    same = is_one tree.one e.0

    own : Option Path → Path
    own found = unwrap_or found e.0

    keys_are : keys tree.nodes ≡ paths prefix ++ e.0 ∷ paths after
    keys_are = ap paths are ∙ paths-append prefix (e ∷ after)

    -- where it isn't one with itself, it is one with none
    alone : same e.0 ≡ false → (q : Path) → same q ≡ false
    alone none q = at (same q) refl
      where
        at : (b : Bool) → same q ≡ b → same q ≡ false
        at true e_q = absurd (true≢false (sym (is.chain e.0 q e.0 e_q (is.back e.0 q e_q)) ∙ none))
        at false e_q = e_q

    here : (b : Bool) → same e.0 ≡ b → own (find same (e.0 ∷ paths after)) ≡ e.0
    here true at = rw at refl
    here false at = rw at (ap own (none_passes same (paths after) (alone at)))

    go : (o : Option Path) → find same (paths prefix) ≡ o → own (find same (paths prefix ++ e.0 ∷ paths after)) ≡ own (find same (paths prefix))
    go None at = ap own (find_on same (paths prefix) (e.0 ∷ paths after) at) ∙ here (same e.0) refl ∙ ap own (sym at)
    go (Some q) at = ap own (find_soon same (paths prefix) (e.0 ∷ paths after) q at ∙ sym at)
