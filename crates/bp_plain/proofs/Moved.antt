-- What a plain tree has at each path after a rename.
use Rattle.std.proofs.Common.{◌≡◌, ◌⊎◌, List, [], ◌∷◌, ◌++◌, Bool, true, false, Option, None, Some, refl, sym, ◌∙◌, ap, inl, inr, true≢false, append-nil}
use Rattle.std.proofs.lemmas.List.{append_cancel_left}
use Rattle.std.specs.List.{filter_map}
use Rattle.std.specs.FinMap.{FinMap, get, entries, get-from_entries, get-entries}
use Rattle.std.specs.FinMap.Entries.{find}
use Rattle.std.specs.Ordering.{eq_by_cmp}
use Rattle.std.specs.Cmp.{eq_by_cmp_equiv}
use Rattle.bp_layout.specs.Paths.{Name, Path, same_path, rest_below}
use Rattle.bp_plain.specs.PlainTree.{path_cmp}
use Rattle.bp_layout.proofs.Below.{rest_below-append, rest_below-is, same_path-self, same_path-is, path_case}
use Rattle.bp_plain.specs.Plain.{moved, moved_entry, moved_path}
use Rattle.bp_plain.proofs.PathOrder.{path_cmp-IsTotalOrder, same_path_from}

-- ---- what is found at a path

ties : (p q : Path) → p ≡ q → eq_by_cmp path_cmp p q ≡ true
ties p q e = ap (eq_by_cmp path_cmp p) (sym e) ∙ (eq_by_cmp_equiv path_cmp-IsTotalOrder).refl p

differs : (p q : Path) → (p ≡ q → ⊥) → eq_by_cmp path_cmp p q ≡ false
differs p q other = go (eq_by_cmp path_cmp p q) refl
  where
    go : (b : Bool) → eq_by_cmp path_cmp p q ≡ b → eq_by_cmp path_cmp p q ≡ false
    go true e = absurd (other (same_path_from p q e))
    go false e = e

-- ---- the entries after a rename

pub record CanMove (p q : Path) : Type 0 where
  pub apart : rest_below p q ≡ None

not_target : (q path s : Path) → rest_below q path ≡ None → path ≡ q ++ s → ⊥
not_target q path s apart e = let none : ◌≡◌ {A = Option Path} (Some s) None = sym (rest_below-append q s) ∙ ap (rest_below q) (sym e) ∙ apart in absurd (cc)

module _ (p q : Path) (can : CanMove p q) where
  not_below : (r : Path) → p ++ r ≡ q → ⊥
  not_below r e = let none : ◌≡◌ {A = Option Path} (Some r) None = sym (rest_below-append p r) ∙ ap (rest_below p) e ∙ can.apart in absurd (cc)

  -- the key of an entry: below the source, or where it was
  pub data Key (key : Path) : Type 0 where
    moves : (rest : Path) → key ≡ p ++ rest → moved_path p q key ≡ q ++ rest → Key key
    stays : rest_below p key ≡ None → moved_path p q key ≡ key → Key key

  key_of : (key : Path) → Key key
  key_of key = go (rest_below p key) refl
    where
      go : (o : Option Path) → rest_below p key ≡ o → Key key
      go (Some rest) e = moves rest (rest_below-is p key rest e) (rw e refl)
      go None e = stays e (rw e refl)

  append_cancel : (a r s : Path) → a ++ r ≡ a ++ s → r ≡ s
  append_cancel a r s e = append_cancel_left a r s e

  -- below the target: what was below the source
  find-target : {A : Type 0} (es : List (Path × A)) (r : Path) → ((n : Name) (s : Path) → find path_cmp (q ++ n ∷ s) es ≡ None) →
      find path_cmp (q ++ r) (filter_map (moved_entry p q) es) ≡ find path_cmp (p ++ r) es
  find-target {A} [] r none = refl
  find-target {A} (e ∷ es) r none = go (λ h. find-target es r h) (same_path e.0 q) refl (key_of e.0)
    where
      none_later : (n : Name) (s : Path) → find path_cmp (q ++ n ∷ s) es ≡ None
      none_later n s = later (eq_by_cmp path_cmp (q ++ n ∷ s) e.0) refl
        where
          later : (b : Bool) → eq_by_cmp path_cmp (q ++ n ∷ s) e.0 ≡ b → find path_cmp (q ++ n ∷ s) es ≡ None
          later true at = let some : ◌≡◌ {A = Option A} (Some e.1) None = rw at at (none n s) in absurd (cc)
          later false at = rw at at (none n s)

      not_there : (n : Name) (s : Path) → e.0 ≡ q ++ n ∷ s → ⊥
      not_there n s here = let some : ◌≡◌ {A = Option A} (Some e.1) None = rw (ties (q ++ n ∷ s) e.0 (sym here)) at (none n s) in absurd (cc)

      go : (((n : Name) (s : Path) → find path_cmp (q ++ n ∷ s) es ≡ None) → find path_cmp (q ++ r) (filter_map (moved_entry p q) es) ≡ find path_cmp (p ++ r) es) →
          (b : Bool) → same_path e.0 q ≡ b → Key e.0 →
          find path_cmp (q ++ r) (filter_map (moved_entry p q) (e ∷ es)) ≡ find path_cmp (p ++ r) (e ∷ es)
      go rest true at k =
          let gone : e.0 ≡ q = same_path-is e.0 q at in
          rw (at, differs (p ++ r) e.0 (λ f. not_below r (f ∙ gone))) (rest none_later)
      go rest false at (moves s key new) = place (path_case r s)
        where
          place : (r ≡ s) ⊎ (r ≡ s → ⊥) → find path_cmp (q ++ r) (filter_map (moved_entry p q) (e ∷ es)) ≡ find path_cmp (p ++ r) (e ∷ es)
          place (inl same) =
              rw (at, new, ties (q ++ r) (q ++ s) (ap (λ x. q ++ x) same), ties (p ++ r) e.0 (ap (λ x. p ++ x) same ∙ sym key)) refl
          place (inr other) =
              rw (at, new, differs (q ++ r) (q ++ s) (λ f. other (append_cancel q r s f)), differs (p ++ r) e.0 (λ f. other (append_cancel p r s (f ∙ key)))) (rest none_later)
      go rest false at (stays below new) =
          rw (at, new, differs (q ++ r) e.0 (λ f. not_kept r f), differs (p ++ r) e.0 (λ f. not_source f)) (rest none_later)
        where
          not_kept : (r : Path) → q ++ r ≡ e.0 → ⊥
          not_kept [] f = true≢false (sym (same_path-self q) ∙ ap (λ x. same_path x q) (sym (append-nil q) ∙ f) ∙ at)
          not_kept (n ∷ s) f = not_there n s (sym f)

          not_source : p ++ r ≡ e.0 → ⊥
          not_source f = let none : ◌≡◌ {A = Option Path} (Some r) None = sym (rest_below-append p r) ∙ ap (rest_below p) f ∙ below in absurd (cc)

  -- below the source, and not below the target: nothing
  find-source : {A : Type 0} (es : List (Path × A)) (path : Path) → rest_below q path ≡ None → (r : Path) → path ≡ p ++ r → find path_cmp path (filter_map (moved_entry p q) es) ≡ None
  find-source {A} [] path apart r below = refl
  find-source {A} (e ∷ es) path apart r below = go (find-source es path apart r below) (same_path e.0 q) refl (key_of e.0)
    where
      go : find path_cmp path (filter_map (moved_entry p q) es) ≡ None → (b : Bool) → same_path e.0 q ≡ b → Key e.0 → find path_cmp path (filter_map (moved_entry p q) (e ∷ es)) ≡ None
      go rest true at k = rw at rest
      go rest false at (moves s key new) = rw (at, new, differs path (q ++ s) (λ f. not_target q path s apart f)) rest
      go rest false at (stays none new) =
          rw (at, new, differs path e.0 (λ f. let some : ◌≡◌ {A = Option Path} (Some r) None = sym (rest_below-append p r) ∙ ap (rest_below p) (sym below ∙ f) ∙ none in absurd (cc))) rest

  -- elsewhere: what was there
  find-elsewhere : {A : Type 0} (es : List (Path × A)) (path : Path) → rest_below q path ≡ None → rest_below p path ≡ None → find path_cmp path (filter_map (moved_entry p q) es) ≡ find path_cmp path es
  find-elsewhere {A} [] path apart aside = refl
  find-elsewhere {A} (e ∷ es) path apart aside = go (find-elsewhere es path apart aside) (same_path e.0 q) refl (key_of e.0)
    where
      go : find path_cmp path (filter_map (moved_entry p q) es) ≡ find path_cmp path es → (b : Bool) → same_path e.0 q ≡ b → Key e.0 →
          find path_cmp path (filter_map (moved_entry p q) (e ∷ es)) ≡ find path_cmp path (e ∷ es)
      go rest true at k =
          let gone : e.0 ≡ q ++ [] = same_path-is e.0 q at ∙ sym (append-nil q) in
          rw (at, differs path e.0 (λ f. not_target q path [] apart (f ∙ gone))) rest
      go rest false at (moves s key new) = rw (at, new, differs path (q ++ s) (λ f. not_target q path s apart f), differs path e.0 (λ f. not_target p path s aside (f ∙ key))) rest
      go rest false at (stays none new) = same_test (eq_by_cmp path_cmp path e.0) refl
        where
          same_test : (b : Bool) → eq_by_cmp path_cmp path e.0 ≡ b → find path_cmp path (filter_map (moved_entry p q) (e ∷ es)) ≡ find path_cmp path (e ∷ es)
          same_test true here = rw (at, new, here) refl
          same_test false here = rw (at, new, here) rest

-- what the tree has at a path after the rename
abbrev pub after_move : {A : Type 0} → Path → Path → FinMap path_cmp A → Path → Option A
after_move {A} p q tree path = below_target (rest_below q path) (rest_below p path)
  where
    below_target : Option Path → Option Path → Option A
    below_target (Some rest) source = get tree (p ++ rest)
    below_target None (Some rest) = None
    below_target None None = get tree path

pub get-moved : {A : Type 0} (p q : Path) (tree : FinMap path_cmp A) → rest_below p q ≡ None → ((n : Name) (s : Path) → get tree (q ++ n ∷ s) ≡ None) → (path : Path) →
    get (moved p q tree) path ≡ after_move p q tree path
get-moved {A} p q tree apart none path = get-from_entries path_cmp-IsTotalOrder (filter_map (moved_entry p q) (entries tree)) path ∙ go (rest_below q path) refl (rest_below p path) refl
  where
    can : CanMove p q
    can = record { apart = apart }

    go : (o : Option Path) → rest_below q path ≡ o → (s : Option Path) → rest_below p path ≡ s → find path_cmp path (filter_map (moved_entry p q) (entries tree)) ≡ after_move p q tree path
    go (Some r) e s f =
        rw e (ap (λ x. find path_cmp x (filter_map (moved_entry p q) (entries tree))) (rest_below-is q path r e)
        ∙ find-target p q can (entries tree) r (λ n t. sym (get-entries tree (q ++ n ∷ t)) ∙ none n t) ∙ sym (get-entries tree (p ++ r)))
    go None e (Some r) f = rw (e, f) (find-source p q can (entries tree) path e r (rest_below-is p path r f))
    go None e None f = rw (e, f) (find-elsewhere p q can (entries tree) path e f ∙ sym (get-entries tree path))
