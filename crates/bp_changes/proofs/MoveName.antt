-- A name moves from one directory to another, or is spelled again: what a rename makes of the plain tree.
use Rattle.std.proofs.Common.{◌≡◌, ◌⊎◌, ℕ, [], ◌∷◌, ◌++◌, length, Option, None, Some, option_and_then, refl, sym, ◌∙◌, ap, arith, inl, inr, length-append}
use Rattle.std.specs.Option.{option_map}
use Rattle.std.proofs.lemmas.Bool.{cases_eq}
use Rattle.std.proofs.lemmas.List.{append_assoc, append-nil, same_from_push}
use Rattle.bp_layout.specs.Words.{Image}
use Rattle.bp_layout.specs.Directory.{lookup_in}
use Rattle.bp_layout.specs.Paths.{Name, Path, rest_below}
use Rattle.bp_layout.specs.Inode.{IsDirectory}
use Rattle.bp_layout.proofs.LookupLaws.{lookup_in-shows}
use Rattle.bp_layout.specs.Reached.{IsReached}
use Rattle.bp_layout.specs.Reached.IsReached.{root_directory}
use Rattle.bp_layout.specs.Lookup.{lookup_from, lookup, node_of, shown}
use Rattle.bp_layout.specs.WellFormed.{IsWellFormed}
use Rattle.bp_layout.proofs.Below.{rest_below-append, rest_below-is}
use Rattle.bp_layout.proofs.View.{lookup_in-reached, lookup_from-reached}
use Rattle.bp_layout.proofs.Paths.{lookup_from-append, path_once, same_name, ByLast, by_last}
use Rattle.bp_layout.proofs.Paths.ByLast.{none, more}

pub lookup_from-join : (image : Image) (u : ℕ) (a b : Path) → lookup_from image u (a ++ b) ≡ option_and_then (λ v. lookup_from image v b) (lookup_from image u a)
lookup_from-join image u [] b = refl
lookup_from-join image u (first ∷ a) b = go (λ v. lookup_from-join image v a b) (lookup_in image u first)
  where
    go : ((v : ℕ) → lookup_from image v (a ++ b) ≡ option_and_then (λ w. lookup_from image w b) (lookup_from image v a)) → (found : Option ℕ) →
        option_and_then (λ v. lookup_from image v (a ++ b)) found ≡ option_and_then (λ w. lookup_from image w b) (option_and_then (λ v. lookup_from image v a) found)
    go rest None = refl
    go rest (Some v) = rest v

-- no path lies below a name in itself
pub not_longer : (path : Path) (name : Name) (rest : Path) → path ≡ (path ++ name ∷ []) ++ rest → ⊥
not_longer path name rest e = omega (arith, ap length e, length-append (path ++ name ∷ []) rest, length-append path (name ∷ []))

-- What the names of two images are where name `was` of directory i, which named j, has become name `now` of directory k.
pub record MovesName (old new : Image) (i : ℕ) (was : Name) (k : ℕ) (now : Name) (j : ℕ) : Type 0 where
  pub well_formed : IsWellFormed old
  pub apart : (i ≡ k) → (was ≡ now) → ⊥
  pub source : lookup_in old i was ≡ Some j
  pub directory : IsDirectory old k
  pub gone : lookup_in new i was ≡ None
  pub target : lookup_in new k now ≡ Some j
  -- what had the name before has no names
  pub alone : (v : ℕ) (name : Name) → lookup_in old k now ≡ Some v → lookup_in old v name ≡ None
  pub others : (u : ℕ) (name : Name) → IsReached old u → ((u ≡ i) → (name ≡ was) → ⊥) → ((u ≡ k) → (name ≡ now) → ⊥) → lookup_in new u name ≡ lookup_in old u name
  pub nodes : (u : ℕ) → IsReached old u → node_of new u ≡ node_of old u

module _ (old new : Image) (i : ℕ) (was : Name) (k : ℕ) (now : Name) (j : ℕ) (moves : MovesName old new i was k now j) where
  -- what has a name in it is a directory
  holds : (u : ℕ) (name : Name) (v : ℕ) → lookup_in old u name ≡ Some v → IsDirectory old u
  holds u name v e = (lookup_in-shows old u v name e).entry.directory

  to_holds : IsDirectory old k
  to_holds = moves.directory

  -- ---- paths

  -- where a path first comes to one of the two names
  pub record Meets (u a : ℕ) (name : Name) (path : Path) : Type 0 where
    pub above : Path
    pub below : Path
    pub is : path ≡ above ++ (name ∷ below)
    pub parent : lookup_from old u above ≡ Some a

  pub data Walk (u : ℕ) (path : Path) : Type 0 where
    same : lookup_from new u path ≡ lookup_from old u path → Walk u path
    source : Meets u i was path → Walk u path
    target : Meets u k now path → Walk u path

  walk_of : (u : ℕ) (path : Path) → IsReached old u → Walk u path
  walk_of u [] reached = same refl
  walk_of u (first ∷ path) reached =
      go (λ v q. walk_of v path q) (cases_eq u i) (same_name first was) (cases_eq u k) (same_name first now)
    where
      on : {a : ℕ} {name : Name} {v : ℕ} → lookup_in old u first ≡ Some v → Meets v a name path → Meets u a name (first ∷ path)
      on f m = record { above = first ∷ m.above; below = m.below; is = ap (λ q. first ∷ q) m.is; parent = rw f m.parent }

      further : (v : ℕ) → lookup_in old u first ≡ Some v → lookup_in new u first ≡ lookup_in old u first → Walk v path → Walk u (first ∷ path)
      further v f here (same e) = same (rw (here, f) e)
      further v f here (source m) = source (on f m)
      further v f here (target m) = target (on f m)

      elsewhere : ((v : ℕ) → IsReached old v → Walk v path) → lookup_in new u first ≡ lookup_in old u first → (found : Option ℕ) → lookup_in old u first ≡ found → Walk u (first ∷ path)
      elsewhere rest here None f = same (rw (here, f) refl)
      elsewhere rest here (Some v) f = further v f here (rest v (lookup_in-reached old u v first reached f))

      meet : {a : ℕ} {name : Name} → u ≡ a → first ≡ name → Meets u a name (first ∷ path)
      meet e f = record { above = []; below = path; is = ap (λ n. n ∷ path) f; parent = ap Some e }

      go : ((v : ℕ) → IsReached old v → Walk v path) → (u ≡ i) ⊎ (u ≡ i → ⊥) → (first ≡ was) ⊎ (first ≡ was → ⊥) →
          (u ≡ k) ⊎ (u ≡ k → ⊥) → (first ≡ now) ⊎ (first ≡ now → ⊥) → Walk u (first ∷ path)
      go rest (inl a) (inl b) c d = source (meet a b)
      go rest a b (inl c) (inl d) = target (meet c d)
      go rest (inr a) b (inr c) d = elsewhere rest (moves.others u first reached (λ x y. a x) (λ x y. c x)) (lookup_in old u first) refl
      go rest (inr a) b (inl c) (inr d) = elsewhere rest (moves.others u first reached (λ x y. a x) (λ x y. d y)) (lookup_in old u first) refl
      go rest (inl a) (inr b) (inr c) d = elsewhere rest (moves.others u first reached (λ x y. b y) (λ x y. c x)) (lookup_in old u first) refl
      go rest (inl a) (inr b) (inl c) (inr d) = elsewhere rest (moves.others u first reached (λ x y. b y) (λ x y. d y)) (lookup_in old u first) refl

  nodes_same : (path also : Path) → lookup new path ≡ lookup old also → shown new path ≡ shown old also
  nodes_same path also e = rw e (go (lookup old also) refl)
    where
      go : (found : Option ℕ) → lookup old also ≡ found → option_map (node_of new) found ≡ option_map (node_of old) found
      go None f = refl
      go (Some u) f = ap Some (moves.nodes u (lookup_from-reached old 1 u also root_directory f))

  -- the source's directory is not below the target, as what had the new name before has no names
  pub not_below_target : (from to : Path) → lookup old from ≡ Some i → lookup old to ≡ Some k → rest_below (to ++ now ∷ []) from ≡ None
  not_below_target from to from_is to_is = go (rest_below (to ++ now ∷ []) from) refl
    where
      nothing : (x : ℕ) → ◌≡◌ {A = Option ℕ} (Some x) None → ⊥
      nothing x e = absurd (cc)

      by_rest : (v : ℕ) (rest : Path) → lookup_in old k now ≡ Some v → ◌≡◌ {A = Option ℕ} (Some i) (lookup_from old v rest) → ⊥
      by_rest v [] found e =
          let gone : lookup_in old v was ≡ None = moves.alone v was found in
          let there : lookup_in old i was ≡ Some j = moves.source in
          nothing j (cc)
      by_rest v (n ∷ rest) found e = nothing i (rw (moves.alone v n found) at e)

      by_found : (rest : Path) (found : Option ℕ) → lookup_in old k now ≡ found → Some i ≡ option_and_then (λ v. lookup_from old v rest) found → ⊥
      by_found rest None f e = nothing i e
      by_found rest (Some v) f e = by_rest v rest f e

      go : (o : Option Path) → rest_below (to ++ now ∷ []) from ≡ o → rest_below (to ++ now ∷ []) from ≡ None
      go None e = e
      go (Some rest) e =
          let inside : lookup old (to ++ now ∷ []) ≡ lookup_in old k now = lookup_from-append old 1 to now ∙ rw to_is refl in
          absurd (by_found rest (lookup_in old k now) refl
          (sym from_is ∙ ap (lookup old) (rest_below-is (to ++ now ∷ []) from rest e) ∙ lookup_from-join old 1 (to ++ now ∷ []) rest ∙ rw inside refl))

  -- p and q are the paths of the source and of the target
  module _ (from to : Path) (from_is : lookup old from ≡ Some i) (to_is : lookup old to ≡ Some k)
      (outside : rest_below (from ++ was ∷ []) to ≡ None) (aside : rest_below (to ++ now ∷ []) from ≡ None) where
    below_source : (path : Path) → Meets 1 i was path → (rest : Path) × (rest_below (from ++ was ∷ []) path ≡ Some rest)
    below_source path m =
        let above : m.above ≡ from = path_once old moves.well_formed m.above from i m.parent from_is (holds i was j moves.source) in
        let is : path ≡ (from ++ was ∷ []) ++ m.below = m.is ∙ ap (λ x. x ++ (was ∷ m.below)) above ∙ sym (append_assoc from (was ∷ []) m.below) in
        (m.below, ap (rest_below (from ++ was ∷ [])) is ∙ rest_below-append (from ++ was ∷ []) m.below)

    below_target : (path : Path) → Meets 1 k now path → (rest : Path) × (rest_below (to ++ now ∷ []) path ≡ Some rest)
    below_target path m =
        let above : m.above ≡ to = path_once old moves.well_formed m.above to k m.parent to_is to_holds in
        let is : path ≡ (to ++ now ∷ []) ++ m.below = m.is ∙ ap (λ x. x ++ (now ∷ m.below)) above ∙ sym (append_assoc to (now ∷ []) m.below) in
        (m.below, ap (rest_below (to ++ now ∷ [])) is ∙ rest_below-append (to ++ now ∷ []) m.below)

    clash : (path : Path) (a b : Path) → rest_below a path ≡ Some b → rest_below a path ≡ None → ⊥
    clash path a b e f = let none : ◌≡◌ {A = Option Path} (Some b) None = sym e ∙ f in absurd (cc)

    stays : (path : Path) → rest_below (from ++ was ∷ []) path ≡ None → rest_below (to ++ now ∷ []) path ≡ None → lookup new path ≡ lookup old path
    stays path no_source no_target = go (walk_of 1 path root_directory)
      where
        go : Walk 1 path → lookup new path ≡ lookup old path
        go (same e) = e
        go (source m) = let at = below_source path m in absurd (clash path _ at.0 at.1 no_source)
        go (target m) = let at = below_target path m in absurd (clash path _ at.0 at.1 no_target)

    none_below_self : (path : Path) (name : Name) → rest_below (path ++ name ∷ []) path ≡ None
    none_below_self path name = go (rest_below (path ++ name ∷ []) path) refl
      where
        go : (o : Option Path) → rest_below (path ++ name ∷ []) path ≡ o → rest_below (path ++ name ∷ []) path ≡ None
        go None e = e
        go (Some rest) e = absurd (not_longer path name rest (rest_below-is (path ++ name ∷ []) path rest e))

    pub from_stays : lookup new from ≡ Some i
    from_stays = stays from (none_below_self from was) aside ∙ from_is

    pub to_stays : lookup new to ≡ Some k
    to_stays = stays to outside (none_below_self to now) ∙ to_is

    pub source_is : lookup old (from ++ was ∷ []) ≡ Some j
    source_is = lookup_from-append old 1 from was ∙ rw from_is moves.source

    j_reached : IsReached old j
    j_reached = lookup_from-reached old 1 j (from ++ was ∷ []) root_directory source_is

    -- below the moved inode all is as it was
    pub subtree : (rest : Path) → lookup_from new j rest ≡ lookup_from old j rest
    subtree rest = go (walk_of j rest j_reached)
      where
        joined : (above : Path) (a : ℕ) → lookup_from old j above ≡ Some a → lookup old ((from ++ was ∷ []) ++ above) ≡ Some a
        joined above a e = lookup_from-join old 1 (from ++ was ∷ []) above ∙ rw source_is e

        go : Walk j rest → lookup_from new j rest ≡ lookup_from old j rest
        go (same e) = e
        go (source m) = absurd (not_longer from was m.above (path_once old moves.well_formed from ((from ++ was ∷ []) ++ m.above) i from_is (joined m.above i m.parent) (holds i was j moves.source)))
        go (target m) =
            let is : to ≡ (from ++ was ∷ []) ++ m.above = path_once old moves.well_formed to ((from ++ was ∷ []) ++ m.above) k to_is (joined m.above k m.parent) to_holds in
            absurd (clash to _ m.above (ap (rest_below (from ++ was ∷ [])) is ∙ rest_below-append (from ++ was ∷ []) m.above) outside)

    pub lookup_target : (rest : Path) → lookup new ((to ++ now ∷ []) ++ rest) ≡ lookup old ((from ++ was ∷ []) ++ rest)
    lookup_target rest =
        let inside : lookup new (to ++ now ∷ []) ≡ Some j = lookup_from-append new 1 to now ∙ rw to_stays moves.target in
        let after : lookup new ((to ++ now ∷ []) ++ rest) ≡ lookup_from new j rest = lookup_from-join new 1 (to ++ now ∷ []) rest ∙ rw inside refl in
        let before : lookup old ((from ++ was ∷ []) ++ rest) ≡ lookup_from old j rest = lookup_from-join old 1 (from ++ was ∷ []) rest ∙ rw source_is refl in
        after ∙ subtree rest ∙ sym before

    pub shown_target : (rest : Path) → shown new ((to ++ now ∷ []) ++ rest) ≡ shown old ((from ++ was ∷ []) ++ rest)
    shown_target rest = nodes_same ((to ++ now ∷ []) ++ rest) ((from ++ was ∷ []) ++ rest) (lookup_target rest)

    pub lookup_source : (rest : Path) → lookup new ((from ++ was ∷ []) ++ rest) ≡ None
    lookup_source rest =
        let inside : lookup new (from ++ was ∷ []) ≡ None = lookup_from-append new 1 from was ∙ rw from_stays moves.gone in
        lookup_from-join new 1 (from ++ was ∷ []) rest ∙ rw inside refl

    pub shown_source : (rest : Path) → shown new ((from ++ was ∷ []) ++ rest) ≡ None
    shown_source rest = rw (lookup_source rest) refl

    pub lookup_elsewhere : (path : Path) → rest_below (to ++ now ∷ []) path ≡ None → rest_below (from ++ was ∷ []) path ≡ None → lookup new path ≡ lookup old path
    lookup_elsewhere path no_target no_source = stays path no_source no_target

    pub shown_elsewhere : (path : Path) → rest_below (to ++ now ∷ []) path ≡ None → rest_below (from ++ was ∷ []) path ≡ None → shown new path ≡ shown old path
    shown_elsewhere path no_target no_source = nodes_same path path (stays path no_source no_target)

    -- the target is not below the source, and nothing is below the target
    pub target_aside : rest_below (from ++ was ∷ []) (to ++ now ∷ []) ≡ None
    target_aside = go (rest_below (from ++ was ∷ []) (to ++ now ∷ [])) refl
      where
        go : (o : Option Path) → rest_below (from ++ was ∷ []) (to ++ now ∷ []) ≡ o → rest_below (from ++ was ∷ []) (to ++ now ∷ []) ≡ None
        go None e = e
        go (Some rest) e = absurd (by_end rest (by_last rest) (rest_below-is (from ++ was ∷ []) (to ++ now ∷ []) rest e))
          where
            by_end : (rest : Path) → ByLast rest → to ++ now ∷ [] ≡ (from ++ was ∷ []) ++ rest → ⊥
            by_end _ none equal =
                let both : (to ≡ from) × (now ≡ was) = same_from_push to from now was (equal ∙ append-nil (from ++ was ∷ [])) in
                let found : Some i ≡ Some k = sym from_is ∙ ap (lookup old) (sym both.0) ∙ to_is in
                let one : i ≡ k = cc in
                moves.apart one (sym both.1)
            by_end _ (more {path = prefix} b last) equal =
                let both : (to ≡ (from ++ was ∷ []) ++ prefix) × (now ≡ last) =
                same_from_push to ((from ++ was ∷ []) ++ prefix) now last (equal ∙ sym (append_assoc (from ++ was ∷ []) prefix (last ∷ []))) in
                clash to (from ++ was ∷ []) prefix (ap (rest_below (from ++ was ∷ [])) both.0 ∙ rest_below-append (from ++ was ∷ []) prefix) outside

    pub lookup_empty : (n : Name) (rest : Path) → lookup old ((to ++ now ∷ []) ++ n ∷ rest) ≡ None
    lookup_empty n rest = lookup_from-join old 1 (to ++ now ∷ []) (n ∷ rest) ∙ go (lookup old (to ++ now ∷ [])) refl
      where
        go : (found : Option ℕ) → lookup old (to ++ now ∷ []) ≡ found → option_and_then (λ v. lookup_from old v (n ∷ rest)) found ≡ None
        go None e = refl
        go (Some v) e =
            let found : lookup_in old k now ≡ Some v = sym (lookup_from-append old 1 to now ∙ rw to_is refl) ∙ e in
            rw (moves.alone v n found) refl

    pub target_empty : (n : Name) (rest : Path) → shown old ((to ++ now ∷ []) ++ n ∷ rest) ≡ None
    target_empty n rest = rw (lookup_empty n rest) refl
