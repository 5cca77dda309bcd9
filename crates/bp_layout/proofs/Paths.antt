-- Paths from the root: each reached directory has one, and what a new name makes of them.
use Rattle.std.proofs.Common.{◌≡◌, ◌⊎◌, ℕ, [], ◌∷◌, ◌++◌, Bool, true, false, Option, None, Some, option_and_then, bytes_eq, refl, sym, ◌∙◌, ap, ap₂, subst₂, inl, inr}
use Rattle.std.specs.Option.{option_map}
use Rattle.std.proofs.lemmas.Bool.{cases_eq}
use Rattle.std.specs.Cmp.Lexicographic.{same_text, other_text}
use Rattle.bp_layout.specs.Words.{Image}
use Rattle.bp_layout.specs.Directory.{name_at, lookup_in}
use Rattle.bp_layout.specs.Paths.{Name, Path}
use Rattle.bp_layout.specs.Inode.{IsDirectory}
use Rattle.bp_layout.specs.Reached.{IsReached}
use Rattle.bp_layout.specs.Reached.IsReached.{root_directory}
use Rattle.bp_layout.specs.Lookup.{lookup_from, lookup, node_of, shown}
use Rattle.bp_layout.specs.WellFormed.{IsWellFormed}
use Rattle.bp_layout.proofs.View.{lookup_in-reached, lookup_from-reached}
use Rattle.bp_layout.proofs.LookupLaws.{Shows, lookup_in-shows}

-- a path by its last name
pub data ByLast : Path → Type 0 where
  none : ByLast []
  more : {path : Path} → ByLast path → (name : Name) → ByLast (path ++ name ∷ [])

onto : (name : Name) (path : Path) → ByLast path → ByLast (name ∷ path)
onto name _ none = more none name
onto name _ (more {path = prefix} before last) = more (onto name prefix before) last

pub by_last : (path : Path) → ByLast path
by_last [] = none
by_last (name ∷ path) = onto name path (by_last path)

pub lookup_from-append : (image : Image) (i : ℕ) (path : Path) (name : Name) →
    lookup_from image i (path ++ name ∷ []) ≡ option_and_then (λ k. lookup_in image k name) (lookup_from image i path)
lookup_from-append image i [] name = go (lookup_in image i name)
  where
    go : (found : Option ℕ) → option_and_then (λ j. Some j) found ≡ found
    go None = refl
    go (Some j) = refl
lookup_from-append image i (first ∷ path) name = go (λ j. lookup_from-append image j path name) (lookup_in image i first)
  where
    go : ((j : ℕ) → lookup_from image j (path ++ name ∷ []) ≡ option_and_then (λ k. lookup_in image k name) (lookup_from image j path)) → (found : Option ℕ) →
        option_and_then (λ j. lookup_from image j (path ++ name ∷ [])) found ≡ option_and_then (λ k. lookup_in image k name) (option_and_then (λ j. lookup_from image j path) found)
    go rest None = refl
    go rest (Some j) = rest j

pub record Through {A : Type 0} (f : ℕ → Option A) (o : Option ℕ) (y : A) : Type 0 where
  pub middle : ℕ
  pub before : o ≡ Some middle
  pub after : f middle ≡ Some y

pub and_then-through : {A : Type 0} (f : ℕ → Option A) (o : Option ℕ) (y : A) → option_and_then f o ≡ Some y → Through f o y
and_then-through f None y e = absurd (cc)
and_then-through f (Some x) y e = record { middle = x; before = refl; after = e }

module _ (image : Image) (wf : IsWellFormed image) where
  -- the last step to an inode
  pub record LastStep (path : Path) (name : Name) (i : ℕ) : Type 0 where
    pub parent : ℕ
    pub found : lookup image path ≡ Some parent
    pub reached : IsReached image parent
    pub shows : Shows image parent name i

  pub last_step : (path : Path) (name : Name) (i : ℕ) → lookup image (path ++ name ∷ []) ≡ Some i → LastStep path name i
  last_step path name i e =
      let through : Through (λ k. lookup_in image k name) (lookup image path) i = and_then-through _ (lookup image path) i (sym (lookup_from-append image 1 path name) ∙ e) in
      record {
        parent = through.middle;
        found = through.before;
        reached = lookup_from-reached image 1 through.middle path root_directory through.before;
        shows = lookup_in-shows image through.middle i name through.after;
      }

  not_root : (path : Path) (name : Name) (i : ℕ) → lookup image (path ++ name ∷ []) ≡ Some i → i ≡ 1 → ⊥
  not_root path name i e one =
      let step : LastStep path name i = last_step path name i e in
      wf.not_root step.parent step.shows.slot i step.reached step.shows.entry one

  one_path : (p q : Path) → ByLast p → ByLast q → (i : ℕ) → lookup image p ≡ Some i → lookup image q ≡ Some i → IsDirectory image i → p ≡ q
  one_path _ _ none none i e f kind = refl
  one_path _ _ none (more {path = q} before name) i e f kind = let root : 1 ≡ i = cc in absurd (not_root q name i f (sym root))
  one_path _ _ (more {path = p} before name) none i e f kind = let root : 1 ≡ i = cc in absurd (not_root p name i e (sym root))
  one_path _ _ (more {path = p} before name) (more {path = q} also other) i e f kind =
      let left : LastStep p name i = last_step p name i e in
      let right : LastStep q other i = last_step q other i f in
      let same : (left.parent ≡ right.parent) × (left.shows.slot ≡ right.shows.slot) =
      wf.named_once left.parent left.shows.slot right.parent right.shows.slot i left.reached right.reached left.shows.entry right.shows.entry kind in
      let names : name ≡ other = sym left.shows.spelled ∙ ap₂ (λ x y. name_at image x y) same.0 same.1 ∙ right.shows.spelled in
      ap₂ (λ x y. x ++ y ∷ []) (one_path p q before also left.parent left.found (right.found ∙ ap Some (sym same.0)) left.shows.entry.directory) names

  -- each directory stands at one path
  pub path_once : (p q : Path) (i : ℕ) → lookup image p ≡ Some i → lookup image q ≡ Some i → IsDirectory image i → p ≡ q
  path_once p q i e f kind = one_path p q (by_last p) (by_last q) i e f kind

-- ---- a new name in one directory

-- the second image has one more name, for an inode that names nothing
pub record AddsName (old new : Image) (i : ℕ) (name : Name) (j : ℕ) : Type 0 where
  pub well_formed : IsWellFormed old
  pub directory : IsDirectory old i
  pub missing : lookup_in old i name ≡ None
  pub added : lookup_in new i name ≡ Some j
  pub alone : (other : Name) → lookup_in new j other ≡ None
  pub others : (u : ℕ) (other : Name) → IsReached old u → ((u ≡ i) → (other ≡ name) → ⊥) → lookup_in new u other ≡ lookup_in old u other
  pub nodes : (u : ℕ) → IsReached old u → node_of new u ≡ node_of old u

-- a path at which the new name ends
pub record EndsThere (old new : Image) (i : ℕ) (name : Name) (j u : ℕ) (path : Path) : Type 0 where
  pub above : Path
  pub is : path ≡ above ++ name ∷ []
  pub parent : lookup_from old u above ≡ Some i
  pub before : lookup_from old u path ≡ None

pub same_name : (a b : Name) → (a ≡ b) ⊎ (a ≡ b → ⊥)
same_name a b = go (bytes_eq a b) refl
  where
    go : (c : Bool) → bytes_eq a b ≡ c → (a ≡ b) ⊎ (a ≡ b → ⊥)
    go true e = inl (same_text a b (sym e))
    go false e = inr (other_text a b (sym e))

module _ (old new : Image) (i : ℕ) (name : Name) (j : ℕ) (adds : AddsName old new i name j) where
  there_or_same : (u : ℕ) (path : Path) → IsReached old u → (lookup_from new u path ≡ lookup_from old u path) ⊎ EndsThere old new i name j u path
  there_or_same u [] reached = inl refl
  there_or_same u (first ∷ path) reached = go (λ v r. there_or_same v path r) (cases_eq u i) (same_name first name)
    where
      at_name : (path : Path) → u ≡ i → first ≡ name → (lookup_from new u (first ∷ path) ≡ lookup_from old u (first ∷ path)) ⊎ EndsThere old new i name j u (first ∷ path)
      at_name [] e f =
          let missing : lookup_in old u first ≡ None = subst₂ (λ x y. lookup_in old x y ≡ None) (sym e) (sym f) adds.missing in
          inr (record { above = []; is = ap (λ n. n ∷ []) f; parent = ap Some e; before = rw missing refl })
      at_name (second ∷ path) e f =
          let missing : lookup_in old u first ≡ None = subst₂ (λ x y. lookup_in old x y ≡ None) (sym e) (sym f) adds.missing in
          let added : lookup_in new u first ≡ Some j = subst₂ (λ x y. lookup_in new x y ≡ Some j) (sym e) (sym f) adds.added in
          inl (rw (missing, added, adds.alone second) refl)

      elsewhere : ((v : ℕ) → IsReached old v → (lookup_from new v path ≡ lookup_from old v path) ⊎ EndsThere old new i name j v path) → lookup_in new u first ≡ lookup_in old u first →
          (found : Option ℕ) → lookup_in old u first ≡ found → (lookup_from new u (first ∷ path) ≡ lookup_from old u (first ∷ path)) ⊎ EndsThere old new i name j u (first ∷ path)
      elsewhere rest same None f = inl (rw (same, f) refl)
      elsewhere rest same (Some v) f = below (rest v (lookup_in-reached old u v first reached f))
        where
          below : (lookup_from new v path ≡ lookup_from old v path) ⊎ EndsThere old new i name j v path → (lookup_from new u (first ∷ path) ≡ lookup_from old u (first ∷ path)) ⊎ EndsThere old new i name j u (first ∷ path)
          below (inl e) = inl (rw (same, f) e)
          below (inr ends) = inr (record { above = first ∷ ends.above; is = ap (λ q. first ∷ q) ends.is; parent = rw f ends.parent; before = rw f ends.before })

      go : ((v : ℕ) → IsReached old v → (lookup_from new v path ≡ lookup_from old v path) ⊎ EndsThere old new i name j v path) → (u ≡ i) ⊎ (u ≡ i → ⊥) → (first ≡ name) ⊎ (first ≡ name → ⊥) →
          (lookup_from new u (first ∷ path) ≡ lookup_from old u (first ∷ path)) ⊎ EndsThere old new i name j u (first ∷ path)
      go rest (inl e) (inl f) = at_name path e f
      go rest (inl e) (inr f) = elsewhere rest (adds.others u first reached (λ x y. f y)) (lookup_in old u first) refl
      go rest (inr e) f = elsewhere rest (adds.others u first reached (λ x y. e x)) (lookup_in old u first) refl

  module _ (parent : Path) (at : lookup old parent ≡ Some i) where
    pub stays : (path : Path) → (path ≡ parent ++ name ∷ [] → ⊥) → lookup new path ≡ lookup old path
    stays path other = go (there_or_same 1 path root_directory)
      where
        go : (lookup new path ≡ lookup old path) ⊎ EndsThere old new i name j 1 path → lookup new path ≡ lookup old path
        go (inl same) = same
        go (inr ends) =
            let above : ends.above ≡ parent = path_once old adds.well_formed ends.above parent i ends.parent at adds.directory in
            absurd (other (ends.is ∙ ap (λ p. p ++ name ∷ []) above))

    parent_stays : lookup new parent ≡ Some i
    parent_stays = go (there_or_same 1 parent root_directory)
      where
        go : (lookup new parent ≡ lookup old parent) ⊎ EndsThere old new i name j 1 parent → lookup new parent ≡ Some i
        go (inl same) = same ∙ at
        go (inr ends) = let none : ◌≡◌ {A = Option ℕ} None (Some i) = sym ends.before ∙ at in absurd (cc)

    pub lookup_there : lookup new (parent ++ name ∷ []) ≡ Some j
    lookup_there = lookup_from-append new 1 parent name ∙ rw parent_stays adds.added

    pub shown_there : shown new (parent ++ name ∷ []) ≡ Some (node_of new j)
    shown_there = rw lookup_there refl

    pub shown_elsewhere : (path : Path) → (path ≡ parent ++ name ∷ [] → ⊥) → shown new path ≡ shown old path
    shown_elsewhere path other = rw (stays path other) (go (lookup old path) refl)
      where
        go : (found : Option ℕ) → lookup old path ≡ found → option_map (node_of new) found ≡ option_map (node_of old) found
        go None e = refl
        go (Some u) e = ap Some (adds.nodes u (lookup_from-reached old 1 u path root_directory e))
