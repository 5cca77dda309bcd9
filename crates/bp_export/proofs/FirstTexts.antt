-- The first paths that a walk remembers, and the calls of an entry by them.
use Rattle.std.proofs.Common.{◌≡◌, ◌≢◌, ℕ, ◌<◌, ◌≤◌, ◌==◌, T, List, [], ◌∷◌, ◌++◌, length, find, slice_index, Bool, true, false, cond, Option, None, Some, if◌then◌else◌, refl, sym, ◌∙◌, ap, ap₂, subst, arith, true≢false}
use Rattle.std.specs.Option.{is_some, option_map, unwrap_or}
use Rattle.std.proofs.lemmas.Bool.{eqb-false, eqb-true}
use Rattle.std.specs.FinMap.{entries, entries_sorted, keys}
use Rattle.std.specs.FinMap.Entries.{is_sorted}
use Rattle.bp_layout.specs.Paths.{same_path, Attributes, Node, Path}
use Rattle.bp_layout.specs.Inode.{IsDirectory, IsFile, kind_of}
use Rattle.bp_layout.specs.Lookup.{are_one, file_at, lookup}
use Rattle.bp_layout.specs.Paths.Node.{dir}
use Rattle.bp_layout.specs.Names.{HasNames}
use Rattle.bp_layout.specs.Words.{Image}
use Rattle.bp_layout.proofs.Below.{same_path-is, same_path-self}
use Rattle.bp_plain.specs.Calls.Call.{link}
use Rattle.bp_plain.specs.Export.{calls_at, calls_for, first_of, path_text}
use Rattle.bp_plain.specs.Plain.{is_root_path}
use Rattle.bp_plain.specs.PlainTree.{PathMap, is_one, path_cmp}
use Rattle.bp_plain.specs.Stands.{Shows}
use Rattle.bp_plain.proofs.FileTrees.{OneLabel, one_label_of, shows_path_map}
use Rattle.bp_plain.proofs.FileTrees.OneLabel.{one_label}
use Rattle.bp_plain.proofs.FirstPaths.{first_before, first_there, has, none_passes, paths}
use Rattle.bp_plain.proofs.Kernels.{are_one-self}
use Rattle.bp_plain.proofs.PathWays.{Entry, new_path}
use Rattle.bp_export.specs.Firsts.{first_text}
use Rattle.bp_export.specs.Walking.{RemembersFirsts, finds_file, text_of_first}
use Rattle.bp_export.specs.declared.firsts.Firsts.{Firsts}
use Rattle.bp_export.proofs.SinglePaths.{single_path}

-- ---- the first path among some entries and one more

abbrev either : {A : Type 0} → Option A → Option A → Option A
either (Some x) other = Some x
either None other = other

find_longer : (p : Path → Bool) (es : List Entry) (e : Entry) → find p (paths (es ++ e ∷ [])) ≡ either (find p (paths es)) (if p e.0 then Some e.0 else None)
find_longer p [] e = refl
find_longer p (x ∷ es) e = go (p x.0) refl (find_longer p es e)
  where
    go : (b : Bool) → p x.0 ≡ b → find p (paths (es ++ e ∷ [])) ≡ either (find p (paths es)) (if p e.0 then Some e.0 else None)
        → find p (paths (x ∷ (es ++ e ∷ []))) ≡ either (find p (paths (x ∷ es))) (if p e.0 then Some e.0 else None)
    go true at rest = rw at refl
    go false at rest = rw at rest

find_alike : (p r : Path → Bool) (qs : List Path) → ((q : Path) → p q ≡ r q) → find p qs ≡ find r qs
find_alike p r [] same = refl
find_alike p r (q ∷ qs) same = ap₂ (λ b o. cond b (Some q) o) (same q) (find_alike p r qs same)

text_longer : (image : Image) (i : ℕ) (noted : List Entry) (e : Entry) → text_of_first image i (noted ++ e ∷ []) ≡ either (text_of_first image i noted) (if finds_file image i e.0 then Some (path_text e.0) else None)
text_longer image i noted e =
    ap (option_map path_text) (find_longer (finds_file image i) noted e) ∙ go (find (finds_file image i) (paths noted)) (finds_file image i e.0)
  where
    go : (o : Option Path) (b : Bool) → option_map path_text (either o (if b then Some e.0 else None)) ≡ either (option_map path_text o) (if b then Some (path_text e.0) else None)
    go (Some q) b = refl
    go None true = refl
    go None false = refl

-- ---- files at paths

module _ (image : Image) where
  pub file_here : (q : Path) (i : ℕ) → lookup image q ≡ Some i → IsFile image i → file_at image q ≡ Some i
  file_here q i found kind = rw (found, kind) refl

  pub no_file_here : (q : Path) (i : ℕ) → lookup image q ≡ Some i → IsDirectory image i → file_at image q ≡ None
  no_file_here q i found kind = rw (found, kind) refl

  file_found : (q : Path) (i : ℕ) → file_at image q ≡ Some i → (lookup image q ≡ Some i) × IsFile image i
  file_found q i is = go (lookup image q) refl
    where
      at_inode : (u : ℕ) (b : Bool) → (kind_of image u == 1) ≡ b → (if kind_of image u == 1 then Some u else None) ≡ Some i → lookup image q ≡ Some u → (lookup image q ≡ Some i) × IsFile image i
      at_inode u true kind same found =
          let some : ◌≡◌ {A = Option ℕ} (Some u) (Some i) = rw kind at same in
          let here : u ≡ i = cc in
          (found ∙ ap Some here, ap (kind_of image) (sym here) ∙ eqb-true _ 1 kind)
      at_inode u false kind same found = let none : ◌≡◌ {A = Option ℕ} None (Some i) = rw kind at same in absurd (cc)

      go : (o : Option ℕ) → lookup image q ≡ o → (lookup image q ≡ Some i) × IsFile image i
      go None found = let none : ◌≡◌ {A = Option ℕ} None (Some i) = rw found at is in absurd (cc)
      go (Some u) found = at_inode u (kind_of image u == 1) refl (rw found at is) found

  pub finds_none : (i : ℕ) (q : Path) → file_at image q ≡ None → finds_file image i q ≡ false
  finds_none i q none = ap (are_one (Some i)) none

  finds_other : (i j : ℕ) (q : Path) → file_at image q ≡ Some j → i ≢ j → finds_file image i q ≡ false
  finds_other i j q at other = ap (are_one (Some i)) at ∙ go (i == j) refl
    where
      go : (b : Bool) → (i == j) ≡ b → (i == j) ≡ false
      go true e = absurd (other (eqb-true i j e))
      go false e = e

  finds_this : (i : ℕ) (q : Path) → file_at image q ≡ Some i → finds_file image i q ≡ true
  finds_this i q at = ap (are_one (Some i)) at ∙ are_one-self i

  -- ---- what is remembered, one entry more

  module _ (counts : List ℕ) (firsts : Firsts) (noted : List Entry) (remembers : RemembersFirsts image counts firsts noted) (q : Path) (node : Node) where
    same_text : (i : ℕ) → finds_file image i q ≡ false → text_of_first image i (noted ++ (q, node) ∷ []) ≡ text_of_first image i noted
    same_text i not = text_longer image i noted (q, node) ∙ rw not (go (text_of_first image i noted))
      where
        go : (o : Option (List ℕ)) → either o None ≡ o
        go None = refl
        go (Some text) = refl

    pub remembers_directory : file_at image q ≡ None → RemembersFirsts image counts firsts (noted ++ (q, node) ∷ [])
    remembers_directory none = record { each = λ i several. remembers.each i several ∙ sym (same_text i (finds_none i q none)) }

    module _ (j : ℕ) (at : file_at image q ≡ Some j) where
      pub remembers_single : slice_index counts j ≤ 1 → RemembersFirsts image counts firsts (noted ++ (q, node) ∷ [])
      remembers_single few = record {
        each = λ i several.
            let other : i ≢ j = λ e. omega (arith, few, several, ap (slice_index counts) e) in
            remembers.each i several ∙ sym (same_text i (finds_other i j q at other));
      }

      pub remembers_later : (text : List ℕ) → first_text firsts j ≡ Some text → RemembersFirsts image counts firsts (noted ++ (q, node) ∷ [])
      remembers_later text known = record { each = λ i several. go i several (i == j) refl }
        where
          go : (i : ℕ) → 1 < slice_index counts i → (b : Bool) → (i == j) ≡ b → first_text firsts i ≡ text_of_first image i (noted ++ (q, node) ∷ [])
          go i several true e =
              let same : i ≡ j = eqb-true i j e in
              let before : text_of_first image i noted ≡ Some text = sym (remembers.each i several) ∙ ap (first_text firsts) same ∙ known in
              ap (first_text firsts) same ∙ known ∙ sym (text_longer image i noted (q, node) ∙ ap (λ o. either o (if finds_file image i q then Some (path_text q) else None)) before)
          go i several false e = remembers.each i several ∙ sym (same_text i (finds_other i j q at (eqb-false i j e)))

      pub remembers_first : (new : Firsts) → first_text firsts j ≡ None → ((i : ℕ) → first_text new i ≡ (if i == j then Some (path_text q) else first_text firsts i))
          → RemembersFirsts image counts new (noted ++ (q, node) ∷ [])
      remembers_first new unknown adds = record { each = λ i several. adds i ∙ go i several (i == j) refl }
        where
          go : (i : ℕ) → 1 < slice_index counts i → (b : Bool) → (i == j) ≡ b → (if i == j then Some (path_text q) else first_text firsts i) ≡ text_of_first image i (noted ++ (q, node) ∷ [])
          go i several true e =
              let same : i ≡ j = eqb-true i j e in
              let before : text_of_first image i noted ≡ None = sym (remembers.each i several) ∙ ap (first_text firsts) same ∙ unknown in
              rw e (sym (text_longer image i noted (q, node) ∙ rw (before, finds_this i q (at ∙ ap Some (sym same))) refl))
          go i several false e = rw e (remembers.each i several ∙ sym (same_text i (finds_other i j q at (eqb-false i j e))))

-- ---- the calls of an entry

not_root : (q : Path) → 1 ≤ length (path_text q) → is_root_path q ≡ false
not_root [] some = absurd (omega (arith, some))
not_root (name ∷ path) some = refl

apart : (p q : Path) → (p ≡ q → ⊥) → same_path p q ≡ false
apart p q other = go (same_path p q) refl
  where
    go : (b : Bool) → same_path p q ≡ b → same_path p q ≡ false
    go true e = absurd (other (same_path-is p q e))
    go false e = e

module _ (image : Image) (tree : PathMap) (shows : Shows image tree) (q : Path) (some : 1 ≤ length (path_text q)) where
  own_calls : (node : Node) → first_of tree q ≡ q → calls_at tree (q, node) ≡ calls_for (path_text q) node
  own_calls node own = rw (not_root q some, own, same_path-self q) refl

  pub directory_calls : (attributes : Attributes) → file_at image q ≡ None → calls_at tree (q, dir attributes) ≡ calls_for (path_text q) (dir attributes)
  directory_calls attributes none = own_calls (dir attributes) (ap (λ o. unwrap_or o q) (none_passes (is_one tree.one q) (keys tree.nodes) (λ p. shows.one q p ∙ ap (λ o. are_one o (file_at image p)) none)))

  module _ (noted later : List Entry) (node : Node) (order : entries tree.nodes ≡ noted ++ (q, node) ∷ later) (i : ℕ) (at : file_at image q ≡ Some i) where
    first_is : first_of tree q ≡ unwrap_or (find (finds_file image i) (paths noted)) q
    first_is =
        first_before tree (shows_path_map image tree shows) noted (q, node) later order
        ∙ ap (λ o. unwrap_or o q) (find_alike (is_one tree.one q) (finds_file image i) (paths noted) (λ p. shows.one q p ∙ ap (λ o. are_one o (file_at image p)) at))

    not_reported : has q noted ≡ false
    not_reported = ap is_some (new_path noted (q, node) later (subst (λ es. T (is_sorted path_cmp es)) order (entries_sorted tree.nodes)))

    pub first_calls : text_of_first image i noted ≡ None → calls_at tree (q, node) ≡ calls_for (path_text q) node
    first_calls none = own_calls node (first_is ∙ go (find (finds_file image i) (paths noted)) refl)
      where
        go : (o : Option Path) → find (finds_file image i) (paths noted) ≡ o → unwrap_or (find (finds_file image i) (paths noted)) q ≡ q
        go None e = ap (λ o. unwrap_or o q) e
        go (Some p) e = let wrong : ◌≡◌ {A = Option (List ℕ)} (Some (path_text p)) None = sym (ap (option_map path_text) e) ∙ none in absurd (cc)

    pub later_calls : (text : List ℕ) → text_of_first image i noted ≡ Some text → calls_at tree (q, node) ≡ link text (path_text q) ∷ []
    later_calls text known = go (find (finds_file image i) (paths noted)) refl
      where
        go : (o : Option Path) → find (finds_file image i) (paths noted) ≡ o → calls_at tree (q, node) ≡ link text (path_text q) ∷ []
        go None e = let wrong : ◌≡◌ {A = Option (List ℕ)} None (Some text) = sym (ap (option_map path_text) e) ∙ known in absurd (cc)
        go (Some p) e =
            let first : first_of tree q ≡ p = first_is ∙ ap (λ o. unwrap_or o q) e in
            let both = first_there (finds_file image i) noted p e in
            let differ : same_path p q ≡ false = apart p q (λ same. true≢false (sym both.1 ∙ ap (λ x. has x noted) same ∙ not_reported)) in
            let texts : ◌≡◌ {A = Option (List ℕ)} (Some (path_text p)) (Some text) = sym (ap (option_map path_text) e) ∙ known in
            let is : path_text p ≡ text = cc in
            rw (not_root q some, first, differ) (ap (λ x. link x (path_text q) ∷ []) is)

    -- a file with one name stands at no path reported
    pub single_new : (count : ℕ) → HasNames image i count → count ≤ 1 → text_of_first image i noted ≡ None
    single_new count names few = go (find (finds_file image i) (paths noted)) refl
      where
        none : (p : Path) → finds_file image i p ≡ true → has p noted ≡ true → ⊥
        none p finds there = go (one_label_of (Some i) (file_at image p) finds)
          where
            go : OneLabel (Some i) (file_at image p) → ⊥
            go (one_label j e f) =
                let here = file_found image p i (f ∙ sym e) in
                let this = file_found image q i at in
                let same : p ≡ q = single_path image shows.well_formed i count names few here.1 p q here.0 this.0 in
                true≢false (sym there ∙ ap (λ x. has x noted) same ∙ not_reported)

        go : (o : Option Path) → find (finds_file image i) (paths noted) ≡ o → text_of_first image i noted ≡ None
        go None e = ap (option_map path_text) e
        go (Some p) e = let both = first_there (finds_file image i) noted p e in absurd (none p both.0 both.1)
