-- Fronts of lists of names, and the first of refusals.
use Rattle.std.proofs.Common.{◌≡◌, ℕ, ◌+◌, ◌<◌, Bool, true, false, List, [], ◌∷◌, ◌++◌, length, get_or, map, take, drop, Option, None, Some, refl, sym, ◌∙◌, ap, true≢false, ◌-◌, is_some, arith}
use Rattle.std.specs.Option.{is_none}
use Rattle.std.specs.FinMap.{get}
use Rattle.std.proofs.lemmas.List.{drop_more, take_more, map-append}
use Rattle.std.specs.Option.{option_map}
use Rattle.std.specs.Prelude.{nat_eq}
use Rattle.std.specs.Cmp.Lexicographic.{pointwise, nat_list_eq_equiv}
use Rattle.arrayvec.specs.ArrayVec.{ArrayVec}
use Rattle.bp_layout.specs.Paths.{rest_below}
use Rattle.bp_plain.specs.declared.errors.FsError.{FsError}
use Rattle.bp_plain.specs.Calls.{Refusal}
use Rattle.bp_plain.specs.Calls.Refusal.{not_dir, not_found}
use Rattle.bp_plain.specs.Plain.{first, parent_of, first_refusal_from, is_dir_at}
use Rattle.bp_plain.specs.PlainTree.{Nodes}
use Rattle.bp_plain.specs.Seen.{refusal_of}
use Rattle.bp_plain.specs.SeenTree.{names_of}

-- ---- the first refusal

abbrev pub refusals_of : List (Option FsError) → List (Option Refusal)
refusals_of found = map (option_map refusal_of) found

-- ---- parents

pub parent_seen : (x : ArrayVec ℕ) (path : List (ArrayVec ℕ)) → names_of (take (length path) (x ∷ path)) ≡ parent_of (names_of (x ∷ path))
parent_seen x [] = refl
parent_seen x (y ∷ path) = ap (λ names. x.items ∷ names) (parent_seen y path)

pub parent_prefix : (path : List (ArrayVec ℕ)) (n : ℕ) → n ≡ length path - 1 → names_of (take n path) ≡ parent_of (names_of path)
parent_prefix [] n e = rw e refl
parent_prefix (x ∷ path) n e = let same : n ≡ length path = omega (arith, e) in rw same (parent_seen x path)

-- ---- walks

pub first_one : (found : Option Refusal) → first (found ∷ []) ≡ found
first_one None = refl
first_one (Some refusal) = refl

is_none_of : {A : Type 0} (o : Option A) → is_some o ≡ false → is_none o ≡ true
is_none_of None e = refl
is_none_of (Some x) e = absurd (true≢false e)

not_none_of : {A : Type 0} (o : Option A) → is_some o ≡ true → is_none o ≡ false
not_none_of None e = absurd (true≢false (sym e))
not_none_of (Some x) e = refl

-- the way as far as it was walked, and the rest of it
abbrev pub walked : Nodes → List (ArrayVec ℕ) → ℕ → Option Refusal
walked tree path depth = first_refusal_from tree (names_of (take depth path)) (names_of (drop depth path))

-- a name of a path, with those before it and after it
pub name_at : (path : List (ArrayVec ℕ)) (depth : ℕ) → depth < length path →
    (name : ArrayVec ℕ) × (drop depth path ≡ name ∷ drop (depth + 1) path) × (take (depth + 1) path ≡ take depth path ++ name ∷ [])
name_at [] depth low = absurd (omega (arith, low))
name_at (x ∷ path) depth low = (get_or (x ∷ path) depth x, drop_more (x ∷ path) depth x low, take_more (x ∷ path) depth x low)

module _ (tree : Nodes) (path : List (ArrayVec ℕ)) (depth : ℕ) (low : depth < length path) where
  abbrev name : ArrayVec ℕ
  name = (name_at path depth low).0

  pub in_file : is_dir_at tree (names_of (take depth path)) ≡ false → walked tree path depth ≡ Some not_dir
  in_file at = rw ((name_at path depth low).1, at) refl

  further : names_of (take (depth + 1) path) ≡ names_of (take depth path) ++ name.items ∷ []
  further = ap names_of (name_at path depth low).2 ∙ map-append (λ name. name.items) (take depth path) (name ∷ [])

  pub is_missing : is_dir_at tree (names_of (take depth path)) ≡ true → is_some (get tree (names_of (take (depth + 1) path))) ≡ false → walked tree path depth ≡ Some not_found
  is_missing at none =
      let here : is_none (get tree (names_of (take depth path) ++ name.items ∷ [])) ≡ true = is_none_of _ (ap (λ p. is_some (get tree p)) (sym further) ∙ none) in
      rw ((name_at path depth low).1, at, here) refl

  pub walks_on : is_dir_at tree (names_of (take depth path)) ≡ true → is_some (get tree (names_of (take (depth + 1) path))) ≡ true → walked tree path (depth + 1) ≡ walked tree path depth
  walks_on at some =
      let here : is_none (get tree (names_of (take depth path) ++ name.items ∷ [])) ≡ false = not_none_of _ (ap (λ p. is_some (get tree p)) (sym further) ∙ some) in
      rw further (rw ((name_at path depth low).1, at, here) (sym (first_one _)))

-- ---- paths below others

abbrev pub same_name : ArrayVec ℕ → ArrayVec ℕ → Bool
same_name a b = pointwise nat_eq a.items b.items

pub below_some : (dir path : List (ArrayVec ℕ)) → pointwise same_name (take (length dir) path) dir ≡ true → rest_below (names_of dir) (names_of path) ≡ Some (names_of (drop (length dir) path))
below_some [] path same = refl
below_some (d ∷ dir) [] same = absurd (true≢false (sym same))
below_some (d ∷ dir) (p ∷ path) same = go (same_name p d) refl (λ e. below_some dir path e)
  where
    go : (b : Bool) → same_name p d ≡ b → (pointwise same_name (take (length dir) path) dir ≡ true → rest_below (names_of dir) (names_of path) ≡ Some (names_of (drop (length dir) path))) →
        rest_below (names_of (d ∷ dir)) (names_of (p ∷ path)) ≡ Some (names_of (drop (length (d ∷ dir)) (p ∷ path)))
    go true at rest = rw (nat_list_eq_equiv.symm d.items p.items ∙ at) (rest (rw at at same))
    go false at rest = absurd (true≢false (sym (rw at at same)))

pub below_none : (dir path : List (ArrayVec ℕ)) → pointwise same_name (take (length dir) path) dir ≡ false → rest_below (names_of dir) (names_of path) ≡ None
below_none [] path other = absurd (true≢false other)
below_none (d ∷ dir) [] other = refl
below_none (d ∷ dir) (p ∷ path) other = go (same_name p d) refl (λ e. below_none dir path e)
  where
    go : (b : Bool) → same_name p d ≡ b → (pointwise same_name (take (length dir) path) dir ≡ false → rest_below (names_of dir) (names_of path) ≡ None) →
        rest_below (names_of (d ∷ dir)) (names_of (p ∷ path)) ≡ None
    go true at rest = rw (nat_list_eq_equiv.symm d.items p.items ∙ at) (rest (rw at at other))
    go false at rest = rw (nat_list_eq_equiv.symm d.items p.items ∙ at) refl
