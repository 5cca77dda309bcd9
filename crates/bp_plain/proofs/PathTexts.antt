-- The text of a path spells it.
use Rattle.std.proofs.Common.{◌≡◌, ◌≢◌, ℕ, ◌≤◌, ◌==◌, ◌&&◌, Bool, true, false, not, List, [], ◌∷◌, ◌++◌, length, Some, nat_lt, nat_le, refl, sym, ◌∙◌, ap, arith, true≢false, length-append, leb-true}
use Rattle.std.specs.Prelude.{All, bytes_eq}
use Rattle.std.specs.List.{list_all}
use Rattle.std.specs.Cmp.{first_so, second_so}
use Rattle.std.proofs.lemmas.Bool.{le-leb, lt-ltb, ne_eqb}
use Rattle.std.proofs.lemmas.List.Elements.{All-head, All-tail}
use Rattle.std.proofs.lemmas.Slice.Eq.{bytes_eq-Decides}
use Rattle.bp_limits.specs.CallLimits.{max_name, max_path}
use Rattle.bp_layout.specs.Paths.{IsName, Name, Path, is_name, parse, parts}
use Rattle.bp_plain.specs.Export.{path_text}

pub both_true : (a b : Bool) → a ≡ true → b ≡ true → (a && b) ≡ true
both_true true b one two = two
both_true false b one two = one

-- ---- names that pass the test

plain_all : (name : Name) → All (λ b. (b ≢ 0) × (b ≢ 47)) name → list_all (λ b. not (b == 0) && not (b == 47)) name ≡ true
plain_all [] all = refl
plain_all (b ∷ name) all =
    let here = All-head (λ c. (c ≢ 0) × (c ≢ 47)) b name all in
    both_true _ _ (both_true _ _ (ap not (ne_eqb b 0 here.0)) (ap not (ne_eqb b 47 here.1))) (plain_all name (All-tail (λ c. (c ≢ 0) × (c ≢ 47)) b name all))

other_bytes : (xs ys : List ℕ) → xs ≢ ys → not (bytes_eq xs ys) ≡ true
other_bytes xs ys other = go (bytes_eq xs ys) refl
  where
    go : (b : Bool) → bytes_eq xs ys ≡ b → not b ≡ true
    go true at = absurd (other ((bytes_eq-Decides xs ys).0 at))
    go false at = refl

pub name_passes : (name : Name) → IsName name → is_name name ≡ true
name_passes name is =
    both_true _ _
    (both_true _ _
    (both_true _ _ (both_true _ _ (le-leb 1 (length name) is.not_empty) (le-leb (length name) max_name is.short)) (plain_all name is.plain))
    (other_bytes name (46 ∷ []) is.not_dot))
    (other_bytes name (46 ∷ 46 ∷ []) is.not_dot_dot)

-- ---- texts

not_true : (t : Bool) → not t ≡ true → t ≡ false
not_true true e = absurd (true≢false (sym e))
not_true false e = refl

-- what a byte of a name is not
abbrev pub is_inner : ℕ → Bool
is_inner b = not (b == 0) && not (b == 47)

-- a part that is followed by others, each after a `/`
parts-inner : (b : ℕ) (bytes : List ℕ) (name : Name) (rest : Path) → is_inner b ≡ true → parts bytes ≡ name ∷ rest → parts (b ∷ bytes) ≡ (b ∷ name) ∷ rest
parts-inner b bytes name rest inner is = rw (not_true (b == 47) (second_so (not (b == 0)) (not (b == 47)) inner), is) refl

mutual_parts : (name : Name) (path : Path) → list_all is_inner name ≡ true → (rest : List (List ℕ)) → parts (path_text path) ≡ [] ∷ rest → parts (name ++ path_text path) ≡ name ∷ rest
mutual_parts [] path all rest is = is
mutual_parts (b ∷ name) path all rest is =
    parts-inner b (name ++ path_text path) name rest (first_so (is_inner b) (list_all is_inner name) all)
    (mutual_parts name path (second_so (is_inner b) (list_all is_inner name) all) rest is)

-- the bytes of a name, and that there is one
of_five : (a b c d e : Bool) → (a && b && c && d && e) ≡ true → (a ≡ true) × (c ≡ true)
of_five true true true d e is = (refl, refl)
of_five true true false d e is = absurd (true≢false (sym is))
of_five true false c d e is = absurd (true≢false (sym is))
of_five false b c d e is = absurd (true≢false (sym is))

inner_of : (name : Name) → is_name name ≡ true → list_all is_inner name ≡ true
inner_of name is = (of_five (nat_le 1 (length name)) (nat_le (length name) max_name) (list_all is_inner name) (not (bytes_eq name (46 ∷ []))) (not (bytes_eq name (46 ∷ 46 ∷ []))) is).1

some_of : (name : Name) → is_name name ≡ true → 1 ≤ length name
some_of name is =
    leb-true 1 (length name) (of_five (nat_le 1 (length name)) (nat_le (length name) max_name) (list_all is_inner name) (not (bytes_eq name (46 ∷ []))) (not (bytes_eq name (46 ∷ 46 ∷ []))) is).0

parts-path : (path : Path) → list_all is_name path ≡ true → parts (path_text path) ≡ [] ∷ path
parts-path [] all = refl
parts-path (name ∷ path) all =
    ap (λ ps. [] ∷ ps) (mutual_parts name path (inner_of name (first_so (is_name name) (list_all is_name path) all)) path
    (parts-path path (second_so (is_name name) (list_all is_name path) all)))

-- the text spells the path
pub parse-path_text : (name : Name) (path : Path) → list_all is_name (name ∷ path) ≡ true → length (path_text (name ∷ path)) ≤ max_path → parse (path_text (name ∷ path)) ≡ Some (name ∷ path)
parse-path_text name path all short = go (name ++ path_text path) refl
  where
    named : is_name name ≡ true
    named = first_so (is_name name) (list_all is_name path) all

    cut : parts (name ++ path_text path) ≡ name ∷ path
    cut = mutual_parts name path (inner_of name named) path (parts-path path (second_so (is_name name) (list_all is_name path) all))

    go : (bytes : List ℕ) → name ++ path_text path ≡ bytes → parse (47 ∷ bytes) ≡ Some (name ∷ path)
    go [] is = absurd (omega (arith, ap length is, length-append name (path_text path), some_of name named))
    go (b ∷ bytes) is =
        let few : nat_lt (length (b ∷ bytes)) max_path ≡ true = lt-ltb _ _ (omega (arith, short, ap length is)) in
        let are : parts (b ∷ bytes) ≡ name ∷ path = ap parts (sym is) ∙ cut in
        rw (few, are, all) refl
