-- Where no block is in the snapshot there is nothing to thaw. And where a thaw left nothing to thaw, all ways are
-- loose.
use Rattle.std.proofs.Common.{◌≡◌, ◌⊎◌, ℕ, zero, suc, ◌+◌, ◌-◌, ◌<◌, ◌≤◌, List, [], ◌∷◌, length, take, map, filter, Bool, true, false, not, ◌&&◌, ◌||◌, nat_lt, refl, sym, ◌∙◌, ap, subst, arith, inl, inr}
use Rattle.std.specs.List.{list_any, range_with_len}
use Rattle.std.specs.Str.{bytes_eq}
use Rattle.std.proofs.lemmas.Bool.{cases_lt, le-ltb}
use Rattle.std.proofs.lemmas.Slice.Eq.{bytes_eq-Decides}
use Rattle.bp_layout.specs.Members.{Has}
use Rattle.bp_layout.proofs.MemberLaws.{has-after, has-filter, has-prefix, has-map, has-range}
use Rattle.bp_layout.specs.Words.{Image}
use Rattle.bp_layout.specs.Need.{Change, need, prefixes_from}
use Rattle.bp_layout.specs.Thaw.{IsLoose, proper_prefixes_of, full_need, is_proper_prefix, is_in_snapshot_at, is_there_now, none_in_snapshot, targets, thawed, thawed_on}
use Rattle.bp_layout.specs.WordPaths.{WordPath}

with_false : (b : Bool) → (b && false) ≡ false
with_false true = refl
with_false false = refl

none_at : (image : Image) (paths : List WordPath) → filter (is_in_snapshot_at image none_in_snapshot) paths ≡ []
none_at image [] = refl
none_at image (path ∷ paths) = rw (with_false (is_there_now image path)) (none_at image paths)

pub thawed-none : (image : Image) (change : Change) → thawed image none_in_snapshot change ≡ []
thawed-none image change = none_at image (proper_prefixes_of [] (targets image change))

pub full_need-none : (image : Image) (change : Change) → full_need image none_in_snapshot change ≡ need image change
full_need-none image change = let none : length (thawed image none_in_snapshot change) ≡ 0 = ap length (thawed-none image change) in omega (arith, none)

-- ---- the prefixes of paths

-- a prefix of a path is one of its proper prefixes
prefix-has : (prefix path : WordPath) → is_proper_prefix prefix path ≡ true → Has (prefixes_from 0 path) prefix
prefix-has prefix path is = go (bytes_eq prefix (take (length prefix) path)) refl is
  where
    short : nat_lt (length prefix) (length path) ≡ true → length prefix < length path
    short test = elim (cases_lt (length prefix) (length path)) [
      | inl less ↦ less
      | inr over ↦ let no : false ≡ true = sym (le-ltb (length prefix) (length path) over) ∙ test in absurd (cc)
    ]

    go : (b : Bool) → bytes_eq prefix (take (length prefix) path) ≡ b → (b && nat_lt (length prefix) (length path)) ≡ true → Has (prefixes_from 0 path) prefix
    go false same test = absurd (cc)
    go true same test =
        let low : length prefix < length path = short test in
        let at : prefix ≡ take (length prefix) path = (bytes_eq-Decides prefix (take (length prefix) path)).0 same in
        subst (Has (prefixes_from 0 path)) (sym at) (has-map (λ n. take n path) (range_with_len 0 (length path - 0)) (length prefix) (has-range 0 (length path - 0) (length prefix) (omega arith) (omega (arith, low))))

-- each is among the prefixes of several paths, unless an earlier path goes on after it
prefixes-have : (earlier paths : List WordPath) (path prefix : WordPath) → Has paths path → Has (prefixes_from 0 path) prefix → (list_any (is_proper_prefix prefix) earlier ≡ true) ⊎ Has (proper_prefixes_of earlier paths) prefix
prefixes-have earlier [] path prefix is has = elim is [ ]
prefixes-have earlier (one ∷ paths) path prefix (inl e) has = here earlier paths one prefix (subst (λ p. Has (prefixes_from 0 p) prefix) (sym e) has) (list_any (is_proper_prefix prefix) earlier) refl
  where
    here : (earlier paths : List WordPath) (one prefix : WordPath) → Has (prefixes_from 0 one) prefix → (b : Bool) → list_any (is_proper_prefix prefix) earlier ≡ b → (list_any (is_proper_prefix prefix) earlier ≡ true) ⊎ Has (proper_prefixes_of earlier (one ∷ paths)) prefix
    here earlier paths one prefix has true is = inl is
    here earlier paths one prefix has false is =
        inr (has-prefix (filter (λ x. not (list_any (is_proper_prefix x) earlier)) (prefixes_from 0 one)) (proper_prefixes_of (one ∷ earlier) paths) prefix
        (has-filter (λ x. not (list_any (is_proper_prefix x) earlier)) (prefixes_from 0 one) prefix has (ap not is)))
prefixes-have earlier (one ∷ paths) path prefix (inr later) has = go (prefixes-have (one ∷ earlier) paths path prefix later has)
  where
    first : (b c : Bool) → list_any (is_proper_prefix prefix) earlier ≡ b → is_proper_prefix prefix one ≡ c → (c || b) ≡ true → (list_any (is_proper_prefix prefix) earlier ≡ true) ⊎ Has (proper_prefixes_of earlier (one ∷ paths)) prefix
    first true c is also either = inl is
    first false true is also either =
        inr (has-prefix (filter (λ x. not (list_any (is_proper_prefix x) earlier)) (prefixes_from 0 one)) (proper_prefixes_of (one ∷ earlier) paths) prefix
        (has-filter (λ x. not (list_any (is_proper_prefix x) earlier)) (prefixes_from 0 one) prefix (prefix-has prefix one also) (ap not is)))
    first false false is also either = absurd (cc)

    go : (list_any (is_proper_prefix prefix) (one ∷ earlier) ≡ true) ⊎ Has (proper_prefixes_of (one ∷ earlier) paths) prefix → (list_any (is_proper_prefix prefix) earlier ≡ true) ⊎ Has (proper_prefixes_of earlier (one ∷ paths)) prefix
    go (inl some) = first (list_any (is_proper_prefix prefix) earlier) (is_proper_prefix prefix one) refl refl some
    go (inr has) = inr (has-after (filter (λ x. not (list_any (is_proper_prefix x) earlier)) (prefixes_from 0 one)) (proper_prefixes_of (one ∷ earlier) paths) prefix has)

filter_none : {A : Type 0} (p : A → Bool) (xs : List A) (x : A) → filter p xs ≡ [] → Has xs x → p x ≡ false
filter_none p xs x none has = go (p x) refl
  where
    go : (b : Bool) → p x ≡ b → p x ≡ false
    go false is = is
    go true is = absurd (subst (λ ys. Has ys x) none (has-filter p xs x has is))

-- nothing on these ways is in the snapshot: so each way is loose
pub loose-on : (image : Image) (in_snapshot : ℕ → Bool) (paths : List WordPath) → thawed_on image in_snapshot paths ≡ [] → (path : WordPath) → Has paths path → (shortest : ℕ) → IsLoose image in_snapshot shortest path
loose-on image in_snapshot paths clear path has shortest = go shortest (length path - shortest) (elim (cases_lt shortest (length path)) [ inl less ↦ inr (omega (arith, less)) | inr over ↦ inl (omega (arith, over)) ])
  where
    at : (n : ℕ) → n < length path → is_in_snapshot_at image in_snapshot (take n path) ≡ false
    at n low =
        let among : Has (prefixes_from 0 path) (take n path) = has-map (λ k. take k path) (range_with_len 0 (length path - 0)) n (has-range 0 (length path - 0) n (omega arith) (omega (arith, low))) in
        elim (prefixes-have [] paths path (take n path) has among) [
          | inl never ↦ absurd (cc)
          | inr some ↦ filter_none (is_in_snapshot_at image in_snapshot) (proper_prefixes_of [] paths) (take n path) clear some
        ]

    go : (a n : ℕ) → (n ≡ 0) ⊎ (a + n ≤ length path) → filter (is_in_snapshot_at image in_snapshot) (map (λ k. take k path) (range_with_len a n)) ≡ []
    go a zero within = refl
    go a (suc n) (inl none) = absurd (omega (arith, none))
    go a (suc n) (inr within) = rw (at a (omega (arith, within))) (go (a + 1) n (inr (omega (arith, within))))
