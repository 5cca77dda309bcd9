-- Lists of paths without repeats: with the same members they are as long.
use Rattle.std.proofs.Common.{◌≡◌, ◌⊎◌, ℕ, zero, suc, ◌+◌, ◌-◌, ◌<◌, ◌≤◌, List, [], ◌∷◌, length, take, map, filter, Bool, true, false, not, refl, sym, ◌∙◌, ap, subst, arith, inl, inr}
use Rattle.std.specs.List.{range_with_len, list_any}
use Rattle.std.proofs.lemmas.Bool.{cases_eq, cases_lt}
use Rattle.std.proofs.lemmas.List.{length-take, get_or-take, ext_get_or}
use Rattle.std.proofs.lemmas.Slice.Eq.{bytes_eq-Decides}
use Rattle.bp_layout.specs.Members.{Has, AreApart}
use Rattle.bp_layout.proofs.MemberLaws.{apart-append, apart-filter, apart-more, filter-has, has-after, has-either, has-filter, has-prefix}
use Rattle.bp_layout.specs.Need.{is_prefix, prefixes_from, prefixes_of}
use Rattle.bp_changes.specs.Trail.{trail_of}
use Rattle.bp_changes.proofs.PathTrails.{slot-trail_of}
use Rattle.bp_cow.specs.Touched.{NoneBegins}

-- ---- prefixes

pub same-take : (p q : List ℕ) (d : ℕ) → d ≤ length p → d ≤ length q → trail_of p d ≡ trail_of q d → take d p ≡ take d q
same-take p q d low high same =
    ext_get_or 0 (take d p) (take d q) (omega (arith, length-take d p, length-take d q, low, high))
    (λ i few. let small : i < d = omega (arith, few, length-take d p) in get_or-take d p i 0 small ∙ slot-trail_of p q d i same small ∙ sym (get_or-take d q i 0 small))

-- ---- the proper prefixes of some paths

prefix-is : (prefix path : List ℕ) → is_prefix prefix path ≡ true → prefix ≡ take (length prefix) path
prefix-is prefix path e = (bytes_eq-Decides prefix (take (length prefix) path)).0 e

is-prefix : (path : List ℕ) (n : ℕ) → n ≤ length path → is_prefix (take n path) path ≡ true
is-prefix path n low =
    let size : length (take n path) ≡ n = length-take n path ∙ omega (arith, low) in
    (bytes_eq-Decides (take n path) (take (length (take n path)) path)).1 (ap (λ k. take k path) (sym size))

-- a prefix of one of these paths
pub record IsPrefixOf (shortest : ℕ) (paths : List (List ℕ)) (q : List ℕ) : Type 0 where
  pub path : List ℕ
  pub has : Has paths path
  pub count : ℕ
  pub low : shortest ≤ count
  pub high : count < length path
  pub same : q ≡ take count path

-- the prefixes of one path, from some lengths on
numbered : (start count n : ℕ) (path q : List ℕ) → Has (map (λ k. take k path) (range_with_len start count)) q → (k : ℕ) × (start ≤ k) × (k < start + count) × (q ≡ take k path)
numbered start zero n path q has = absurd has
numbered start (suc count) n path q (inl e) = (start, omega arith, omega arith, sym e)
numbered start (suc count) n path q (inr more) =
    let rest = numbered (start + 1) count n path q more in
    (rest.0, omega (arith, rest.1), omega (arith, rest.2), rest.3)

number : (start count k : ℕ) (path : List ℕ) → start ≤ k → k < start + count → Has (map (λ n. take n path) (range_with_len start count)) (take k path)
number start zero k path low high = absurd (omega (arith, low, high))
number start (suc count) k path low high = go (cases_eq start k) (λ less. number (start + 1) count k path less (omega (arith, high)))
  where
    go : (start ≡ k) ⊎ (start ≡ k → ⊥) → (start + 1 ≤ k → Has (map (λ n. take n path) (range_with_len (start + 1) count)) (take k path)) → Has (map (λ n. take n path) (range_with_len start (suc count))) (take k path)
    go (inl e) rest = inl (ap (λ n. take n path) e)
    go (inr n) rest = inr (rest (omega (arith, low, n)))

distinct-numbers : (start count : ℕ) (path : List ℕ) → start + count ≤ length path → AreApart (map (λ n. take n path) (range_with_len start count))
distinct-numbers start zero path short = tt
distinct-numbers start (suc count) path short = apart-more (take start path) (map (λ n. take n path) (range_with_len (start + 1) count))
    (λ has. let rest = numbered (start + 1) count 0 path (take start path) has in
    absurd (omega (arith, rest.1, rest.2, short, length-take start path, length-take rest.0 path, ap (λ (p : List ℕ). length p) rest.3)))
    (distinct-numbers (start + 1) count path (omega (arith, short)))

not_true : (b : Bool) → not b ≡ true → b ≡ false
not_true false e = refl
not_true true e = absurd (cc)

none_before : (q path : List ℕ) (earlier : List (List ℕ)) → list_any (is_prefix q) (path ∷ earlier) ≡ false → list_any (is_prefix q) earlier ≡ false
none_before q path earlier e = go (is_prefix q path) refl
  where
    go : (x : Bool) → is_prefix q path ≡ x → list_any (is_prefix q) earlier ≡ false
    go false is = rw is at e
    go true is = let wrong : true ≡ false = rw is at e in absurd (cc)

pub prefixes_sound : (shortest : ℕ) (earlier paths : List (List ℕ)) (q : List ℕ) → Has (prefixes_of shortest earlier paths) q → IsPrefixOf shortest paths q × (list_any (is_prefix q) earlier ≡ false)
prefixes_sound shortest earlier [] q has = absurd has
prefixes_sound shortest earlier (path ∷ paths) q has =
    go (has-either (filter (λ p. not (list_any (is_prefix p) earlier)) (prefixes_from shortest path)) (prefixes_of shortest (path ∷ earlier) paths) q has) (λ more. prefixes_sound shortest (path ∷ earlier) paths q more)
  where
    go : Has (filter (λ p. not (list_any (is_prefix p) earlier)) (prefixes_from shortest path)) q ⊎ Has (prefixes_of shortest (path ∷ earlier) paths) q →
        (Has (prefixes_of shortest (path ∷ earlier) paths) q → IsPrefixOf shortest paths q × (list_any (is_prefix q) (path ∷ earlier) ≡ false)) → IsPrefixOf shortest (path ∷ paths) q × (list_any (is_prefix q) earlier ≡ false)
    go (inl one) rest =
        let kept = filter-has (λ p. not (list_any (is_prefix p) earlier)) (prefixes_from shortest path) q one in
        let at = numbered shortest (length path - shortest) 0 path q kept.0 in
        (record { path = path; has = inl refl; count = at.0; low = at.1; high = omega (arith, at.1, at.2); same = at.3 }, not_true (list_any (is_prefix q) earlier) kept.1)
    go (inr two) rest =
        let r = rest two in
        (record { path = r.0.path; has = inr r.0.has; count = r.0.count; low = r.0.low; high = r.0.high; same = r.0.same }, none_before q path earlier r.1)

pub prefixes_distinct : (shortest : ℕ) (earlier paths : List (List ℕ)) → AreApart (prefixes_of shortest earlier paths)
prefixes_distinct shortest earlier [] = tt
prefixes_distinct shortest earlier (path ∷ paths) =
    apart-append (filter (λ p. not (list_any (is_prefix p) earlier)) (prefixes_from shortest path)) (prefixes_of shortest (path ∷ earlier) paths)
    (apart-filter (λ p. not (list_any (is_prefix p) earlier)) (prefixes_from shortest path) (numbers (cases_lt (length path) shortest)))
    (prefixes_distinct shortest (path ∷ earlier) paths)
    (λ q one two. apart q (filter-has (λ p. not (list_any (is_prefix p) earlier)) (prefixes_from shortest path) q one).0 (prefixes_sound shortest (path ∷ earlier) paths q two).1)
  where
    numbers : (length path < shortest) ⊎ (shortest ≤ length path) → AreApart (prefixes_from shortest path)
    numbers (inl past) = let none : length path - shortest ≡ 0 = omega (arith, past) in rw none tt
    numbers (inr low) = distinct-numbers shortest (length path - shortest) path (omega (arith, low))

    apart : (q : List ℕ) → Has (prefixes_from shortest path) q → list_any (is_prefix q) (path ∷ earlier) ≡ false → ⊥
    apart q has none =
        let at = numbered shortest (length path - shortest) 0 path q has in
        let begins : is_prefix q path ≡ true = subst (λ p. is_prefix p path ≡ true) (sym at.3) (is-prefix path at.0 (omega (arith, at.1, at.2))) in
        let found : list_any (is_prefix q) (path ∷ earlier) ≡ true = rw begins refl in
        absurd (cc)

pub prefixes_complete : (shortest : ℕ) (earlier paths : List (List ℕ)) (q : List ℕ) → NoneBegins paths → IsPrefixOf shortest paths q → list_any (is_prefix q) earlier ≡ false → Has (prefixes_of shortest earlier paths) q
prefixes_complete shortest earlier [] q apart prefix none = absurd prefix.has
prefixes_complete shortest earlier (path ∷ paths) q apart prefix none = go prefix.has (cases_lt (length q) (length path)) (is_prefix q path) refl (λ more without. prefixes_complete shortest (path ∷ earlier) paths q (λ p o a b. apart p o (inr a) (inr b)) more without)
  where
    kept : not (list_any (is_prefix q) earlier) ≡ true
    kept = rw none refl

    here : (n : ℕ) → shortest ≤ n → n < length path → q ≡ take n path → Has (prefixes_of shortest earlier (path ∷ paths)) q
    here n low high same =
        has-prefix (filter (λ p. not (list_any (is_prefix p) earlier)) (prefixes_from shortest path)) (prefixes_of shortest (path ∷ earlier) paths) q
        (has-filter (λ p. not (list_any (is_prefix p) earlier)) (prefixes_from shortest path) q
        (subst (Has (prefixes_from shortest path)) (sym same) (number shortest (length path - shortest) n path low (omega (arith, low, high)))) kept)

    size : length q ≡ prefix.count
    size = let high = prefix.high in ap (λ (p : List ℕ). length p) prefix.same ∙ length-take prefix.count prefix.path ∙ omega (arith, high)

    go : (path ≡ prefix.path) ⊎ Has paths prefix.path → (length q < length path) ⊎ (length path ≤ length q) → (x : Bool) → is_prefix q path ≡ x →
        (IsPrefixOf shortest paths q → list_any (is_prefix q) (path ∷ earlier) ≡ false → Has (prefixes_of shortest (path ∷ earlier) paths) q) → Has (prefixes_of shortest earlier (path ∷ paths)) q
    go (inl e) any x is rest = here prefix.count prefix.low (subst (λ p. prefix.count < length p) (sym e) prefix.high) (prefix.same ∙ ap (take prefix.count) (sym e))
    go (inr more) (inl less) true is rest = here (length q) (let low = prefix.low in omega (arith, low, size)) less (prefix-is q path is)
    go (inr more) (inr all) true is rest =
        absurd (apart path prefix.path (inl refl) (inr more) prefix.count prefix.high (sym prefix.same ∙ prefix-is q path is ∙ take-all path (length q) all))
      where
        take-all : (p : List ℕ) (n : ℕ) → length p ≤ n → take n p ≡ p
        take-all [] zero low = refl
        take-all [] (suc n) low = refl
        take-all (x ∷ p) zero low = absurd (omega (arith, low))
        take-all (x ∷ p) (suc n) low = ap (λ r. x ∷ r) (take-all p n (omega (arith, low)))
    go (inr more) any false is rest =
        has-after (filter (λ p. not (list_any (is_prefix p) earlier)) (prefixes_from shortest path)) (prefixes_of shortest (path ∷ earlier) paths) q
        (rest (record { path = prefix.path; has = more; count = prefix.count; low = prefix.low; high = prefix.high; same = prefix.same }) (rw is none))
