-- What is found on the ways are just the blocks of the snapshot on them.
use Rattle.std.proofs.Common.{◌≡◌, ℕ, zero, suc, ◌+◌, ◌-◌, ◌<◌, ◌≤◌, List, [], ◌∷◌, ◌++◌, map, filter, length, take, Bool, true, false, not, ◌&&◌, ◌||◌, ◌==◌, refl, sym, ◌∙◌, ap, ap₂, subst, arith, inl, inr, true≢false, append_assoc}
use Rattle.std.specs.Prelude.{nat_lt}
use Rattle.std.specs.List.{list_any, range_with_len}
use Rattle.std.specs.Str.{bytes_eq}
use Rattle.std.proofs.lemmas.Bool.{eq-eqb, lt-ltb, ltb-true, ne_eqb, or_left, or_right}
use Rattle.std.proofs.lemmas.List.{length-take-le}
use Rattle.std.proofs.lemmas.List.Elements.{filter-append}
use Rattle.std.proofs.lemmas.List.Folds.{list_any-append}
use Rattle.std.proofs.lemmas.List.FromFn.{map-range_with_len_more}
use Rattle.std.proofs.lemmas.Slice.Eq.{bytes_eq-Decides}
use Rattle.bp_layout.specs.Members.{AreApart, Has}
use Rattle.bp_layout.specs.Need.{prefixes_from}
use Rattle.bp_layout.specs.Thaw.{proper_prefixes_of, is_proper_prefix, is_in_snapshot_at, is_there_now, thawed_on}
use Rattle.bp_layout.specs.WellFormed.{IsWellFormed}
use Rattle.bp_layout.specs.WordPaths.{WordPath, address}
use Rattle.bp_layout.specs.Words.{Image}
use Rattle.bp_layout.proofs.MemberLaws.{apart-append, filter-has, has-either, has-filter, has-map, has-range}
use Rattle.bp_thaw.specs.Prefixes.{IsPointerPath, IsWayIn, found_in, found_on, is_found}
use Rattle.bp_thaw.proofs.CopySteps.{map-more}
use Rattle.bp_thaw.proofs.PointerPaths.{prefix_path, paths_apart}

and_true : (a b : Bool) → (a && b) ≡ true → (a ≡ true) × (b ≡ true)
and_true false b e = absurd (true≢false (sym e))
and_true true b e = (refl, e)

pub any_none : {A : Type 0} (test : A → Bool) (xs : List A) → ((x : A) → Has xs x → test x ≡ false) → list_any test xs ≡ false
any_none test [] none = refl
any_none test (x ∷ xs) none = rw (none x (inl refl)) (any_none test xs (λ y later. none y (inr later)))

pub any_some : {A : Type 0} (test : A → Bool) (xs : List A) (x : A) → Has xs x → test x ≡ true → list_any test xs ≡ true
any_some test [] x has is = absurd has
any_some test (y ∷ xs) x (inl e) is = or_left (test y) (list_any test xs) (ap test e ∙ is)
any_some test (y ∷ xs) x (inr later) is = or_right (test y) (list_any test xs) (any_some test xs x later is)

pub some_any : {A : Type 0} (test : A → Bool) (xs : List A) → list_any test xs ≡ true → (x : A) × Has xs x × (test x ≡ true)
some_any test [] is = absurd (true≢false (sym is))
some_any test (x ∷ xs) is = go (test x) refl (λ rest. some_any test xs rest)
  where
    go : (b : Bool) → test x ≡ b → (list_any test xs ≡ true → (y : _) × Has xs y × (test y ≡ true)) → (y : _) × Has (x ∷ xs) y × (test y ≡ true)
    go true e rest = (x, inl refl, e)
    go false e rest = let found = rest (rw e at is) in (found.0, inr found.1, found.2)

pub filter_none : {A : Type 0} (test : A → Bool) (xs : List A) → ((x : A) → Has xs x → test x ≡ false) → filter test xs ≡ []
filter_none test [] none = refl
filter_none test (x ∷ xs) none = rw (none x (inl refl)) (filter_none test xs (λ y later. none y (inr later)))

pub mapped_range : {A : Type 0} (f : ℕ → A) (a n : ℕ) (x : A) → Has (map f (range_with_len a n)) x → (k : ℕ) × (k < a + n) × (x ≡ f k)
mapped_range f a zero x has = absurd has
mapped_range f a (suc n) x (inl e) = (a, omega arith, sym e)
mapped_range f a (suc n) x (inr later) = let rest = mapped_range f (a + 1) n x later in (rest.0, omega (arith, rest.1), rest.2)

or_false : (b : Bool) → (b || false) ≡ b
or_false true = refl
or_false false = refl

or_true : (b : Bool) → (b || true) ≡ true
or_true true = refl
or_true false = refl

-- a prefix of a path is its first slots
prefix_take : (f w : WordPath) → is_proper_prefix f w ≡ true → (length f < length w) × (f ≡ take (length f) w)
prefix_take f w is = let both = and_true _ _ is in (ltb-true (length f) (length w) both.1, (bytes_eq-Decides f (take (length f) w)).0 both.0)

pub take_prefix : (w : WordPath) (n : ℕ) → n < length w → is_proper_prefix (take n w) w ≡ true
take_prefix w n low =
    let long : length (take n w) ≡ n = length-take-le n w (omega (arith, low)) in
    let small : nat_lt (length (take n w)) (length w) ≡ true = lt-ltb _ _ (omega (arith, long, low)) in
    let same : bytes_eq (take n w) (take (length (take n w)) w) ≡ true = (bytes_eq-Decides _ _).1 (ap (λ m. take m w) (sym long)) in
    rw (same, small) refl

-- ---- no place stands twice

not_found : (image : Image) (found : List WordPath) (f : WordPath) → is_found image found f ≡ false → Has (map (address image) found) (address image f) → ⊥
not_found image [] f none has = absurd has
not_found image (g ∷ found) f none (inl e) = true≢false (sym (or_left (address image g == address image f) (is_found image found f) (eq-eqb _ _ e)) ∙ none)
not_found image (g ∷ found) f none (inr later) = not_found image found f (go (address image g == address image f) refl) later
  where
    go : (b : Bool) → (address image g == address image f) ≡ b → is_found image found f ≡ false
    go true e = absurd (true≢false (sym (or_left (address image g == address image f) (is_found image found f) e) ∙ none))
    go false e = rw e at none

pub found_apart : (image : Image) (in_snapshot : ℕ → Bool) (found : List WordPath) (w : WordPath) (d : ℕ) → AreApart (map (address image) found) → AreApart (map (address image) (found_on image in_snapshot found w d))
found_apart image in_snapshot found w zero apart = apart
found_apart image in_snapshot found w (suc d) apart =
    go (is_in_snapshot_at image in_snapshot (take d w)) refl (is_found image (found_on image in_snapshot found w d) (take d w)) refl (found_apart image in_snapshot found w d apart)
  where
    go : (x : Bool) → is_in_snapshot_at image in_snapshot (take d w) ≡ x → (y : Bool) → is_found image (found_on image in_snapshot found w d) (take d w) ≡ y → AreApart (map (address image) (found_on image in_snapshot found w d)) →
        AreApart (map (address image) (found_on image in_snapshot found w (suc d)))
    go false e y f rest = rw e rest
    go true e true f rest = rw (e, f) rest
    go true e false f rest =
        rw (e, f)
        (subst AreApart (sym (map-more (address image) (found_on image in_snapshot found w d) (take d w)))
        (apart-append (map (address image) (found_on image in_snapshot found w d)) (address image (take d w) ∷ []) rest (tt, tt)
        (λ x early late. elim late [ inl same ↦ not_found image (found_on image in_snapshot found w d) (take d w) f (subst (Has (map (address image) (found_on image in_snapshot found w d))) (sym same) early) | inr none ↦ absurd none ])))

pub all_apart : (image : Image) (in_snapshot : ℕ → Bool) (found ws : List WordPath) → AreApart (map (address image) found) → AreApart (map (address image) (found_in image in_snapshot found ws))
all_apart image in_snapshot found [] apart = apart
all_apart image in_snapshot found (w ∷ ws) apart = all_apart image in_snapshot (found_on image in_snapshot found w (length w)) ws (found_apart image in_snapshot found w (length w) apart)

-- ---- what is found

module _ (image : Image) (wf : IsWellFormed image) (in_snapshot : ℕ → Bool) where
  -- a prefix of one of these paths
  pub record IsPrefixAmong (paths : List WordPath) (f : WordPath) : Type 0 where
    pub way : WordPath
    pub count : ℕ
    pub has : Has paths way
    pub less : count < length way
    pub is : f ≡ take count way

  -- found so far, on these paths
  pub record AreFound (earlier found : List WordPath) : Type 0 where
    pub ways : (w : WordPath) → Has earlier w → IsWayIn image w
    pub in_snapshot_there : (f : WordPath) → Has found f → is_in_snapshot_at image in_snapshot f ≡ true
    pub prefixes : (f : WordPath) → Has found f → IsPrefixAmong earlier f
    pub same : (f : WordPath) → IsPointerPath image f → is_in_snapshot_at image in_snapshot f ≡ true → is_found image found f ≡ list_any (is_proper_prefix f) earlier

  pub there_of : (f : WordPath) → is_in_snapshot_at image in_snapshot f ≡ true → is_there_now image f ≡ true
  there_of f is = (and_true _ _ is).0

  pub path_of : (earlier : List WordPath) → ((w : WordPath) → Has earlier w → IsWayIn image w) → (f : WordPath) → IsPrefixAmong earlier f → IsPointerPath image f
  path_of earlier ways f prefix = subst (IsPointerPath image) (sym prefix.is) (prefix_path image wf prefix.way prefix.count (ways prefix.way prefix.has) prefix.less)

  abbrev new_to : List WordPath → WordPath → Bool
  new_to earlier f = not (list_any (is_proper_prefix f) earlier)

  abbrev rest_of : List WordPath → WordPath → ℕ → List WordPath
  rest_of earlier w d = filter (is_in_snapshot_at image in_snapshot) (filter (new_to earlier) (map (λ n. take n w) (range_with_len 0 d)))

  -- a member of these
  record IsRest (earlier : List WordPath) (w : WordPath) (d : ℕ) (f : WordPath) : Type 0 where
    pub count : ℕ
    pub less : count < d
    pub is : f ≡ take count w
    pub in_snapshot_there : is_in_snapshot_at image in_snapshot f ≡ true

  rest_has : (earlier : List WordPath) (w : WordPath) (d : ℕ) (f : WordPath) → Has (rest_of earlier w d) f → IsRest earlier w d f
  rest_has earlier w d f has =
      let one = filter-has (is_in_snapshot_at image in_snapshot) (filter (new_to earlier) (map (λ n. take n w) (range_with_len 0 d))) f has in
      let two = filter-has (new_to earlier) (map (λ n. take n w) (range_with_len 0 d)) f one.0 in
      let three = mapped_range (λ n. take n w) 0 d f two.0 in
      record { count = three.0; less = omega (arith, three.1); is = three.2; in_snapshot_there = one.1 }

  has_rest : (earlier : List WordPath) (w : WordPath) (d n : ℕ) → n < d → is_in_snapshot_at image in_snapshot (take n w) ≡ true → list_any (is_proper_prefix (take n w)) earlier ≡ false → Has (rest_of earlier w d) (take n w)
  has_rest earlier w d n low is none =
      has-filter (is_in_snapshot_at image in_snapshot) (filter (new_to earlier) (map (λ n. take n w) (range_with_len 0 d))) (take n w)
      (has-filter (new_to earlier) (map (λ n. take n w) (range_with_len 0 d)) (take n w) (has-map (λ n. take n w) (range_with_len 0 d) n (has-range 0 d n (omega arith) (omega (arith, low)))) (rw none refl)) is

  rest_more : (earlier : List WordPath) (w : WordPath) (d : ℕ) → rest_of earlier w (suc d) ≡ rest_of earlier w d ++ filter (is_in_snapshot_at image in_snapshot) (filter (new_to earlier) (take d w ∷ []))
  rest_more earlier w d =
      let next : suc d ≡ d + 1 = omega arith in
      ap (λ n. rest_of earlier w n) next
      ∙ ap (λ xs. filter (is_in_snapshot_at image in_snapshot) (filter (new_to earlier) xs)) (map-range_with_len_more (λ n. take n w) 0 d d (omega arith))
      ∙ ap (filter (is_in_snapshot_at image in_snapshot)) (filter-append (new_to earlier) (map (λ n. take n w) (range_with_len 0 d)) (take d w ∷ []))
      ∙ filter-append (is_in_snapshot_at image in_snapshot) (filter (new_to earlier) (map (λ n. take n w) (range_with_len 0 d))) (filter (new_to earlier) (take d w ∷ []))

  -- no place of a pointer higher up is that of one below it
  rest_apart : (earlier : List WordPath) (w : WordPath) → IsWayIn image w → (d : ℕ) → d < length w → is_in_snapshot_at image in_snapshot (take d w) ≡ true → is_found image (rest_of earlier w d) (take d w) ≡ false
  rest_apart earlier w way d low is = any_none _ (rest_of earlier w d) (λ g has. ne_eqb (address image g) (address image (take d w)) (apart g (rest_has earlier w d g has)))
    where
      apart : (g : WordPath) → IsRest earlier w d g → address image g ≡ address image (take d w) → ⊥
      apart g rest e =
          let of : IsPointerPath image g = subst (IsPointerPath image) (sym rest.is) (prefix_path image wf w rest.count way (omega (arith, rest.less, low))) in
          let same : g ≡ take d w = paths_apart image wf g (take d w) of (prefix_path image wf w d way low) (there_of g rest.in_snapshot_there) (there_of (take d w) is) e in
          let one : length (take rest.count w) ≡ rest.count = length-take-le rest.count w (omega (arith, rest.less, low)) in
          let two : length (take d w) ≡ d = length-take-le d w (omega (arith, low)) in
          let lengths : rest.count ≡ d = sym one ∙ ap (λ (p : WordPath). length p) (sym rest.is ∙ same) ∙ two in
          omega (arith, lengths, rest.less)

  module _ (earlier found : List WordPath) (so_far : AreFound earlier found) (w : WordPath) (way : IsWayIn image w) where
    on_is : (d : ℕ) → d ≤ length w → found_on image in_snapshot found w d ≡ found ++ rest_of earlier w d
    on_is zero low = sym (append_nil found)
      where
        append_nil : (xs : List WordPath) → xs ++ [] ≡ xs
        append_nil [] = refl
        append_nil (x ∷ xs) = ap (λ more. x ∷ more) (append_nil xs)
    on_is (suc d) low = go (is_in_snapshot_at image in_snapshot (take d w)) refl (list_any (is_proper_prefix (take d w)) earlier) refl (on_is d (omega (arith, low)))
      where
        append_nil : (xs : List WordPath) → xs ++ [] ≡ xs
        append_nil [] = refl
        append_nil (x ∷ xs) = ap (λ more. x ∷ more) (append_nil xs)

        last : List WordPath → found ++ rest_of earlier w (suc d) ≡ (found ++ rest_of earlier w d) ++ filter (is_in_snapshot_at image in_snapshot) (filter (new_to earlier) (take d w ∷ []))
        last _ = ap (λ xs. found ++ xs) (rest_more earlier w d) ∙ sym (append_assoc found (rest_of earlier w d) (filter (is_in_snapshot_at image in_snapshot) (filter (new_to earlier) (take d w ∷ []))))

        is_old : is_in_snapshot_at image in_snapshot (take d w) ≡ true → is_found image (found ++ rest_of earlier w d) (take d w) ≡ list_any (is_proper_prefix (take d w)) earlier
        is_old is =
            list_any-append (λ other. address image other == address image (take d w)) found (rest_of earlier w d)
            ∙ ap₂ (λ a b. a || b) (so_far.same (take d w) (prefix_path image wf w d way (omega (arith, low))) is) (rest_apart earlier w way d (omega (arith, low)) is)
            ∙ or_false (list_any (is_proper_prefix (take d w)) earlier)

        none_in_snapshot_here : (y : Bool) → list_any (is_proper_prefix (take d w)) earlier ≡ y → is_in_snapshot_at image in_snapshot (take d w) ≡ false → filter (is_in_snapshot_at image in_snapshot) (filter (new_to earlier) (take d w ∷ [])) ≡ []
        none_in_snapshot_here true f e = rw f refl
        none_in_snapshot_here false f e = rw (f, e) refl

        go : (x : Bool) → is_in_snapshot_at image in_snapshot (take d w) ≡ x → (y : Bool) → list_any (is_proper_prefix (take d w)) earlier ≡ y → found_on image in_snapshot found w d ≡ found ++ rest_of earlier w d →
            found_on image in_snapshot found w (suc d) ≡ found ++ rest_of earlier w (suc d)
        go false e y f rest = rw e (rest ∙ sym (append_nil (found ++ rest_of earlier w d)) ∙ ap (λ xs. (found ++ rest_of earlier w d) ++ xs) (sym (none_in_snapshot_here y f e)) ∙ sym (last []))
        go true e true f rest =
            let old : is_found image (found_on image in_snapshot found w d) (take d w) ≡ true = ap (λ xs. is_found image xs (take d w)) rest ∙ is_old e ∙ f in
            let nothing : filter (is_in_snapshot_at image in_snapshot) (filter (new_to earlier) (take d w ∷ [])) ≡ [] = rw f refl in
            rw (e, old) (rest ∙ sym (append_nil (found ++ rest_of earlier w d)) ∙ ap (λ xs. (found ++ rest_of earlier w d) ++ xs) (sym nothing) ∙ sym (last []))
        go true e false f rest =
            let new : is_found image (found_on image in_snapshot found w d) (take d w) ≡ false = ap (λ xs. is_found image xs (take d w)) rest ∙ is_old e ∙ f in
            let one : filter (is_in_snapshot_at image in_snapshot) (filter (new_to earlier) (take d w ∷ [])) ≡ take d w ∷ [] = rw (f, e) refl in
            rw (e, new) (ap (λ xs. xs ++ take d w ∷ []) rest ∙ ap (λ xs. (found ++ rest_of earlier w d) ++ xs) (sym one) ∙ sym (last []))

    ways_now : (v : WordPath) → Has (w ∷ earlier) v → IsWayIn image v
    ways_now v (inl e) = subst (IsWayIn image) e way
    ways_now v (inr later) = so_far.ways v later

    in_snapshot_now : (f : WordPath) → Has (found ++ rest_of earlier w (length w)) f → is_in_snapshot_at image in_snapshot f ≡ true
    in_snapshot_now f has = elim (has-either found (rest_of earlier w (length w)) f has) [ inl early ↦ so_far.in_snapshot_there f early | inr late ↦ (rest_has earlier w (length w) f late).in_snapshot_there ]

    prefixes_now : (f : WordPath) → Has (found ++ rest_of earlier w (length w)) f → IsPrefixAmong (w ∷ earlier) f
    prefixes_now f has = elim (has-either found (rest_of earlier w (length w)) f has) [
      | inl early ↦ let prefix = so_far.prefixes f early in record { way = prefix.way; count = prefix.count; has = inr prefix.has; less = prefix.less; is = prefix.is }
      | inr late ↦ let rest = rest_has earlier w (length w) f late in record { way = w; count = rest.count; has = inl refl; less = rest.less; is = rest.is }
    ]

    rest_same : (f : WordPath) → IsPointerPath image f → is_in_snapshot_at image in_snapshot f ≡ true → list_any (is_proper_prefix f) earlier ≡ false → (x : Bool) → is_proper_prefix f w ≡ x → is_found image (rest_of earlier w (length w)) f ≡ x
    rest_same f of is none true e =
        let prefix = prefix_take f w e in
        let here : Has (rest_of earlier w (length w)) f =
        subst (Has (rest_of earlier w (length w))) (sym prefix.1)
        (has_rest earlier w (length w) (length f) prefix.0 (subst (λ g. is_in_snapshot_at image in_snapshot g ≡ true) prefix.1 is) (subst (λ g. list_any (is_proper_prefix g) earlier ≡ false) prefix.1 none)) in
        any_some (λ other. address image other == address image f) (rest_of earlier w (length w)) f here (eq-eqb (address image f) (address image f) refl)
    rest_same f of is none false e = any_none (λ other. address image other == address image f) (rest_of earlier w (length w)) (λ g has. ne_eqb (address image g) (address image f) (apart g (rest_has earlier w (length w) g has)))
      where
        apart : (g : WordPath) → IsRest earlier w (length w) g → address image g ≡ address image f → ⊥
        apart g rest same =
            let gof : IsPointerPath image g = subst (IsPointerPath image) (sym rest.is) (prefix_path image wf w rest.count way rest.less) in
            let equal : g ≡ f = paths_apart image wf g f gof of (there_of g rest.in_snapshot_there) (there_of f is) same in
            true≢false (sym (take_prefix w rest.count rest.less) ∙ ap (λ p. is_proper_prefix p w) (sym rest.is ∙ equal) ∙ e)

    same_now : (f : WordPath) → IsPointerPath image f → is_in_snapshot_at image in_snapshot f ≡ true → is_found image (found ++ rest_of earlier w (length w)) f ≡ list_any (is_proper_prefix f) (w ∷ earlier)
    same_now f of is =
        list_any-append (λ other. address image other == address image f) found (rest_of earlier w (length w))
        ∙ ap (λ b. b || is_found image (rest_of earlier w (length w)) f) (so_far.same f of is)
        ∙ go (list_any (is_proper_prefix f) earlier) refl
      where
        go : (x : Bool) → list_any (is_proper_prefix f) earlier ≡ x → (list_any (is_proper_prefix f) earlier || is_found image (rest_of earlier w (length w)) f) ≡ (is_proper_prefix f w || list_any (is_proper_prefix f) earlier)
        go true e = rw e (sym (or_true (is_proper_prefix f w)))
        go false e = rw e (rest_same f of is e (is_proper_prefix f w) refl ∙ sym (or_false (is_proper_prefix f w)))

    found_now : AreFound (w ∷ earlier) (found ++ rest_of earlier w (length w))
    found_now = record { ways = ways_now; in_snapshot_there = in_snapshot_now; prefixes = prefixes_now; same = same_now }

  -- the paths in the order in which they were gone
  abbrev pub gone : List WordPath → List WordPath → List WordPath
  gone earlier [] = earlier
  gone earlier (w ∷ ws) = gone (w ∷ earlier) ws

  pub all_found : (earlier found ws : List WordPath) → AreFound earlier found → ((w : WordPath) → Has ws w → IsWayIn image w) →
      (found_in image in_snapshot found ws ≡ found ++ filter (is_in_snapshot_at image in_snapshot) (proper_prefixes_of earlier ws)) × AreFound (gone earlier ws) (found_in image in_snapshot found ws)
  all_found earlier found [] so_far ways = (sym (append_nil found), so_far)
    where
      append_nil : (xs : List WordPath) → xs ++ [] ≡ xs
      append_nil [] = refl
      append_nil (x ∷ xs) = ap (λ more. x ∷ more) (append_nil xs)
  all_found earlier found (w ∷ ws) so_far ways = go (all_found (w ∷ earlier) (found ++ rest_of earlier w (length w)) ws (found_now earlier found so_far w (ways w (inl refl))) (λ v later. ways v (inr later)))
    where
      here : found_on image in_snapshot found w (length w) ≡ found ++ rest_of earlier w (length w)
      here = on_is earlier found so_far w (ways w (inl refl)) (length w) (omega arith)

      whole : rest_of earlier w (length w) ≡ filter (is_in_snapshot_at image in_snapshot) (filter (new_to earlier) (prefixes_from 0 w))
      whole = let all : length w ≡ length w - 0 = omega arith in ap (λ n. filter (is_in_snapshot_at image in_snapshot) (filter (new_to earlier) (map (λ n. take n w) (range_with_len 0 n)))) all

      join : (found ++ rest_of earlier w (length w)) ++ filter (is_in_snapshot_at image in_snapshot) (proper_prefixes_of (w ∷ earlier) ws) ≡ found ++ filter (is_in_snapshot_at image in_snapshot) (proper_prefixes_of earlier (w ∷ ws))
      join =
          append_assoc found (rest_of earlier w (length w)) (filter (is_in_snapshot_at image in_snapshot) (proper_prefixes_of (w ∷ earlier) ws))
          ∙ ap (λ xs. found ++ xs) (ap (λ xs. xs ++ filter (is_in_snapshot_at image in_snapshot) (proper_prefixes_of (w ∷ earlier) ws)) whole
          ∙ sym (filter-append (is_in_snapshot_at image in_snapshot) (filter (new_to earlier) (prefixes_from 0 w)) (proper_prefixes_of (w ∷ earlier) ws)))

      go : (found_in image in_snapshot (found ++ rest_of earlier w (length w)) ws ≡ (found ++ rest_of earlier w (length w)) ++ filter (is_in_snapshot_at image in_snapshot) (proper_prefixes_of (w ∷ earlier) ws))
          × AreFound (gone (w ∷ earlier) ws) (found_in image in_snapshot (found ++ rest_of earlier w (length w)) ws) →
          (found_in image in_snapshot found (w ∷ ws) ≡ found ++ filter (is_in_snapshot_at image in_snapshot) (proper_prefixes_of earlier (w ∷ ws))) × AreFound (gone earlier (w ∷ ws)) (found_in image in_snapshot found (w ∷ ws))
      go rest = (ap (λ xs. found_in image in_snapshot xs ws) here ∙ rest.0 ∙ join, subst (λ xs. AreFound (gone (w ∷ earlier) ws) (found_in image in_snapshot xs ws)) (sym here) rest.1)

  found_nothing : AreFound [] []
  found_nothing = record { ways = λ w none. absurd none; in_snapshot_there = λ f none. absurd none; prefixes = λ f none. absurd none; same = λ f of is. refl }

  pub found_is : (ws : List WordPath) → ((w : WordPath) → Has ws w → IsWayIn image w) → found_in image in_snapshot [] ws ≡ thawed_on image in_snapshot ws
  found_is ws ways = (all_found [] [] ws found_nothing ways).0

  pub are_found : (ws : List WordPath) → ((w : WordPath) → Has ws w → IsWayIn image w) → AreFound (gone [] ws) (thawed_on image in_snapshot ws)
  are_found ws ways = subst (AreFound (gone [] ws)) (found_is ws ways) (all_found [] [] ws found_nothing ways).1
