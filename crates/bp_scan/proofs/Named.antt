-- The entries that were gone through are counted by the inodes that they name.
use Rattle.std.proofs.Common.{◌≡◌, ◌≢◌, ◌⊎◌, ℕ, ◌+◌, ◌*◌, ◌/◌, ◌%◌, ◌<◌, ◌≤◌, List, [], ◌∷◌, map, length, set, replicate, refl, sym, ◌∙◌, ap, subst, arith, inl, inr, get_or-set_same, get_or-set_other}
use Rattle.std.proofs.lemmas.Bool.{cases_eq}
use Rattle.std.proofs.lemmas.List.{length-map, length-set, length-replicate, get_or-replicate}
use Rattle.std.proofs.lemmas.List.FromFn.{length-range_with_len}
use Rattle.std.specs.List.{range_with_len, slice_index}
use Rattle.bp_free.specs.Set.{Set, has}
use Rattle.bp_layout.specs.Words.{Image, height_of}
use Rattle.bp_layout.specs.Tree.{node, IsFull, IsSound}
use Rattle.bp_layout.specs.Checks.{entry_place}
use Rattle.bp_layout.specs.Directory.{EntryNames}
use Rattle.bp_layout.specs.Inode.{root_of, size_of}
use Rattle.bp_layout.specs.Members.{AreApart, Each, Has}
use Rattle.bp_layout.specs.Names.{AreCounts, HasNames, IsNamed}
use Rattle.bp_layout.specs.Reached.{IsReached}
use Rattle.bp_layout.proofs.MemberLaws.{apart-more, apart-within, each-as, each-has, has-range}
use Rattle.bp_spelling.proofs.EntryPlaces.{place-is, place_fits}
use Rattle.bp_scan.specs.Named.{CountsAmong, HasAmong, IsAmong}
use Rattle.bp_scan.specs.Scanned.{IsScanned}
use Rattle.bp_scan.proofs.Readable.{is_full, is_sound, one_entry}

-- ---- no entry, and the same entries

none_among : (image : Image) (D : ℕ → ℕ → Type 0) (j : ℕ) → ((i s : ℕ) → D i s → EntryNames image i s j → ⊥) → HasAmong image D j 0
none_among image D j none = record {
  entries = [];
  once = tt;
  name = tt;
  all = λ i s e. none i s e.done e.names;
  number = refl;
}

pub counts_none : (image : Image) (D : ℕ → ℕ → Type 0) (room : ℕ) → ((i s : ℕ) → D i s → ⊥) → CountsAmong image D (replicate room 0)
counts_none image D room none = record {
  each = λ j low.
      let long : length {A = ℕ} (replicate room 0) ≡ room = length-replicate room 0 in
      let zero : slice_index (replicate room 0) j ≡ 0 = get_or-replicate room j 0 0 (omega (arith, low, long)) in
      subst (HasAmong image D j) (sym zero) (none_among image D j (λ i s d n. none i s d));
}

module _ (image : Image) (D G : ℕ → ℕ → Type 0) where
  among_same : (j count : ℕ) → ((i s : ℕ) → EntryNames image i s j → G i s → D i s) → ((i s : ℕ) → EntryNames image i s j → D i s → G i s) → HasAmong image D j count → HasAmong image G j count
  among_same j count back on has = record {
    entries = has.entries;
    once = has.once;
    name = each-as (IsAmong image D j) (IsAmong image G j) (λ e is. record { done = on e.0 e.1 is.names is.done; names = is.names }) has.entries has.name;
    all = λ i s is. has.all i s (record { done = back i s is.names is.done; names = is.names });
    number = has.number;
  }

  pub counts_same : (counts : List ℕ) → ((i s j : ℕ) → EntryNames image i s j → G i s → D i s) → ((i s : ℕ) → D i s → G i s) → CountsAmong image D counts → CountsAmong image G counts
  counts_same counts back on are = record { each = λ j low. among_same j (slice_index counts j) (λ i s n g. back i s j n g) (λ i s n d. on i s d) (are.each j low) }

  -- ---- one entry more

  module _ (i s j : ℕ) (names : EntryNames image i s j) (fresh : D i s → ⊥) (here : G i s) (back : (k r h : ℕ) → EntryNames image k r h → G k r → D k r ⊎ ((k ≡ i) × (r ≡ s))) (on : (k r : ℕ) → D k r → G k r)
      (counts : List ℕ) (are : CountsAmong image D counts) where
    more_among : (count : ℕ) → HasAmong image D j count → HasAmong image G j (count + 1)
    more_among count has = record {
      entries = (i, s) ∷ has.entries;
      once = apart-more (i, s) has.entries (λ there. let is : IsAmong image D j (i, s) = each-has (IsAmong image D j) has.entries (i, s) has.name there in fresh is.done) has.once;
      name = (
        record { done = here; names = names },
        each-as (IsAmong image D j) (IsAmong image G j) (λ e is. record { done = on e.0 e.1 is.done; names = is.names }) has.entries has.name,
      );
      all = λ k r is. go k r is.names (back k r j is.names is.done);
      number = omega (arith, has.number);
    }
      where
        go : (k r : ℕ) → EntryNames image k r j → D k r ⊎ ((k ≡ i) × (r ≡ s)) → Has ((i, s) ∷ has.entries) (k, r)
        go k r n (inl d) = inr (has.all k r (record { done = d; names = n }))
        go k r n (inr at) = inl (λ l. (sym at.0 l, sym at.1 l))

    others_among : (k count : ℕ) → k ≢ j → HasAmong image D k count → HasAmong image G k count
    others_among k count other has = among_same k count (λ l r n g. go l r n (back l r k n g)) (λ l r n d. on l r d) has
      where
        go : (l r : ℕ) → EntryNames image l r k → D l r ⊎ ((l ≡ i) × (r ≡ s)) → D l r
        go l r n (inl d) = d
        go l r n (inr at) = absurd (other (sym (subst (λ (x : ℕ). EntryNames image i x k) at.1 (subst (λ (x : ℕ). EntryNames image x r k) at.0 n)).ino ∙ names.ino))

    counts_set : (value : ℕ) → (j < length counts → HasAmong image G j value) → CountsAmong image G (set counts j value)
    counts_set value has = record { each = λ k low. at k (rw (length-set counts j value) at low) (cases_eq k j) }
      where
        at : (k : ℕ) → k < length counts → (k ≡ j) ⊎ (k ≡ j → ⊥) → HasAmong image G k (slice_index (set counts j value) k)
        at k low (inl same) =
            let in_room : j < length counts = subst (λ n. n < length counts) same low in
            let is : slice_index (set counts j value) j ≡ value = get_or-set_same counts j value 0 in_room in
            subst (λ n. HasAmong image G n (slice_index (set counts j value) n)) (sym same) (subst (HasAmong image G j) (sym is) (has in_room))
        at k low (inr other) =
            let stays : slice_index (set counts j value) k ≡ slice_index counts k = get_or-set_other counts j k value 0 other in
            subst (HasAmong image G k) (sym stays) (others_among k (slice_index counts k) other (are.each k low))

    -- it names an inode that others may have named
    pub counts_more : CountsAmong image G (set counts j (slice_index counts j + 1))
    counts_more = counts_set (slice_index counts j + 1) (λ low. more_among (slice_index counts j) (are.each j low))

    -- it names one that no other did
    pub counts_first : ((k r : ℕ) → D k r → EntryNames image k r j → ⊥) → CountsAmong image G (set counts j 1)
    counts_first none = counts_set 1 (λ low. more_among 0 (none_among image D j none))

-- ---- how many there are

each_map : {A B : Type 0} (P : A → Type 0) (Q : B → Type 0) (f : A → B) → ((x : A) → P x → Q (f x)) → (xs : List A) → Each P xs → Each Q (map f xs)
each_map P Q f so [] all = tt
each_map P Q f so (x ∷ xs) all = (so x all.0, each_map P Q f so xs all.1)

apart_map : {A B : Type 0} (P : A → Type 0) (f : A → B) → ((x y : A) → P x → P y → f x ≡ f y → x ≡ y) → (xs : List A) → Each P xs → AreApart xs → AreApart (map f xs)
apart_map P f one [] all apart = tt
apart_map {A = A} P f one (x ∷ xs) all apart = (differ xs all.1 apart.0, apart_map P f one xs all.1 apart.1)
  where
    differ : (ys : List A) → Each P ys → Each (λ y. y ≢ x) ys → Each (λ z. z ≢ f x) (map f ys)
    differ [] each other = tt
    differ (y ∷ ys) each other = (λ same. other.0 (one y x each.0 all.0 same), differ ys each.1 other.1)

-- entries begin at places of their own, 32 words apart, so there are no more of them than fit
pub among_few : (image : Image) (E : ℕ → Type 0) (D : ℕ → ℕ → Type 0) (all left : Set) → 4096 ≤ size_of image 0 → E 0 → IsScanned image E D all left → ((i s : ℕ) → D i s → E i) → (j count : ℕ) →
    HasAmong image D j count → 32 * count ≤ length image
among_few image E D all left some first scanned entered j count named =
    let few : length (map number named.entries) ≤ length (range_with_len 0 (length image / 32)) =
    apart-within (map number named.entries) (range_with_len 0 (length image / 32)) (apart_map (IsAmong image D j) number one named.entries named.name named.once)
    (λ n there. has-range 0 (length image / 32) n (omega arith) (in_image n there)) in
    omega (arith, few, length-map named.entries number, length-range_with_len 0 (length image / 32), named.number)
  where
    place : ℕ × ℕ → ℕ
    place e = entry_place image e.0 e.1 0

    number : ℕ × ℕ → ℕ
    number e = place e / 32

    full : (e : ℕ × ℕ) → IsAmong image D j e → IsFull image (root_of image e.0) (size_of image e.0)
    full e is = is_full image E D all left some first scanned e.0 (entered e.0 e.1 is.done) (inr is.names.directory)

    whole : (e : ℕ × ℕ) → IsAmong image D j e → place e ≡ 32 * number e
    whole e is =
        let at : place e ≡ 512 * node image (root_of image e.0) (height_of (root_of image e.0)) (e.1 / 16) + 32 * (e.1 % 16) =
        place-is image (root_of image e.0) (size_of image e.0) e.1 (full e is) is.names.in_size in
        omega (arith, at)

    within : (e : ℕ × ℕ) → IsAmong image D j e → number e < length image / 32
    within e is =
        let sound : IsSound image (root_of image e.0) (size_of image e.0) =
        is_sound image E D all left some first scanned e.0 (entered e.0 e.1 is.done) (inr is.names.directory) in
        let fits : place e + 32 ≤ length image = place_fits image (root_of image e.0) (size_of image e.0) e.1 sound (full e is) is.names.in_size in
        omega (arith, fits)

    one : (e f : ℕ × ℕ) → IsAmong image D j e → IsAmong image D j f → number e ≡ number f → e ≡ f
    one e f is also equal =
        let same : place e ≡ place f = whole e is ∙ ap (λ n. 32 * n) equal ∙ sym (whole f also) in
        let both : (e.0 ≡ f.0) × (e.1 ≡ f.1) = one_entry image E D all left some first scanned e.0 e.1 j f.0 f.1 j (entered e.0 e.1 is.done) (entered f.0 f.1 also.done) is.names also.names same in
        (λ l. (both.0 l, both.1 l))

    in_image : (n : ℕ) → Has (map number named.entries) n → n < 0 + length image / 32
    in_image n there =
        let low : n < length image / 32 =
        each-has (λ m. m < length image / 32) (map number named.entries) n (each_map (IsAmong image D j) (λ m. m < length image / 32) number within named.entries named.name) there in
        omega (arith, low)

-- ---- at the end

-- D are the entries of the directories that are reached
pub counts_all : (image : Image) (D : ℕ → ℕ → Type 0) (counts : List ℕ) → ((i s : ℕ) → D i s → IsReached image i) → ((i s j : ℕ) → IsReached image i → EntryNames image i s j → D i s) → CountsAmong image D counts →
    AreCounts image counts
counts_all image D counts reached gone are = record { each = λ j low. all j (are.each j low) }
  where
    all : (j : ℕ) {count : ℕ} → HasAmong image D j count → HasNames image j count
    all j has = record {
      entries = has.entries;
      are = record {
        once = has.once;
        name = each-as (IsAmong image D j) (IsNamed image j) (λ e is. record { reached = reached e.0 e.1 is.done; names = is.names }) has.entries has.name;
        all = λ i s is. has.all i s (record { done = gone i s j is.reached is.names; names = is.names });
      };
      number = has.number;
    }
