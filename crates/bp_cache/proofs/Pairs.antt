-- Lists of names and slots.
use Rattle.std.proofs.Common.{◌≡◌, ◌⊎◌, ℕ, zero, suc, ◌+◌, ◌-◌, ◌<◌, ◌≤◌, Bool, true, false, List, [], ◌∷◌, length, take, Option, None, Some, Contains, refl, sym, ◌∙◌, ap, inl, inr, arith}
use Rattle.std.specs.Map.{lookup_entry}
use Rattle.lru.specs.LruCache.{LruCache, put_entries, IsValid}
use Rattle.lru.proofs.CallerLemmas.{Contains-lookup_entry, Contains-remove_entry, Contains-promoted, Contains-put_entries}
use Rattle.bp_limits.specs.CallLimits.{max_name}
use Rattle.bp_layout.specs.Hints.{NameIn}
use Rattle.bp_cache.specs.Names.{AreShort, is_same, slot_in, forgot, recalled, learned}
use Rattle.bp_cache.specs.Same.{same_names}

abbrev pub Pairs : Type 0
Pairs = List (NameIn × ℕ)

-- ---- names are short

pub short-forgot : (name : NameIn) (es : Pairs) → AreShort es → AreShort (forgot name es)
short-forgot name es short e has = short e (Contains-remove_entry (is_same name) es e has)

pub short-recalled : (name : NameIn) (es : Pairs) → AreShort es → AreShort (recalled name es)
short-recalled name es short e has = short e (Contains-promoted (is_same name) es e has)

pub short-put : (c : LruCache NameIn ℕ) (name : NameIn) (slot : ℕ) → AreShort c.entries → length name.1 ≤ max_name → AreShort (put_entries is_same c name slot)
short-put c name slot short low e has = go (Contains-put_entries is_same c name slot e has)
  where
    go : Contains c.entries e ⊎ ((e.1 ≡ slot) × ((e.0 ≡ name) ⊎ ((w : ℕ) × Contains c.entries (e.0, w) × (is_same name e.0 ≡ true)))) → length e.0.1 ≤ max_name
    go (inl was) = short e was
    go (inr (_, inl same)) = rw same low
    go (inr (_, inr there)) = short (e.0, there.0) there.1

-- ---- a name that is not there

pub none-forgot : (name : NameIn) (es : Pairs) → lookup_entry (is_same name) es ≡ None → forgot name es ≡ es
none-forgot name [] none = refl
none-forgot name (e ∷ es) none = go (λ h. none-forgot name es h) (is_same name e.0) refl
  where
    go : (lookup_entry (is_same name) es ≡ None → forgot name es ≡ es) → (b : Bool) → is_same name e.0 ≡ b → forgot name (e ∷ es) ≡ e ∷ es
    go on true at = let never : ◌≡◌ {A = Option (NameIn × ℕ)} (Some e) None = rw at at none in absurd (cc)
    go on false at = rw at (ap (λ rest. e ∷ rest) (on (rw at at none)))

pub none-slot : (name : NameIn) (es : Pairs) → lookup_entry (is_same name) es ≡ None → slot_in name es ≡ None
none-slot name [] none = refl
none-slot name (e ∷ es) none = go (λ h. none-slot name es h) (is_same name e.0) refl
  where
    go : (lookup_entry (is_same name) es ≡ None → slot_in name es ≡ None) → (b : Bool) → is_same name e.0 ≡ b → slot_in name (e ∷ es) ≡ None
    go on true at = let never : ◌≡◌ {A = Option (NameIn × ℕ)} (Some e) None = rw at at none in absurd (cc)
    go on false at = rw at (on (rw at at none))

pub some-slot : (name : NameIn) (es : Pairs) (e : NameIn × ℕ) → lookup_entry (is_same name) es ≡ Some e → slot_in name es ≡ Some e.1
some-slot name [] e some = absurd (cc)
some-slot name (f ∷ es) e some = go (λ h. some-slot name es e h) (is_same name f.0) refl
  where
    go : (lookup_entry (is_same name) es ≡ Some e → slot_in name es ≡ Some e.1) → (b : Bool) → is_same name f.0 ≡ b → slot_in name (f ∷ es) ≡ Some e.1
    go on true at = let here : Some f ≡ Some e = rw at at some in let same : f ≡ e = cc in rw at (ap (λ p. Some p.1) same)
    go on false at = rw at (on (rw at at some))

-- a name that is too long is nowhere
pub long-nowhere : (name : NameIn) (es : Pairs) → AreShort es → max_name < length name.1 → lookup_entry (is_same name) es ≡ None
long-nowhere name es short long = go (lookup_entry (is_same name) es) refl
  where
    go : (o : Option (NameIn × ℕ)) → lookup_entry (is_same name) es ≡ o → lookup_entry (is_same name) es ≡ None
    go None at = at
    go (Some e) at =
        let there = Contains-lookup_entry (is_same name) es e at in
        let low : length e.0.1 ≤ max_name = short e there.0 in
        let same : name ≡ e.0 = same_names name e.0 there.1 in
        let as_long : length name.1 ≡ length e.0.1 = ap (λ n. length n.1) same in
        absurd (omega (arith, low, as_long, long))

pub long-slot : (name : NameIn) (es : Pairs) → AreShort es → max_name < length name.1 → slot_in name es ≡ None
long-slot name es short long = none-slot name es (long-nowhere name es short long)

pub long-recalled : (name : NameIn) (es : Pairs) → AreShort es → max_name < length name.1 → recalled name es ≡ es
long-recalled name es short long = rw (long-nowhere name es short long) refl

pub long-forgot : (name : NameIn) (es : Pairs) → AreShort es → max_name < length name.1 → forgot name es ≡ es
long-forgot name es short long = none-forgot name es (long-nowhere name es short long)

-- ---- a name that is put

one_fewer : (name : NameIn) (es : Pairs) (e : NameIn × ℕ) → lookup_entry (is_same name) es ≡ Some e → length (forgot name es) + 1 ≡ length es
one_fewer name [] e some = absurd (cc)
one_fewer name (f ∷ es) e some = go (λ h. one_fewer name es e h) (is_same name f.0) refl
  where
    go : (lookup_entry (is_same name) es ≡ Some e → length (forgot name es) + 1 ≡ length es) → (b : Bool) → is_same name f.0 ≡ b → length (forgot name (f ∷ es)) + 1 ≡ length (f ∷ es)
    go on true at = rw at (omega arith)
    go on false at = rw at (omega (arith, on (rw at at some)))

take-all : {A : Type 0} (n : ℕ) (xs : List A) → length xs ≤ n → take n xs ≡ xs
take-all zero [] low = refl
take-all zero (x ∷ xs) low = absurd (omega (arith, low))
take-all (suc n) [] low = refl
take-all (suc n) (x ∷ xs) low = ap (λ rest. x ∷ rest) (take-all n xs (omega (arith, low)))

take-prefix : {A : Type 0} (n : ℕ) (x : A) (xs : List A) → 0 < n → take n (x ∷ xs) ≡ x ∷ take (n - 1) xs
take-prefix zero x xs some = absurd (omega (arith, some))
take-prefix (suc n) x xs some = let e : suc n - 1 ≡ n = omega arith in rw e refl

pub put-learned : (c : LruCache NameIn ℕ) (name : NameIn) (slot : ℕ) → IsValid is_same c → put_entries is_same c name slot ≡ learned name slot c.cap c.entries
put-learned c name slot valid = go (lookup_entry (is_same name) c.entries) refl
  where
    go : (o : Option (NameIn × ℕ)) → lookup_entry (is_same name) c.entries ≡ o → put_entries is_same c name slot ≡ learned name slot c.cap c.entries
    go None at = rw at (sym (take-prefix c.cap (name, slot) (forgot name c.entries) valid.2 ∙ ap (λ rest. (name, slot) ∷ take (c.cap - 1) rest) (none-forgot name c.entries at)))
    go (Some e) at =
        let there = Contains-lookup_entry (is_same name) c.entries e at in
        let same : name ≡ e.0 = same_names name e.0 there.1 in
        let fewer : length (forgot name c.entries) + 1 ≡ length c.entries = one_fewer name c.entries e at in
        rw at (ap (λ n. (n, slot) ∷ forgot name c.entries) (sym same) ∙ sym (take-all c.cap ((name, slot) ∷ forgot name c.entries) (omega (arith, fewer, valid.1))))
