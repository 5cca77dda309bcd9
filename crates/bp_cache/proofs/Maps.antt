-- What lists of names and slots know.
use Rattle.std.proofs.Common.{◌≡◌, ◌≢◌, ℕ, zero, suc, ◌<◌, ◌≤◌, Bool, true, false, [], ◌∷◌, length, take, cond, nat_eq, bytes_eq, Option, None, Some, refl, sym, ◌∙◌, ap, arith}
use Rattle.std.specs.Ordering.{nat_cmp, eq_by_cmp}
use Rattle.std.specs.Cmp.{IsTotalOrder, then_total, on_total, nat_cmp_total, both_tied, unsigned_ties}
use Rattle.std.specs.Cmp.Lexicographic.{slice_cmp, lists_ties, nat_list_cmp_total}
use Rattle.std.specs.FinMap.{get, from_entries, get-from_entries, same_map, IsAntisymmetric}
use Rattle.std.specs.FinMap.Entries.{find}
use Rattle.std.specs.Map.{lookup_entry, keys_of}
use Rattle.std.specs.List.{IsDistinct}
use Rattle.std.proofs.lemmas.Map.{lookup-remove_entry}
use Rattle.lru.proofs.CallerLemmas.{Contains-lookup_entry}
use Rattle.bp_limits.specs.CallLimits.{max_name}
use Rattle.bp_layout.specs.Hints.{NameIn, name_in_cmp, Known, Learns}
use Rattle.bp_cache.specs.Names.{AreShort, is_same, slot_in, forgot, recalled, learned}
use Rattle.bp_cache.specs.Forgets.{Forgets}
use Rattle.bp_cache.specs.Same.{same_names, same_equiv}
use Rattle.bp_cache.proofs.Pairs.{Pairs, some-slot, long-slot}

total : IsTotalOrder name_in_cmp
total = then_total (on_total (λ n. n.0) nat_cmp_total) (on_total (λ n. n.1) nat_list_cmp_total)

tied : (a b : NameIn) → is_same a b ≡ eq_by_cmp name_in_cmp a b
tied a b = both_tied (nat_eq a.0 b.0) (bytes_eq a.1 b.1) (nat_cmp a.0 b.0) (slice_cmp nat_cmp a.1 b.1) (unsigned_ties a.0 b.0) (lists_ties nat_cmp unsigned_ties a.1 b.1)

single : IsAntisymmetric name_in_cmp
single a b e = same_names a b (tied a b ∙ rw e refl)

found : (es : Pairs) (name : NameIn) → find name_in_cmp name es ≡ slot_in name es
found [] name = refl
found (e ∷ es) name = rw (sym (tied name e.0), found es name) refl

pub known-slot : (es : Pairs) (name : NameIn) → get (from_entries {R = name_in_cmp} es) name ≡ slot_in name es
known-slot es name = get-from_entries total es name ∙ found es name

-- lists in which each name has the same slot know the same
known-alike : (es fs : Pairs) → ((name : NameIn) → slot_in name es ≡ slot_in name fs) → from_entries {R = name_in_cmp} es ≡ from_entries fs
known-alike es fs alike = same_map total single _ _ (λ name. known-slot es name ∙ alike name ∙ sym (known-slot fs name))

-- ---- other names

other-forgot : (other name : NameIn) (es : Pairs) → is_same other name ≡ false → slot_in other (forgot name es) ≡ slot_in other es
other-forgot other name [] differs = refl
other-forgot other name (e ∷ es) differs = go (other-forgot other name es differs) (is_same name e.0) refl
  where
    go : slot_in other (forgot name es) ≡ slot_in other es → (b : Bool) → is_same name e.0 ≡ b → slot_in other (forgot name (e ∷ es)) ≡ slot_in other (e ∷ es)
    go on true at =
        let same : name ≡ e.0 = same_names name e.0 at in
        let not_here : is_same other e.0 ≡ false = ap (is_same other) (sym same) ∙ differs in
        rw (at, not_here) refl
    go on false at = rw at (ap (cond (is_same other e.0) (Some e.1)) on)

slot-recalled : (other name : NameIn) (es : Pairs) → slot_in other (recalled name es) ≡ slot_in other es
slot-recalled other name es = go (lookup_entry (is_same name) es) refl
  where
    in_prefix : (e : NameIn × ℕ) → name ≡ e.0 → slot_in name es ≡ Some e.1 → (b : Bool) → is_same other e.0 ≡ b → slot_in other (e ∷ forgot name es) ≡ slot_in other es
    in_prefix e same has true at = let here : other ≡ name = same_names other e.0 at ∙ sym same in rw at (sym (ap (λ n. slot_in n es) here ∙ has))
    in_prefix e same has false at = rw at (other-forgot other name es (ap (is_same other) same ∙ at))

    go : (o : Option (NameIn × ℕ)) → lookup_entry (is_same name) es ≡ o → slot_in other (recalled name es) ≡ slot_in other es
    go None at = rw at refl
    go (Some e) at =
        let there = Contains-lookup_entry (is_same name) es e at in
        rw at (in_prefix e (same_names name e.0 there.1) (some-slot name es e at) (is_same other e.0) refl)

from_prefix : (other : NameIn) (slot n : ℕ) (es : Pairs) → slot_in other (take n es) ≡ Some slot → slot_in other es ≡ Some slot
from_prefix other slot zero es has = let none : ◌≡◌ {A = Option ℕ} None (Some slot) = has in absurd (cc)
from_prefix other slot (suc n) [] has = has
from_prefix other slot (suc n) (e ∷ es) has = go (λ h. from_prefix other slot n es h) (is_same other e.0) refl
  where
    go : (slot_in other (take n es) ≡ Some slot → slot_in other es ≡ Some slot) → (b : Bool) → is_same other e.0 ≡ b → slot_in other (e ∷ es) ≡ Some slot
    go on true at = let here : Some e.1 ≡ Some slot = rw at at has in rw at here
    go on false at = rw at (on (rw at at has))

-- ---- what the calls make known

pub recalled-known : (name : NameIn) (es : Pairs) → from_entries {R = name_in_cmp} (recalled name es) ≡ from_entries es
recalled-known name es = known-alike (recalled name es) es (λ other. slot-recalled other name es)

in_room : (name other : NameIn) (slot s room : ℕ) (es : Pairs) → other ≢ name → slot_in other (learned name slot room es) ≡ Some s → slot_in other es ≡ Some s
in_room name other slot s room es differs has = go (is_same other name) refl
  where
    whole : slot_in other ((name, slot) ∷ forgot name es) ≡ Some s
    whole = from_prefix other s room ((name, slot) ∷ forgot name es) has

    go : (b : Bool) → is_same other name ≡ b → slot_in other es ≡ Some s
    go true at = absurd (differs (same_names other name at))
    go false at = sym (other-forgot other name es at) ∙ (rw at at whole)

in_place : (name : NameIn) (slot room : ℕ) (es : Pairs) → 1 ≤ room → slot_in name (learned name slot room es) ≡ Some slot
in_place name slot zero es some = absurd (omega (arith, some))
in_place name slot (suc room) es some = rw (same_equiv.refl name) refl

pub learned-known : (name : NameIn) (slot room : ℕ) (es : Pairs) → 1 ≤ room → Learns (from_entries es) (from_entries (learned name slot room es)) name slot
learned-known name slot room es some = record {
  learned = known-slot (learned name slot room es) name ∙ in_place name slot room es some;
  others = λ other s differs is. known-slot es other ∙ in_room name other slot s room es differs (sym (known-slot (learned name slot room es) other) ∙ is);
}

same_test : (name x y : NameIn) → is_same name x ≡ true → is_same name y ≡ is_same x y
same_test name x y e = same_equiv.congr name x y e

pub forgot-known : (name : NameIn) (es : Pairs) → IsDistinct is_same (keys_of es) → Forgets (from_entries es) (from_entries (forgot name es)) name
forgot-known name es distinct = record {
  gone = known-slot (forgot name es) name ∙ after name ∙ rw (same_equiv.refl name) refl;
  others = λ other slot is. known-slot es other ∙ before other slot (is_same name other) refl (sym (known-slot (forgot name es) other) ∙ is);
}
  where
    after : (other : NameIn) → slot_in other (forgot name es) ≡ cond (is_same name other) None (slot_in other es)
    after other = lookup-remove_entry same_equiv (is_same name) (same_test name) other es distinct

    before : (other : NameIn) (slot : ℕ) (b : Bool) → is_same name other ≡ b → slot_in other (forgot name es) ≡ Some slot → slot_in other es ≡ Some slot
    before other slot true at is =
        let all : slot_in other (forgot name es) ≡ cond (is_same name other) None (slot_in other es) = after other in
        let none : slot_in other (forgot name es) ≡ None = rw at at all in
        let clash : ◌≡◌ {A = Option ℕ} None (Some slot) = sym none ∙ is in absurd (cc)
    before other slot false at is =
        let all : slot_in other (forgot name es) ≡ cond (is_same name other) None (slot_in other es) = after other in
        let same : slot_in other (forgot name es) ≡ slot_in other es = rw at at all in sym same ∙ is

-- a name that is too long was never known
pub none-known : (name : NameIn) (es : Pairs) → length es ≡ 0 → (known : Known) → known ≡ from_entries es → Forgets known known name
none-known name [] none known same = record { gone = ap (λ k. get k name) same ∙ known-slot [] name; others = λ other slot is. is }
none-known name (e ∷ es) none known same = absurd (omega (arith, none))

pub long-known : (name : NameIn) (es : Pairs) → AreShort es → max_name < length name.1 → (known : Known) → known ≡ from_entries es → Forgets known known name
long-known name es short long known same = record {
  gone = ap (λ k. get k name) same ∙ known-slot es name ∙ long-slot name es short long;
  others = λ other slot is. is;
}
