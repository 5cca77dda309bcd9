-- The order of names; and lists in the order of a key, where equal keys are neighbours.
use Rattle.std.proofs.Common.{◌≡◌, ℕ, zero, suc, ◌+◌, ◌-◌, ◌*◌, ◌%◌, ◌^◌, ◌<◌, ◌≤◌, min, List, ◌∷◌, length, false, slice_index_or, refl, sym, ◌∙◌, ap, ap₂, arith, true≢false, Less, Equal, Greater, is_lt}
use Rattle.std.specs.declared.cmp.Ordering.{Ordering}
use Rattle.std.specs.Ordering.{nat_cmp, ordering_then, ordering_reverse}
use Rattle.std.specs.Cmp.{nat_cmp_is}
use Rattle.std.specs.Cmp.Lexicographic.{slice_cmp}
use Rattle.std.specs.FinMap.{nat_cmp-IsAntisymmetric, slice_cmp-IsAntisymmetric}
use Rattle.std.specs.List.Sorted.{IsSortedBy}
use Rattle.std.proofs.lemmas.Cmp.{nat_list_cmp_total}
use Rattle.std.proofs.lemmas.List.Sorted.{ranks_by, sorted_far}
use Rattle.bp_layout.specs.Words.{Image, word}
use Rattle.bp_spelling.specs.Places.{key_word, keys, rest_cmp, name_key, name_cmp}

keys-next : (image : Image) (p k n : ℕ) → keys image p k (suc n) ≡ key_word image p k ∷ keys image p (k + 1) n
unfolding keys
keys-next image p k n = refl

name_key-is : (image : Image) (p : ℕ) → name_key image p ≡ keys image p 0 31
unfolding name_key
name_key-is image p = refl

cmp_next : (image : Image) (a b k : ℕ) → k < 31 →
    rest_cmp image a b k ≡ ordering_then (nat_cmp (key_word image a k) (key_word image b k)) (rest_cmp image a b (k + 1))
cmp_next image a b k low =
    let n : 31 - k ≡ suc (31 - (k + 1)) = omega (arith, low) in
    ap (λ x. slice_cmp nat_cmp (keys image a k x) (keys image b k x)) n
    ∙ ap (λ xs. slice_cmp nat_cmp xs (keys image b k (suc (31 - (k + 1))))) (keys-next image a k (31 - (k + 1)))
    ∙ ap (λ ys. slice_cmp nat_cmp (key_word image a k ∷ keys image a (k + 1) (31 - (k + 1))) ys) (keys-next image b k (31 - (k + 1)))

cmp_step : (image : Image) (a b k : ℕ) (o : Ordering) → k < 31 → o ≡ nat_cmp (key_word image a k) (key_word image b k) →
    rest_cmp image a b k ≡ ordering_then o (rest_cmp image a b (k + 1))
cmp_step image a b k o low is = cmp_next image a b k low ∙ ap (λ x. ordering_then x (rest_cmp image a b (k + 1))) (sym is)

pub cmp_less : (image : Image) (a b k : ℕ) → k < 31 → key_word image a k < key_word image b k → rest_cmp image a b k ≡ Less
cmp_less image a b k low less = cmp_step image a b k Less low (nat_cmp_is _ _ Less less)

pub cmp_greater : (image : Image) (a b k : ℕ) → k < 31 → key_word image b k < key_word image a k → rest_cmp image a b k ≡ Greater
cmp_greater image a b k low less = cmp_step image a b k Greater low (nat_cmp_is _ _ Greater less)

pub cmp_equal : (image : Image) (a b k : ℕ) → k < 31 → key_word image a k ≡ key_word image b k → rest_cmp image a b k ≡ rest_cmp image a b (k + 1)
cmp_equal image a b k low same = cmp_step image a b k Equal low (nat_cmp_is _ _ Equal same)

key_word-later : (image : Image) (place k : ℕ) → 1 ≤ k → key_word image place k ≡ word image (place + 1 + k) % 256 ^ min 8 (word image (place + 1) - 8 * (k - 1))
key_word-later image place zero some = absurd (omega (arith, some))
key_word-later image place (suc part) some =
    let back : part ≡ suc part - 1 = omega arith in
    ap (λ n. word image (place + 1 + suc part) % 256 ^ min 8 (word image (place + 1) - 8 * n)) back

-- the order of the words after the length, in names that are as long
module _ (image : Image) (a b k count : ℕ) (some : 1 ≤ k) (low : k < 31) (first : word image (a + 1) ≡ count) (second : word image (b + 1) ≡ count) where
  part_cmp : (o : Ordering) → o ≡ nat_cmp (word image (a + 1 + k) % 256 ^ min 8 (count - 8 * (k - 1))) (word image (b + 1 + k) % 256 ^ min 8 (count - 8 * (k - 1))) →
      rest_cmp image a b k ≡ ordering_then o (rest_cmp image a b (k + 1))
  part_cmp o is =
      cmp_step image a b k o low (is ∙ ap₂ nat_cmp
      (ap (λ n. word image (a + 1 + k) % 256 ^ min 8 (n - 8 * (k - 1))) (sym first) ∙ sym (key_word-later image a k some))
      (ap (λ n. word image (b + 1 + k) % 256 ^ min 8 (n - 8 * (k - 1))) (sym second) ∙ sym (key_word-later image b k some)))

  pub part_equal : Equal ≡ nat_cmp (word image (a + 1 + k) % 256 ^ min 8 (count - 8 * (k - 1))) (word image (b + 1 + k) % 256 ^ min 8 (count - 8 * (k - 1))) →
      rest_cmp image a b k ≡ rest_cmp image a b (k + 1)
  part_equal is = part_cmp Equal is

  pub part_differs : (o : Ordering) → (o ≡ Equal → ⊥) → o ≡ nat_cmp (word image (a + 1 + k) % 256 ^ min 8 (count - 8 * (k - 1))) (word image (b + 1 + k) % 256 ^ min 8 (count - 8 * (k - 1))) →
      rest_cmp image a b k ≡ o
  part_differs o other is = part_cmp o is ∙ settled o other
    where
      settled : (p : Ordering) → (p ≡ Equal → ⊥) → ordering_then p (rest_cmp image a b (k + 1)) ≡ p
      settled Less differ = refl
      settled Equal differ = absurd (differ refl)
      settled Greater differ = refl

pub cmp_end : (image : Image) (a b k : ℕ) → k ≡ 31 → rest_cmp image a b k ≡ Equal
unfolding keys
cmp_end image a b k end = ap (rest_cmp image a b) end

pub cmp_start : (image : Image) (a b : ℕ) → rest_cmp image a b 0 ≡ name_cmp image a b
cmp_start image a b = ap (λ xs. slice_cmp nat_cmp xs (keys image b 0 31)) (sym (name_key-is image a)) ∙ ap (slice_cmp nat_cmp (name_key image a)) (sym (name_key-is image b))

pub equal_key : (xs ys : List ℕ) → slice_cmp nat_cmp xs ys ≡ Equal → xs ≡ ys
equal_key xs ys same = slice_cmp-IsAntisymmetric nat_cmp-IsAntisymmetric xs ys same

self : (o : Ordering) → o ≡ ordering_reverse o → o ≡ Equal
self Less e = absurd (cc)
self Equal e = refl
self Greater e = absurd (cc)

pub key_equal : (xs ys : List ℕ) → xs ≡ ys → slice_cmp nat_cmp xs ys ≡ Equal
key_equal xs ys same = ap (slice_cmp nat_cmp xs) (sym same) ∙ self (slice_cmp nat_cmp xs xs) (nat_list_cmp_total.antisymm xs xs)

tie : (xs ys : List ℕ) → is_lt (slice_cmp nat_cmp xs ys) ≡ false → is_lt (slice_cmp nat_cmp ys xs) ≡ false → xs ≡ ys
tie xs ys low high = go (slice_cmp nat_cmp xs ys) refl
  where
    go : (o : Ordering) → slice_cmp nat_cmp xs ys ≡ o → xs ≡ ys
    go Less e = absurd (true≢false (sym (ap is_lt e) ∙ low))
    go Equal e = equal_key xs ys e
    go Greater e = absurd (true≢false (sym (ap is_lt (nat_list_cmp_total.antisymm ys xs ∙ ap ordering_reverse e)) ∙ high))

-- where no neighbours have one key, no two have
pub apart_from_neighbours : {A : Type 0} (key : A → List ℕ) (xs : List A) (d : A) → IsSortedBy (λ a b. is_lt (slice_cmp nat_cmp (key a) (key b))) xs →
    ((k : ℕ) → suc k < length xs → key (slice_index_or xs k d) ≡ key (slice_index_or xs (suc k) d) → ⊥) →
    (i j : ℕ) → i < j → j < length xs → key (slice_index_or xs i d) ≡ key (slice_index_or xs j d) → ⊥
apart_from_neighbours {A} key xs d sorted beside i j order high same =
    let first : is_lt (slice_cmp nat_cmp (key (slice_index_or xs (suc i) d)) (key (slice_index_or xs i d))) ≡ false =
    sorted_far (λ a b. is_lt (slice_cmp nat_cmp (key a) (key b))) (ranks_by nat_list_cmp_total key) xs sorted i (suc i) d (omega arith) (omega (arith, order, high)) in
    let far : is_lt (slice_cmp nat_cmp (key (slice_index_or xs j d)) (key (slice_index_or xs (suc i) d))) ≡ false =
    sorted_far (λ a b. is_lt (slice_cmp nat_cmp (key a) (key b))) (ranks_by nat_list_cmp_total key) xs sorted (suc i) j d (omega (arith, order)) high in
    let back : is_lt (slice_cmp nat_cmp (key (slice_index_or xs i d)) (key (slice_index_or xs (suc i) d))) ≡ false =
    ap (λ ys. is_lt (slice_cmp nat_cmp ys (key (slice_index_or xs (suc i) d)))) same ∙ far in
    beside i (omega (arith, order, high)) (tie _ _ back first)
