-- How many numbers of a range pass a test.
use Rattle.std.proofs.Common.{◌≡◌, ℕ, zero, suc, ◌+◌, ◌-◌, ◌<◌, ◌≤◌, Bool, true, false, not, ◌==◌, length, filter, inl, inr, ◌⊎◌, refl, sym, ◌∙◌, ap, arith}
use Rattle.std.specs.List.{range_with_len}
use Rattle.std.proofs.lemmas.Bool.{eqb-true, eqb-false}
use Rattle.bp_layout.proofs.Finding.{unequal}

one_more : (p : ℕ → Bool) (first index end : ℕ) → index < end →
    range_with_len (first + index) (end - index) ≡ range_with_len (first + index) (suc (end - (index + 1)))
one_more p first index end inside = let n : end - index ≡ suc (end - (index + 1)) = omega arith in ap (range_with_len (first + index)) n

further : (p : ℕ → Bool) (first index n : ℕ) → length (filter p (range_with_len (first + index + 1) n)) ≡ length (filter p (range_with_len (first + (index + 1)) n))
further p first index n = let same : first + index + 1 ≡ first + (index + 1) = omega arith in ap (λ a. length (filter p (range_with_len a n))) same

counted : (p : ℕ → Bool) (first index end : ℕ) → index < end → p (first + index) ≡ true →
    length (filter p (range_with_len (first + index) (end - index))) ≡ suc (length (filter p (range_with_len (first + (index + 1)) (end - (index + 1)))))
counted p first index end inside passes = rw (one_more p first index end inside, passes) (ap suc (further p first index (end - (index + 1))))

passed_over : (p : ℕ → Bool) (first index end : ℕ) → index < end → p (first + index) ≡ false →
    length (filter p (range_with_len (first + index) (end - index))) ≡ length (filter p (range_with_len (first + (index + 1)) (end - (index + 1))))
passed_over p first index end inside fails = rw (one_more p first index end inside, fails) (further p first index (end - (index + 1)))

-- one number further, counted or not
pub count_on : (p : ℕ → Bool) (names now first index end total : ℕ) → index < end → names + length (filter p (range_with_len (first + index) (end - index))) ≡ total →
    ((p (first + index) ≡ true) × (now ≡ names + 1)) ⊎ ((p (first + index) ≡ false) × (now ≡ names)) → now + length (filter p (range_with_len (first + (index + 1)) (end - (index + 1)))) ≡ total
count_on p names now first index end total inside sum (inl one) = omega (arith, sum, counted p first index end inside one.0, one.1)
count_on p names now first index end total inside sum (inr none) = omega (arith, sum, passed_over p first index end inside none.0, none.1)

pub none_counted : (p : ℕ → Bool) (a n : ℕ) → ((k : ℕ) → a ≤ k → k < a + n → p k ≡ false) → length (filter p (range_with_len a n)) ≡ 0
none_counted p a zero none = refl
none_counted p a (suc n) none = rw (none a (omega arith) (omega arith)) (none_counted p (a + 1) n (λ k low high. none k (omega arith) (omega arith)))

pub some_counted : (p : ℕ → Bool) (a n k : ℕ) → a ≤ k → k < a + n → p k ≡ true → 0 < length (filter p (range_with_len a n))
some_counted p a zero k low high passes = absurd (omega arith)
some_counted p a (suc n) k low high passes = go (λ l h. some_counted p (a + 1) n k l h passes) (p a) refl
  where
    go : (a + 1 ≤ k → k < a + 1 + n → 0 < length (filter p (range_with_len (a + 1) n))) → (b : Bool) → p a ≡ b → 0 < length (filter p (range_with_len a (suc n)))
    go rest true at = rw at (omega arith)
    go rest false at = rw at (later rest (a == k) refl)
      where
        later : (a + 1 ≤ k → k < a + 1 + n → 0 < length (filter p (range_with_len (a + 1) n))) → (c : Bool) → (a == k) ≡ c → 0 < length (filter p (range_with_len (a + 1) n))
        later rest true is = absurd (clash (eqb-true a k is))
          where
            clash : a ≡ k → ⊥
            clash same = let t : true ≡ false = sym passes ∙ ap p (sym same) ∙ at in cc
        later rest false is = rest (omega (arith, eqb-false a k is)) (omega arith)

-- a number is 0, or is not
pub is_some : (n : ℕ) → (n ≡ 0 → ⊥) → not (n == 0) ≡ true
is_some n other = ap not (unequal n 0 other)

pub is_none : (n : ℕ) → n ≡ 0 → not (n == 0) ≡ false
is_none n none = rw none refl
