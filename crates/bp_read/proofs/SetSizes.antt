-- How many numbers below a bound are in a set.
use Rattle.std.proofs.Common.{◌≡◌, ◌≢◌, ◌⊎◌, ℕ, zero, suc, ◌+◌, ◌<◌, ◌≤◌, List, [], ◌∷◌, length, Bool, true, false, cond, ◌||◌, filter, refl, ◌∙◌, inl, inr, arith}
use Rattle.std.specs.List.{range_with_len}
use Rattle.std.proofs.Math.Dec.{eqb}
use Rattle.std.proofs.lemmas.Bool.Decides.{eqb_tells}
use Rattle.std.proofs.lemmas.List.FromFn.{length-range_with_len}
use Rattle.bp_layout.specs.Free.{numbers_below}

count_cons : (set : ℕ → Bool) (x : ℕ) (xs : List ℕ) → length (filter set (x ∷ xs)) ≡ cond (set x) 1 0 + length (filter set xs)
count_cons set x xs = go (set x)
  where
    go : (b : Bool) → length (cond b (x ∷ filter set xs) (filter set xs)) ≡ cond b 1 0 + length (filter set xs)
    go true = omega arith
    go false = omega arith

pub size_within : (set : ℕ → Bool) (n : ℕ) → length (numbers_below n set) ≤ n
size_within set n = omega (arith, go (range_with_len 0 n), length-range_with_len 0 n)
  where
    one : (b : Bool) → cond b 1 0 ≤ 1
    one true = omega arith
    one false = omega arith

    go : (xs : List ℕ) → length (filter set xs) ≤ length xs
    go [] = omega arith
    go (x ∷ xs) = omega (arith, count_cons set x xs, one (set x), go xs)

-- two sets with nothing in common
pub size_union : (s t : ℕ → Bool) (n : ℕ) → ((b : ℕ) → s b ≡ true → t b ≡ true → ⊥) →
    length (numbers_below n (λ b. s b || t b)) ≡ length (numbers_below n s) + length (numbers_below n t)
size_union s t n apart = go (range_with_len 0 n)
  where
    either : (p q : Bool) → (p ≡ true → q ≡ true → ⊥) → cond (p || q) 1 0 ≡ cond p 1 0 + cond q 1 0
    either true true none = absurd (none refl refl)
    either true false nonene = refl
    either false true none = refl
    either false false none = refl

    go : (xs : List ℕ) → length (filter (λ b. s b || t b) xs) ≡ length (filter s xs) + length (filter t xs)
    go [] = refl
    go (x ∷ xs) = omega (arith, count_cons (λ b. s b || t b) x xs, count_cons s x xs, count_cons t x xs, either (s x) (t x) (apart x), go xs)

pub size_none : (n : ℕ) → length (numbers_below n (λ b. false)) ≡ 0
size_none n = go (range_with_len 0 n)
  where
    go : (xs : List ℕ) → length (filter (λ b. false) xs) ≡ 0
    go [] = refl
    go (x ∷ xs) = go xs

-- the numbers of a range that equal one
absent : (top a n : ℕ) → top < a → length (filter (λ b. eqb b top) (range_with_len a n)) ≡ 0
absent top a zero over = refl
absent top a (suc n) over = count_cons (λ b. eqb b top) a (range_with_len (a + 1) n) ∙ step (eqb_tells a top) (absent top (a + 1) n (omega (arith, over)))
  where
    step : ((eqb a top ≡ true) × (a ≡ top)) ⊎ ((eqb a top ≡ false) × (a ≢ top)) → length (filter (λ b. eqb b top) (range_with_len (a + 1) n)) ≡ 0 →
        cond (eqb a top) 1 0 + length (filter (λ b. eqb b top) (range_with_len (a + 1) n)) ≡ 0
    step (inl is) rest = absurd (omega (arith, is.1, over))
    step (inr other) rest = rw other.0 (omega (arith, rest))

present_once : (top a n : ℕ) → a ≤ top → top < a + n → length (filter (λ b. eqb b top) (range_with_len a n)) ≡ 1
present_once top a zero least most = absurd (omega (arith, least, most))
present_once top a (suc n) least most =
    count_cons (λ b. eqb b top) a (range_with_len (a + 1) n) ∙ step (eqb_tells a top) (λ over. present_once top (a + 1) n over (omega (arith, most)))
  where
    step : ((eqb a top ≡ true) × (a ≡ top)) ⊎ ((eqb a top ≡ false) × (a ≢ top)) → (a + 1 ≤ top → length (filter (λ b. eqb b top) (range_with_len (a + 1) n)) ≡ 1) →
        cond (eqb a top) 1 0 + length (filter (λ b. eqb b top) (range_with_len (a + 1) n)) ≡ 1
    step (inl is) rest = rw is.0 (omega (arith, absent top (a + 1) n (omega (arith, is.1))))
    step (inr other) rest = rw other.0 (omega (arith, rest (omega (arith, least, other.1))))

pub size_one : (top n : ℕ) → top < n → length (numbers_below n (λ b. eqb b top)) ≡ 1
size_one top n low = present_once top 0 n (omega arith) (omega (arith, low))
