-- The number that a word of digits stands for.
use Rattle.std.proofs.Common.{◌≡◌, ℕ, ◌+◌, ◌-◌, ◌*◌, ◌^◌, ◌<◌, ◌≤◌, zero, suc, List, [], ◌∷◌, length, take, get_or, Bool, true, false, ◌==◌, ◌&&◌, None, Some, if◌then◌else◌, refl, sym, ◌∙◌, arith, inl, inr, true≢false}
use Rattle.std.proofs.lemmas.Bool.{cases_eq, eq-eqb, eqb-true, le-leb, le-ltb, lt-ltb}
use Rattle.std.proofs.lemmas.Int.Digits.{digits_value-lt, digits_value_more}
use native.Mathlib.Nat.{pow-le-pow_right}
use Rattle.std.proofs.lemmas.Str.Parse.{digits_value-take-le}
use Rattle.std.specs.Char.{digit_value, is_ascii_digit}
use Rattle.std.specs.List.{list_all}
use Rattle.std.specs.Str.Parse.{AllDigits, digits_value}
use Rattle.bp_script.specs.Commands.{is_numeral, number_spelled}
use Rattle.bp_script.proofs.EachByte.{all_below, from_all_below}

agrees : ℕ → Bool
agrees d = if is_ascii_digit d then digit_value d == d - 48 else true

all_agree : all_below agrees 256 ≡ true
unfolding all_below agrees
all_agree = refl

pub digit_is : (d : ℕ) → d < 256 → is_ascii_digit d ≡ true → digit_value d ≡ d - 48
unfolding agrees
digit_is d byte is = eqb-true (digit_value d) (d - 48) (rw is at (from_all_below agrees 256 d all_agree byte))

pub not_empty : (n : ℕ) → (n == 0) ≡ false → 1 ≤ n
not_empty n is =
    elim (cases_eq n 0) [
      | inl e ↦ absurd (true≢false (sym (eq-eqb n 0 e) ∙ is))
      | inr some ↦ omega (arith, some)
    ]

pub number_is : (word : List ℕ) → 1 ≤ length word → length word ≤ 20 → list_all is_ascii_digit word ≡ true → digits_value 10 word < 2 ^ 64
    → number_spelled word ≡ Some (digits_value 10 word)
number_is word some short digits fits =
    rw (le-leb 1 (length word) some, le-leb (length word) 20 short, digits, lt-ltb (digits_value 10 word) 18446744073709551616 fits) refl

pub number_too_large : (word : List ℕ) (i : ℕ) → i < length word
    → 2 ^ 64 ≤ digits_value 10 (take i word) * 10 + digit_value (get_or word i 0) → number_spelled word ≡ None
number_too_large word i inside large =
    let whole : 18446744073709551616 ≤ digits_value 10 word = omega (arith, large, digits_value_more 10 word i inside, digits_value-take-le 10 word (i + 1) (omega arith)) in
    rw (le-ltb (digits_value 10 word) 18446744073709551616 whole) (go (is_numeral word))
  where
    go : (b : Bool) → (if b && false then Some (digits_value 10 word) else None) ≡ None
    go true = refl
    go false = refl

-- ---- nineteen digits

pub is_digit : (d : ℕ) → is_ascii_digit d ≡ true → (48 ≤ d) × (d ≤ 57)
is_digit d is = grind (arith, is)

all_digits : (ds : List ℕ) → ((k : ℕ) → get_or ds k 0 < 256) → list_all is_ascii_digit ds ≡ true → AllDigits 10 ds
all_digits [] bytes all = tt
all_digits (d ∷ ds) bytes all = go (is_ascii_digit d) refl (all_digits ds (λ k. bytes (suc k)))
  where
    go : (b : Bool) → is_ascii_digit d ≡ b → (list_all is_ascii_digit ds ≡ true → AllDigits 10 ds) → AllDigits 10 (d ∷ ds)
    go true at rest = (omega (arith, digit_is d (bytes 0) at, is_digit d at), rest (rw at at all))
    go false at rest = absurd (true≢false (sym (rw at at all)))

-- one more digit fits after so few
pub few_fit : (ds : List ℕ) → ((k : ℕ) → get_or ds k 0 < 256) → list_all is_ascii_digit ds ≡ true → length ds ≤ 18 → digits_value 10 ds * 10 + 9 < 2 ^ 64
few_fit ds bytes all few =
    let below : digits_value 10 ds < 10 ^ length ds = digits_value-lt 10 ds (all_digits ds bytes all) in
    let most : 10 ^ length ds ≤ 10 ^ 18 = pow-le-pow_right {n = 10} (omega arith) few in
    omega (arith, below, most)

pub all_fit : (ds : List ℕ) → ((k : ℕ) → get_or ds k 0 < 256) → list_all is_ascii_digit ds ≡ true → length ds ≤ 19 → digits_value 10 ds < 2 ^ 64
all_fit ds bytes all few =
    let below : digits_value 10 ds < 10 ^ length ds = digits_value-lt 10 ds (all_digits ds bytes all) in
    let most : 10 ^ length ds ≤ 10 ^ 19 = pow-le-pow_right {n = 10} (omega arith) few in
    omega (arith, below, most)

pub bytes_of_prefix : (word : List ℕ) (n : ℕ) → ((k : ℕ) → get_or word k 0 < 256) → (k : ℕ) → get_or (take n word) k 0 < 256
bytes_of_prefix word zero bytes k = omega arith
bytes_of_prefix [] (suc n) bytes k = omega arith
bytes_of_prefix (b ∷ word) (suc n) bytes zero = bytes 0
bytes_of_prefix (b ∷ word) (suc n) bytes (suc k) = bytes_of_prefix word n (λ j. bytes (suc j)) k
