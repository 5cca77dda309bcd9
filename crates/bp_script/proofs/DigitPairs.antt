-- Hexadecimal digits: their values, and the bytes of their pairs.
use Rattle.std.proofs.Common.{◌≡◌, ◌⊎◌, ℕ, ◌+◌, ◌*◌, ◌%◌, ◌<◌, ◌≤◌, List, length, take, drop, slice_index, slice_set, Option, Some, None, Ok, Err, refl, sym, ap, arith, inl, inr, [], slice_index_or, Bool, true, ◌/◌, ◌==◌}
use Rattle.std.specs.Option.{unwrap_or}
use Rattle.std.specs.Result.{result_ok}
use Rattle.std.proofs.lemmas.Bool.{cases_lt, eqb-true}
use Rattle.hex.specs.Hex.{decode_pairs, digit_or_error, hex_digit_value, pair_value, value_at}
use Rattle.hex.specs.declared.error.FromHexError.{FromHexError}
use Rattle.hex.specs.declared.error.FromHexError.TheVariants.{InvalidHexCharacter}
use Rattle.bp_script.specs.declared.digits.TheConstants.{DIGIT_VALUES}
use Rattle.bp_script.proofs.EachByte.{all_below, from_all_below}
use Rattle.hex.proofs.Pairs.{decode_err, decode_step, prepend}

-- the value of a digit, or 16
abbrev pub value_or_none : ℕ → ℕ
value_or_none digit = unwrap_or (hex_digit_value digit) 16

-- ---- the table of values

abbrev pub tabled : ℕ → ℕ
tabled digit = slice_index (slice_index_or DIGIT_VALUES (digit / 8) []) (digit % 8)

agrees : ℕ → Bool
agrees digit = tabled digit == value_or_none digit

all_agree : all_below agrees 256 ≡ true
unfolding all_below agrees
all_agree = refl

pub table_is : (digit : ℕ) → digit < 256 → tabled digit ≡ value_or_none digit
unfolding agrees
table_is digit byte = eqb-true (tabled digit) (value_or_none digit) (from_all_below agrees 256 digit all_agree byte)

-- ---- pairs of digits

pub below_none : (digit v : ℕ) → hex_digit_value digit ≡ Some v → v < 16
below_none digit v is = grind (arith)

value_read : (digit i v : ℕ) → v ≡ value_or_none digit → v < 16 → value_at digit i ≡ Ok v
value_read digit i v is low = go (hex_digit_value digit) is
  where
    go : (o : Option ℕ) → v ≡ unwrap_or o 16 → digit_or_error digit i o ≡ Ok v
    go (Some w) e = ap Ok (sym e)
    go None e = absurd (omega (arith, e, low))

value_foreign : (digit i v : ℕ) → v ≡ value_or_none digit → 16 ≤ v → value_at digit i ≡ Err (InvalidHexCharacter digit i)
value_foreign digit i v is high = go (hex_digit_value digit) refl is
  where
    go : (o : Option ℕ) → hex_digit_value digit ≡ o → v ≡ unwrap_or o 16 → digit_or_error digit i o ≡ Err (InvalidHexCharacter digit i)
    go (Some w) found e = absurd (omega (arith, below_none digit w found, e, high))
    go None found e = refl

pair_foreign : (a b i high low : ℕ) → high ≡ value_or_none a → low ≡ value_or_none b → (16 ≤ high) ⊎ (16 ≤ low)
    → (e : FromHexError) × (pair_value a b i ≡ Err e)
pair_foreign a b i high low is_high is_low which =
    elim (cases_lt high 16) [
      | inl small ↦
          elim which [
            | inl large ↦ absurd (omega (arith, small, large))
            | inr large ↦
                let first = value_read a i high is_high small in
                let second = value_foreign b (i + 1) low is_low large in
                (InvalidHexCharacter b (i + 1), rw (first, second) refl)
          ]
      | inr large ↦
          let first = value_foreign a i high is_high (omega (arith, large)) in
          (InvalidHexCharacter a i, rw first refl)
    ]

-- ---- a step over a text of digits

pub more_decoded : (s out : List ℕ) (i high low : ℕ) → 2 * i + 1 < length s → i < length out
    → high ≡ value_or_none (slice_index s (2 * i)) → low ≡ value_or_none (slice_index s (2 * i + 1)) → high < 16 → low < 16
    → decode_pairs 0 s ≡ prepend (take i out) (decode_pairs (2 * i) (drop (2 * i) s))
    → decode_pairs 0 s ≡ prepend (take (i + 1) (slice_set out i (high % 16 * 16 + low % 16))) (decode_pairs (2 * (i + 1)) (drop (2 * (i + 1)) s))
more_decoded s out i high low fits room is_high is_low small_high small_low so_far =
    let first = value_read (slice_index s (2 * i)) (2 * i) high is_high small_high in
    let second = value_read (slice_index s (2 * i + 1)) (2 * i + 1) low is_low small_low in
    let byte : high * 16 + low ≡ high % 16 * 16 + low % 16 = omega arith in
    let pair : pair_value (slice_index s (2 * i)) (slice_index s (2 * i + 1)) (2 * i) ≡ Ok (high % 16 * 16 + low % 16) = rw (first, second) (ap Ok byte) in
    decode_step s out i (high % 16 * 16 + low % 16) fits room pair so_far

pub foreign_seen : (s out : List ℕ) (i high low : ℕ) → 2 * i + 1 < length s
    → high ≡ value_or_none (slice_index s (2 * i)) → low ≡ value_or_none (slice_index s (2 * i + 1)) → (16 ≤ high) ⊎ (16 ≤ low)
    → decode_pairs 0 s ≡ prepend (take i out) (decode_pairs (2 * i) (drop (2 * i) s))
    → result_ok (decode_pairs 0 s) ≡ None
foreign_seen s out i high low fits is_high is_low which so_far =
    let bad = pair_foreign (slice_index s (2 * i)) (slice_index s (2 * i + 1)) (2 * i) high low is_high is_low which in
    ap result_ok (decode_err s out i bad.0 fits bad.1 so_far)
