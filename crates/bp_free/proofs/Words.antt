-- A set in words: what a write of one bit does to it, and its least number in a word.
use Rattle.std.proofs.Common.{◌≡◌, ◌↔◌, ℕ, zero, suc, ◌+◌, ◌-◌, ◌*◌, ◌/◌, ◌%◌, ◌^◌, ◌<◌, ◌≤◌, ◌≢◌, min, max, List, length, Bool, true, false, set, replicate, get_or, refl, sym, ◌∙◌, ap, subst, arith, inl, inr}
use Rattle.std.specs.Prelude.{eqb}
use Rattle.std.specs.Int.{bit_at, bit_not, w64, trailing_zeros}
use Rattle.std.specs.Int.Bits.{bit_and, bit_or, and_zero_l}
use Rattle.std.proofs.lemmas.Bool.{cases_eq, cases_lt, eqb-true}
use Rattle.std.proofs.lemmas.List.{get_or_read, get_or-set_same, get_or-set_other, get_or_past, get_or-replicate, length-set, length-replicate, ext_get_or}
use Rattle.std.proofs.lemmas.List.FromFn.{length-map-range_with_len, get_or-map-range_with_len}
use Rattle.std.proofs.lemmas.Nat.Bits.{bit_at-zero, bit_at-trailing_zeros, shr_and_one, bit_at_set_same, bit_at_set_other, bit_at_clear_same, bit_at_clear_other, bit_at-lt, bit_at_and, bit_at_or, bit_at_mask_inside, bit_at_mask_below, bit_at_mask_above, same_from_bits}
use Rattle.std.proofs.Math.Nat.{le-mul_of_pos_right}
use Rattle.std.proofs.lemmas.Nat.{and_le_r, pow_pos, pow-add}
use Rattle.bp_free.specs.Set.{Set, has, with, without, empty, IsLeast, Fills}
use Rattle.bp_free.specs.Words.{word_has, set_in, HoldRoom, IsLowestBit, IsLeastInWord, IsEmptyWord, ReportsEmpty, ReportsAlone}

-- the word of number i with its bit set, and with it cleared
abbrev pub set_bit : List ℕ → ℕ → ℕ
set_bit words i = bit_or (get_or words (i / 64) 0) (1 * 2 ^ (i % 64) % 2 ^ 64)

abbrev pub clear_bit : List ℕ → ℕ → ℕ
clear_bit words i = bit_and (get_or words (i / 64) 0) (bit_not w64 (1 * 2 ^ (i % 64) % 2 ^ 64))

pub length_in : (words : List ℕ) (room : ℕ) → length (set_in words room) ≡ room
unfolding set_in
length_in words room = length-map-range_with_len (word_has words) 0 room

has_low : (words : List ℕ) (room i : ℕ) → i < room → has (set_in words room) i ≡ word_has words i
unfolding set_in
has_low words room i low = get_or-map-range_with_len (word_has words) 0 room i i false low (omega arith)

pub has_in : (words : List ℕ) (room : ℕ) → HoldRoom words room → (i : ℕ) → has (set_in words room) i ≡ word_has words i
has_in words room hold i =
    elim (cases_lt i room) [
      | inl low ↦ has_low words room i low
      | inr high ↦
          let long : length (set_in words room) ≡ room = length_in words room in
          get_or_past (set_in words room) i false (omega (arith, long, high)) ∙ sym (hold.beyond i high)
    ]

-- ---- one bit

pub word_here : (words : List ℕ) (at w k : ℕ) → at < length words → k / 64 ≡ at → word_has (set words at w) k ≡ eqb (bit_at w (k % 64)) 1
unfolding word_has
word_here words at w k low here =
    ap (λ v. eqb (bit_at v (k % 64)) 1) (ap (λ j. get_or (set words at w) j 0) here ∙ get_or-set_same words at w 0 low)

pub word_there : (words : List ℕ) (at w k : ℕ) → k / 64 ≢ at → word_has (set words at w) k ≡ word_has words k
unfolding word_has
word_there words at w k other = ap (λ v. eqb (bit_at v (k % 64)) 1) (get_or-set_other words at (k / 64) w 0 other)

pub word_is : (words : List ℕ) (at k : ℕ) → k / 64 ≡ at → word_has words k ≡ eqb (bit_at (get_or words at 0) (k % 64)) 1
unfolding word_has
word_is words at k here = ap (λ j. eqb (bit_at (get_or words j 0) (k % 64)) 1) here

other_bit : (i k : ℕ) → k ≢ i → k / 64 ≡ i / 64 → k % 64 ≢ i % 64
other_bit i k other here same = other (omega (arith, here, same))

-- one number is b afterwards, and each other one as before
pub record Changes (old new : List ℕ) (i : ℕ) (b : Bool) : Type 0 where
  pub length : length new ≡ length old
  pub here : word_has new i ≡ b
  pub others : (k : ℕ) → k ≢ i → word_has new k ≡ word_has old k

pub set_changes : (words : List ℕ) (i : ℕ) → i / 64 < length words → Changes words (set words (i / 64) (set_bit words i)) i true
set_changes words i low =
    let within : i % 64 < 64 = omega arith in
    record {
      length = length-set words (i / 64) (set_bit words i);
      here = word_here words (i / 64) (set_bit words i) i low refl ∙ ap (λ n. eqb n 1) (bit_at_set_same w64 (get_or words (i / 64) 0) (i % 64) within);
      others = λ k other. elim (cases_eq (k / 64) (i / 64)) [
        | inl here ↦
            word_here words (i / 64) (set_bit words i) k low here
            ∙ ap (λ n. eqb n 1) (bit_at_set_other w64 (get_or words (i / 64) 0) (i % 64) within (k % 64) (other_bit i k other here))
            ∙ sym (word_is words (i / 64) k here)
        | inr there ↦ word_there words (i / 64) (set_bit words i) k there
      ];
    }

pub clear_changes : (words : List ℕ) (i : ℕ) → i / 64 < length words → Changes words (set words (i / 64) (clear_bit words i)) i false
clear_changes words i low =
    let within : i % 64 < 64 = omega arith in
    record {
      length = length-set words (i / 64) (clear_bit words i);
      here = word_here words (i / 64) (clear_bit words i) i low refl ∙ ap (λ n. eqb n 1) (bit_at_clear_same w64 (get_or words (i / 64) 0) (i % 64) within);
      others = λ k other. elim (cases_eq (k / 64) (i / 64)) [
        | inl here ↦
            word_here words (i / 64) (clear_bit words i) k low here
            ∙ ap (λ n. eqb n 1) (bit_at_clear_other w64 (get_or words (i / 64) 0) (i % 64) within (k % 64) (omega arith) (other_bit i k other here))
            ∙ sym (word_is words (i / 64) k here)
        | inr there ↦ word_there words (i / 64) (clear_bit words i) k there
      ];
    }

pub changed_room : (old new : List ℕ) (room i : ℕ) (b : Bool) → HoldRoom old room → i < room → Changes old new i b → HoldRoom new room
changed_room old new room i b hold low change = record {
  fits = hold.fits;
  long = omega (arith, change.length, hold.long);
  short = omega (arith, change.length, hold.short);
  beyond = λ k high. change.others k (λ same. absurd (omega (arith, same, high, low))) ∙ hold.beyond k high;
}

pub changed_set : (old new : List ℕ) (room i : ℕ) (b : Bool) → i < room → Changes old new i b → set_in new room ≡ set (set_in old room) i b
changed_set old new room i b low change =
    let long_old : length (set_in old room) ≡ room = length_in old room in
    let long_new : length (set_in new room) ≡ room = length_in new room in
    let long_set : length (set (set_in old room) i b) ≡ length (set_in old room) = length-set (set_in old room) i b in
    ext_get_or false _ _ (omega (arith, long_old, long_new, long_set))
    (λ k low_k.
    let below_room : k < room = omega (arith, low_k, long_new) in
    elim (cases_eq k i) [
      | inl same ↦
          has_low new room k below_room
          ∙ ap (word_has new) same ∙ change.here
          ∙ sym (ap (λ j. get_or (set (set_in old room) i b) j false) same ∙ get_or-set_same (set_in old room) i b false (omega (arith, low, long_old)))
      | inr other ↦
          has_low new room k below_room
          ∙ change.others k other
          ∙ sym (get_or-set_other (set_in old room) i k b false other ∙ has_low old room k below_room)
    ])

-- ---- no bit

pub no_word : (n i : ℕ) → word_has (replicate n 0) i ≡ false
unfolding word_has
no_word n i =
    elim (cases_lt (i / 64) n) [
      | inl low ↦ ap (λ v. eqb (bit_at v (i % 64)) 1) (get_or-replicate n (i / 64) 0 0 low) ∙ ap (λ n. eqb n 1) (bit_at-zero (i % 64))
      | inr high ↦
          let long : length {A = ℕ} (replicate n 0) ≡ n = length-replicate n 0 in
          ap (λ v. eqb (bit_at v (i % 64)) 1) (get_or_past (replicate n 0) (i / 64) 0 (omega (arith, long, high))) ∙ ap (λ n. eqb n 1) (bit_at-zero (i % 64))
    ]

pub empty_set : (n room : ℕ) → set_in (replicate n 0) room ≡ empty room
empty_set n room =
    let long : length (set_in (replicate n 0) room) ≡ room = length_in (replicate n 0) room in
    let long_empty : length (empty room) ≡ room = length-replicate room false in
    ext_get_or false _ _ (omega (arith, long, long_empty))
    (λ k low.
    let below_room : k < room = omega (arith, low, long) in
    has_low (replicate n 0) room k below_room ∙ no_word n k ∙ sym (get_or-replicate room k false false below_room))

-- ---- the least number of a word

pub empty_word : (words : List ℕ) (room word : ℕ) → HoldRoom words room → get_or words word 0 ≡ 0 → IsEmptyWord (set_in words room) word
empty_word words room word hold none k here =
    has_in words room hold k ∙ word_is words word k here
    ∙ ap (λ v. eqb (bit_at v (k % 64)) 1) none ∙ ap (λ n. eqb n 1) (bit_at-zero (k % 64))

pub lowest_bit : (w : ℕ) → 0 < w → w < 2 ^ 64 → IsLowestBit w (trailing_zeros w64 w)
lowest_bit w some fits =
    let facts = bit_at-trailing_zeros w64 w some fits in
    record { low = facts.0; is_set = facts.1; first = facts.2 }

pub least_in_word : (words : List ℕ) (room word w bit : ℕ) → HoldRoom words room → w ≡ get_or words word 0 → IsLowestBit w bit → IsLeastInWord (set_in words room) word (64 * word + bit)
least_in_word words room word w bit hold value lowest =
    let low_bit = lowest.low in
    let i : ℕ = 64 * word + bit in
    let place : i / 64 ≡ word = omega (arith, low_bit) in
    let digit : i % 64 ≡ bit = omega (arith, low_bit) in
    let there : word_has words i ≡ true =
    word_is words word i place ∙ ap (λ v. eqb (bit_at v (i % 64)) 1) (sym value)
    ∙ ap (λ d. eqb (bit_at w d) 1) digit ∙ ap (λ n. eqb n 1) lowest.is_set in
    let low : i < room = elim (cases_lt i room) [
      | inl low ↦ low
      | inr high ↦ absurd (cc (there, hold.beyond i high))
    ] in
    record {
      low = omega (arith, low, length_in words room);
      place = place;
      is_in = has_in words room hold i ∙ there;
      first = λ k here before.
          let low_k : k % 64 < bit = omega (arith, here, before, place, digit) in
          has_in words room hold k ∙ word_is words word k here ∙ ap (λ v. eqb (bit_at v (k % 64)) 1) (sym value)
          ∙ ap (λ n. eqb n 1) (lowest.first (k % 64) low_k);
    }

-- ---- the set that is seen

pub room_seen : (words : List ℕ) (room : ℕ) (seen : Set) → set_in words room ≡ seen → room ≡ length seen
room_seen words room seen view = sym (length_in words room) ∙ ap length view

pub word_seen : (words : List ℕ) (room : ℕ) (seen : Set) (i : ℕ) → HoldRoom words room → set_in words room ≡ seen → i < length seen → i / 64 < length words
word_seen words room seen i hold view low = let long = room_seen words room seen view in omega (arith, hold.long, low, long)

pub has_seen : (words : List ℕ) (room : ℕ) (seen : Set) (i v : ℕ) → HoldRoom words room → set_in words room ≡ seen → i < length seen → v ≡ get_or words (i / 64) v → eqb (bit_and (v / 2 ^ (i % 64)) 1) 1 ≡ has seen i
has_seen words room seen i v hold view low read =
    let value : v ≡ get_or words (i / 64) 0 = get_or_read words (i / 64) v (word_seen words room seen i hold view low) read 0 in
    ap (λ n. eqb n 1) (shr_and_one v (i % 64))
    ∙ ap (λ n. eqb (bit_at n (i % 64)) 1) value
    ∙ sym (word_is words (i / 64) i refl)
    ∙ sym (has_in words room hold i)
    ∙ ap (λ s. has s i) view

set_read : (words : List ℕ) (room : ℕ) (seen : Set) (i v : ℕ) → HoldRoom words room → set_in words room ≡ seen → i < length seen → v ≡ get_or words (i / 64) v → Changes words (set words (i / 64) (bit_or v (1 * 2 ^ (i % 64) % 2 ^ 64))) i true
set_read words room seen i v hold view low read =
    let at = word_seen words room seen i hold view low in
    let value : get_or words (i / 64) 0 ≡ v = sym (get_or_read words (i / 64) v at read 0) in
    subst (λ n. Changes words (set words (i / 64) (bit_or n (1 * 2 ^ (i % 64) % 2 ^ 64))) i true) value (set_changes words i at)

-- a word without bits has none without a bit
pub clear_blank : (words : List ℕ) (room : ℕ) (seen : Set) (i v : ℕ) → HoldRoom words room → set_in words room ≡ seen → i < length seen → v ≡ get_or words (i / 64) v → get_or words (i / 64) 0 ≡ 0 → bit_and v (bit_not w64 (1 * 2 ^ (i % 64) % 2 ^ 64)) ≡ 0
clear_blank words room seen i v hold view low read blank =
    let mask : ℕ = bit_not w64 (1 * 2 ^ (i % 64) % 2 ^ 64) in
    ap (λ n. bit_and n mask) (get_or_read words (i / 64) v (word_seen words room seen i hold view low) read 0 ∙ blank) ∙ and_zero_l mask

clear_read : (words : List ℕ) (room : ℕ) (seen : Set) (i v : ℕ) → HoldRoom words room → set_in words room ≡ seen → i < length seen → v ≡ get_or words (i / 64) v → Changes words (set words (i / 64) (bit_and v (bit_not w64 (1 * 2 ^ (i % 64) % 2 ^ 64)))) i false
clear_read words room seen i v hold view low read =
    let at = word_seen words room seen i hold view low in
    let value : get_or words (i / 64) 0 ≡ v = sym (get_or_read words (i / 64) v at read 0) in
    subst (λ n. Changes words (set words (i / 64) (bit_and n (bit_not w64 (1 * 2 ^ (i % 64) % 2 ^ 64)))) i false) value (clear_changes words i at)

pub set_holds : (words : List ℕ) (room : ℕ) (seen : Set) (i v : ℕ) → HoldRoom words room → set_in words room ≡ seen → i < length seen → v ≡ get_or words (i / 64) v → HoldRoom (set words (i / 64) (bit_or v (1 * 2 ^ (i % 64) % 2 ^ 64))) room
set_holds words room seen i v hold view low read =
    let long = room_seen words room seen view in
    changed_room words _ room i true hold (omega (arith, low, long)) (set_read words room seen i v hold view low read)

pub set_seen : (words : List ℕ) (room : ℕ) (seen : Set) (i v : ℕ) → HoldRoom words room → set_in words room ≡ seen → i < length seen → v ≡ get_or words (i / 64) v → set_in (set words (i / 64) (bit_or v (1 * 2 ^ (i % 64) % 2 ^ 64))) room ≡ with seen i
set_seen words room seen i v hold view low read =
    let long = room_seen words room seen view in
    changed_set words _ room i true (omega (arith, low, long)) (set_read words room seen i v hold view low read) ∙ ap (λ s. with s i) view

pub clear_holds : (words : List ℕ) (room : ℕ) (seen : Set) (i v : ℕ) → HoldRoom words room → set_in words room ≡ seen → i < length seen → v ≡ get_or words (i / 64) v → HoldRoom (set words (i / 64) (bit_and v (bit_not w64 (1 * 2 ^ (i % 64) % 2 ^ 64)))) room
clear_holds words room seen i v hold view low read =
    let long = room_seen words room seen view in
    changed_room words _ room i false hold (omega (arith, low, long)) (clear_read words room seen i v hold view low read)

pub clear_seen : (words : List ℕ) (room : ℕ) (seen : Set) (i v : ℕ) → HoldRoom words room → set_in words room ≡ seen → i < length seen → v ≡ get_or words (i / 64) v → set_in (set words (i / 64) (bit_and v (bit_not w64 (1 * 2 ^ (i % 64) % 2 ^ 64)))) room ≡ without seen i
clear_seen words room seen i v hold view low read =
    let long = room_seen words room seen view in
    changed_set words _ room i false (omega (arith, low, long)) (clear_read words room seen i v hold view low read) ∙ ap (λ s. without s i) view

-- words that are all 0
pub empty_holds : (n room : ℕ) → room < 2 ^ 64 → room ≤ 64 * n → 64 * n < room + 64 → HoldRoom (replicate n 0) room
empty_holds n room fits long short =
    let length_is : length {A = ℕ} (replicate n 0) ≡ n = length-replicate n 0 in
    record {
      fits = fits;
      long = omega (arith, long, length_is);
      short = omega (arith, short, length_is);
      beyond = λ i _. no_word n i;
    }

not_fits : (n : ℕ) → bit_not w64 n < 2 ^ 64
not_fits n = omega arith

above_zero : (n : ℕ) → eqb n 0 ≡ false → 0 < n
above_zero zero none = absurd (cc none)
above_zero (suc n) none = omega arith

-- the word without one of its numbers is 0 where that number is alone
pub alone_by : (words : List ℕ) (room : ℕ) (left : Set) (word rest : ℕ) → HoldRoom words room → set_in words room ≡ left → rest ≡ get_or words word 0 → rest < 2 ^ 64 → (b : Bool) → eqb rest 0 ≡ b → ReportsEmpty left word b
alone_by words room left word rest hold view value fits true none =
    subst (λ s. IsEmptyWord s word) view (empty_word words room word hold (sym value ∙ eqb-true _ _ none))
alone_by words room left word rest hold view value fits false more =
    let some : 0 < rest = above_zero rest more in
    let least = least_in_word words room word rest _ hold value (lowest_bit rest some fits) in
    (64 * word + trailing_zeros w64 rest, least.place, sym (ap (λ s. has s (64 * word + trailing_zeros w64 rest)) view) ∙ least.is_in)

pub alone_reports : (words : List ℕ) (room : ℕ) (seen : Set) (i v : ℕ) → HoldRoom words room → set_in words room ≡ seen → i < length seen → v ≡ get_or words (i / 64) v →
    ReportsAlone seen i (eqb (bit_and v (bit_not w64 (1 * 2 ^ (i % 64) % 2 ^ 64))) 0)
alone_reports words room seen i v hold view low read =
    let rest : ℕ = bit_and v (bit_not w64 (1 * 2 ^ (i % 64) % 2 ^ 64)) in
    let new : List ℕ = set words (i / 64) rest in
    let less : rest ≤ bit_not w64 (1 * 2 ^ (i % 64) % 2 ^ 64) = and_le_r v (bit_not w64 (1 * 2 ^ (i % 64) % 2 ^ 64)) in
    alone_by new room (without seen i) (i / 64) rest
    (clear_holds words room seen i v hold view low read) (clear_seen words room seen i v hold view low read)
    (sym (get_or-set_same words (i / 64) rest 0 (word_seen words room seen i hold view low)))
    (omega (arith, less, not_fits (1 * 2 ^ (i % 64) % 2 ^ 64))) (eqb rest 0) refl

pub alone_reports_at : (words : List ℕ) (room : ℕ) (seen : Set) (word bit v : ℕ) → HoldRoom words room → set_in words room ≡ seen → 64 * word + bit < length seen → bit < 64 → v ≡ get_or words word v →
    ReportsAlone seen (64 * word + bit) (eqb (bit_and v (bit_not w64 (1 * 2 ^ bit % 2 ^ 64))) 0)
alone_reports_at words room seen word bit v hold view low low_bit read =
    let place : (64 * word + bit) / 64 ≡ word = omega (arith, low_bit) in
    let digit : (64 * word + bit) % 64 ≡ bit = omega (arith, low_bit) in
    subst (λ d. ReportsAlone seen (64 * word + bit) (eqb (bit_and v (bit_not w64 (1 * 2 ^ d % 2 ^ 64))) 0)) digit
    (alone_reports words room seen (64 * word + bit) v hold view low (subst (λ w. v ≡ get_or words w v) (sym place) read))

-- the least number of a set is that of the first word that is not empty
pub least_seen : (seen : Set) (word i : ℕ) → ((k : ℕ) → k / 64 < word → has seen k ≡ false) → IsLeastInWord seen word i → IsLeast seen i
least_seen seen word i before least = record {
  low = least.low;
  is_in = least.is_in;
  first = λ k below. elim (cases_lt (k / 64) word) [
    | inl low ↦ before k low
    | inr high ↦ least.first k (omega (arith, high, below, least.place)) below
  ];
}

-- ---- a run of numbers that share a word

pub powers_rise : (low more : ℕ) → (1 ≤ 2 ^ low) × (2 ^ low ≤ 2 ^ (low + more))
powers_rise low more =
    let some : 1 ≤ 2 ^ low = omega (arith, pow_pos low) in
    (some, subst (λ n. 2 ^ low ≤ n) (sym (pow-add 2 low more)) (le-mul_of_pos_right (2 ^ low) (pow_pos more)))

-- the bits of a run in a word
abbrev pub run_bits : ℕ → ℕ → ℕ
run_bits first count = 2 ^ (first % 64 + count) - 2 ^ (first % 64)

-- a run joins, and each other number is as before
record Joins (old new : List ℕ) (first count : ℕ) : Type 0 where
  length : length new ≡ length old
  inside : (k : ℕ) → first ≤ k → k < first + count → word_has new k ≡ true
  below : (k : ℕ) → k < first → word_has new k ≡ word_has old k
  above : (k : ℕ) → first + count ≤ k → word_has new k ≡ word_has old k

max_one : (n : ℕ) → n < 2 → max n 1 ≡ 1
max_one n low = omega (arith, low)

max_none : (n : ℕ) → max n 0 ≡ n
max_none n = omega arith

joined_inside : (w first count k : ℕ) → first ≤ k → k < first + count → first % 64 + count ≤ 64 → bit_at (bit_or w (run_bits first count)) (k % 64) ≡ 1
joined_inside w first count k low high one_word =
    bit_at_or w (run_bits first count) (k % 64)
    ∙ ap (λ b. max (bit_at w (k % 64)) b) (bit_at_mask_inside (first % 64) (first % 64 + count) (k % 64) (omega (arith, low, high, one_word)) (omega (arith, low, high, one_word)))
    ∙ max_one (bit_at w (k % 64)) (bit_at-lt w (k % 64))

joined_below : (w first count k : ℕ) → k < first → k / 64 ≡ first / 64 → bit_at (bit_or w (run_bits first count)) (k % 64) ≡ bit_at w (k % 64)
joined_below w first count k low here =
    bit_at_or w (run_bits first count) (k % 64)
    ∙ ap (λ b. max (bit_at w (k % 64)) b) (bit_at_mask_below (first % 64) (first % 64 + count) (k % 64) (omega (arith, low, here)))
    ∙ max_none (bit_at w (k % 64))

joined_above : (w first count k : ℕ) → first + count ≤ k → k / 64 ≡ first / 64 → bit_at (bit_or w (run_bits first count)) (k % 64) ≡ bit_at w (k % 64)
joined_above w first count k high here =
    bit_at_or w (run_bits first count) (k % 64)
    ∙ ap (λ b. max (bit_at w (k % 64)) b) (bit_at_mask_above (first % 64) (first % 64 + count) (k % 64) (omega (arith, high, here)))
    ∙ max_none (bit_at w (k % 64))

run_joins : (words : List ℕ) (first count : ℕ) → first / 64 < length words → first % 64 + count ≤ 64 →
    Joins words (set words (first / 64) (bit_or (get_or words (first / 64) 0) (run_bits first count))) first count
run_joins words first count low one_word =
    let w : ℕ = get_or words (first / 64) 0 in
    let joined : ℕ = bit_or w (run_bits first count) in
    record {
      length = length-set words (first / 64) joined;
      inside = λ k from to.
          word_here words (first / 64) joined k low (omega (arith, from, to, one_word))
          ∙ ap (λ n. eqb n 1) (joined_inside w first count k from to one_word);
      below = λ k before. elim (cases_eq (k / 64) (first / 64)) [
        | inl here ↦
            word_here words (first / 64) joined k low here ∙ ap (λ n. eqb n 1) (joined_below w first count k before here)
            ∙ sym (word_is words (first / 64) k here)
        | inr there ↦ word_there words (first / 64) joined k there
      ];
      above = λ k after. elim (cases_eq (k / 64) (first / 64)) [
        | inl here ↦
            word_here words (first / 64) joined k low here ∙ ap (λ n. eqb n 1) (joined_above w first count k after here)
            ∙ sym (word_is words (first / 64) k here)
        | inr there ↦ word_there words (first / 64) joined k there
      ];
    }

joins_read : (words : List ℕ) (room : ℕ) (seen : Set) (first count v : ℕ) → HoldRoom words room → set_in words room ≡ seen → first < length seen → first % 64 + count ≤ 64 → v ≡ get_or words (first / 64) v →
    Joins words (set words (first / 64) (bit_or v (run_bits first count))) first count
joins_read words room seen first count v hold view low one_word read =
    let at = word_seen words room seen first hold view low in
    let value : get_or words (first / 64) 0 ≡ v = sym (get_or_read words (first / 64) v at read 0) in
    subst (λ n. Joins words (set words (first / 64) (bit_or n (run_bits first count))) first count) value (run_joins words first count at one_word)

pub run_holds : (words : List ℕ) (room : ℕ) (seen : Set) (first count v : ℕ) → HoldRoom words room → set_in words room ≡ seen → 0 < count → first + count ≤ length seen → first % 64 + count ≤ 64 → v ≡ get_or words (first / 64) v →
    HoldRoom (set words (first / 64) (bit_or v (run_bits first count))) room
run_holds words room seen first count v hold view some low one_word read =
    let long = room_seen words room seen view in
    let joins = joins_read words room seen first count v hold view (omega (arith, some, low)) one_word read in
    record {
      fits = hold.fits;
      long = omega (arith, joins.length, hold.long);
      short = omega (arith, joins.length, hold.short);
      beyond = λ k high. joins.above k (omega (arith, low, long, high)) ∙ hold.beyond k high;
    }

pub run_seen : (words : List ℕ) (room : ℕ) (seen : Set) (first count v : ℕ) → HoldRoom words room → set_in words room ≡ seen → 0 < count → first + count ≤ length seen → first % 64 + count ≤ 64 → v ≡ get_or words (first / 64) v →
    Fills first (first + count) seen (set_in (set words (first / 64) (bit_or v (run_bits first count))) room)
run_seen words room seen first count v hold view some low one_word read =
    let new : List ℕ = set words (first / 64) (bit_or v (run_bits first count)) in
    let joins = joins_read words room seen first count v hold view (omega (arith, some, low)) one_word read in
    let holds = run_holds words room seen first count v hold view some low one_word read in
    subst (λ (s : Set). Fills first (first + count) s (set_in new room)) view (record {
      room = length_in new room ∙ sym (length_in words room);
      inside = λ k from to. has_in new room holds k ∙ joins.inside k from to;
      below = λ k before. has_in new room holds k ∙ joins.below k before ∙ sym (has_in words room hold k);
      above = λ k after. has_in new room holds k ∙ joins.above k after ∙ sym (has_in words room hold k);
    })

-- whether none of a run is in, by the bits that the run's word has in common with the run

min_one : (n : ℕ) → n < 2 → min n 1 ≡ n
min_one n low = omega (arith, low)

min_none : (n : ℕ) → min n 0 ≡ 0
min_none n = omega arith

none_min : (n : ℕ) → min 0 n ≡ 0
none_min n = omega arith

one_or_none : (n : ℕ) → n < 2 → eqb n 1 ≡ false → n ≡ 0
one_or_none zero low other = refl
one_or_none (suc zero) low other = absurd (cc (other))
one_or_none (suc (suc n)) low other = absurd (omega (arith, low))

none_there : (w first count k : ℕ) → bit_and w (run_bits first count) ≡ 0 → first ≤ k → k < first + count → first % 64 + count ≤ 64 → bit_at w (k % 64) ≡ 0
none_there w first count k none low high one_word =
    sym (min_one (bit_at w (k % 64)) (bit_at-lt w (k % 64)))
    ∙ ap (λ b. min (bit_at w (k % 64)) b) (sym (bit_at_mask_inside (first % 64) (first % 64 + count) (k % 64) (omega (arith, low, high, one_word)) (omega (arith, low, high, one_word))))
    ∙ sym (bit_at_and w (run_bits first count) (k % 64))
    ∙ ap (λ n. bit_at n (k % 64)) none ∙ bit_at-zero (k % 64)

none_common : (w first count : ℕ) → first % 64 + count ≤ 64 → ((k : ℕ) → first ≤ k → k < first + count → bit_at w (k % 64) ≡ 0) → bit_and w (run_bits first count) ≡ 0
none_common w first count one_word none = same_from_bits (bit_and w (run_bits first count)) 0 (λ i.
    bit_at_and w (run_bits first count) i ∙ elim (cases_lt i (first % 64)) [
      | inl before ↦ ap (λ b. min (bit_at w i) b) (bit_at_mask_below (first % 64) (first % 64 + count) i before) ∙ min_none (bit_at w i)
      | inr from ↦ elim (cases_lt i (first % 64 + count)) [
        | inl to ↦
            let k : ℕ = 64 * (first / 64) + i in
            let digit : k % 64 ≡ i = omega (arith, to, one_word) in
            let out : bit_at w i ≡ 0 = sym (ap (bit_at w) digit) ∙ none k (omega (arith, from)) (omega (arith, to)) in
            ap (λ b. min b (bit_at (run_bits first count) i)) out ∙ none_min (bit_at (run_bits first count) i)
        | inr after ↦ ap (λ b. min (bit_at w i) b) (bit_at_mask_above (first % 64) (first % 64 + count) i after) ∙ min_none (bit_at w i)
      ]
    ] ∙ sym (bit_at-zero i))

pub none_seen : (words : List ℕ) (room : ℕ) (seen : Set) (first count v : ℕ) → HoldRoom words room → set_in words room ≡ seen → 0 < count → first + count ≤ length seen → first % 64 + count ≤ 64 → v ≡ get_or words (first / 64) v →
    (bit_and v (run_bits first count) ≡ 0) ↔ ((k : ℕ) → first ≤ k → k < first + count → has seen k ≡ false)
none_seen words room seen first count v hold view some low one_word read =
    let at = word_seen words room seen first hold view (omega (arith, some, low)) in
    let value : v ≡ get_or words (first / 64) 0 = get_or_read words (first / 64) v at read 0 in
    let reported : (k : ℕ) → first ≤ k → k < first + count → has seen k ≡ eqb (bit_at v (k % 64)) 1 = λ k from to.
    sym (ap (λ s. has s k) view) ∙ has_in words room hold k ∙ word_is words (first / 64) k (omega (arith, from, to, one_word))
    ∙ ap (λ n. eqb (bit_at n (k % 64)) 1) (sym value) in (
      λ none k from to. reported k from to ∙ ap (λ n. eqb n 1) (none_there v first count k none from to one_word),
      λ none. none_common v first count one_word (λ k from to. one_or_none (bit_at v (k % 64)) (bit_at-lt v (k % 64)) (sym (reported k from to) ∙ none k from to)),
    )

-- a number of a word that is not stored, since each word from `stored` on is 0, is no member
pub not_stored : (words : List ℕ) (room : ℕ) (seen : Set) (stored i : ℕ) → HoldRoom words room → set_in words room ≡ seen → ((k : ℕ) → stored ≤ k → get_or words k 0 ≡ 0) → stored ≤ i / 64 → has seen i ≡ false
not_stored words room seen stored i hold view blank high =
    sym (ap (λ s. has s i) view) ∙ has_in words room hold i ∙ word_is words (i / 64) i refl
    ∙ ap (λ w. eqb (bit_at w (i % 64)) 1) (blank (i / 64) high) ∙ ap (λ n. eqb n 1) (bit_at-zero (i % 64))
