-- The numbers that a set lacks, word by word.
use Rattle.std.proofs.Common.{◌≡◌, ℕ, zero, suc, ◌+◌, ◌-◌, ◌*◌, ◌/◌, ◌%◌, ◌^◌, ◌<◌, ◌≤◌, ◌∷◌, min, List, length, Bool, true, false, not, cond, set, get_or, refl, sym, ◌∙◌, ap, arith, inl, inr}
use Rattle.std.specs.Prelude.{eqb}
use Rattle.std.specs.Int.{bit_at, bit_not, w64}
use Rattle.std.specs.Int.Bits.{bit_and}
use Rattle.std.specs.List.{filter, range_with_len}
use Rattle.std.proofs.lemmas.Bool.{cases_eq}
use Rattle.std.proofs.lemmas.List.{get_or-set_same, length-set}
use Rattle.std.proofs.lemmas.Nat.Bits.{bit_at_and, bit_at_not, bit_at_ones, bit_at_ones_above, bit_at-lt}
use Rattle.bp_free.specs.Set.{Set, has, members, IsComplement}
use Rattle.bp_free.specs.Words.{set_in, HoldRoom, IsTurnedOver, ComplementsWord, ReportsEmpty, IsSummary, IsCounted, IsCountedBelow}
use Rattle.bp_free.proofs.Words.{length_in, has_in, room_seen, word_here, word_there, word_is, alone_by}

-- ---- a word

min_with_one : (n : ℕ) → n < 2 → min (1 - n) 1 ≡ 1 - n
min_with_one n low = omega (arith, low)

min_with_none : (n : ℕ) → min n 0 ≡ 0
min_with_none n = omega arith

pub word_turned : (word count mask : ℕ) → word < 2 ^ 64 → count ≤ 64 → mask ≡ 2 ^ count - 1 → IsTurnedOver word count (bit_and (bit_not w64 word) mask)
word_turned word count mask fits within is = rw is (record {
  low = λ k low.
      bit_at_and (bit_not w64 word) (2 ^ count - 1) k
      ∙ ap (λ b. min (bit_at (bit_not w64 word) k) b) (bit_at_ones count k low)
      ∙ ap (λ b. min b 1) (bit_at_not w64 word k fits (omega (arith, low, within)))
      ∙ min_with_one (bit_at word k) (bit_at-lt word k);
  high = λ k high.
      bit_at_and (bit_not w64 word) (2 ^ count - 1) k
      ∙ ap (λ b. min (bit_at (bit_not w64 word) k) b) (bit_at_ones_above count k high)
      ∙ min_with_none (bit_at (bit_not w64 word) k);
})

turned_bit : (n : ℕ) → n < 2 → eqb (1 - n) 1 ≡ not (eqb n 1)
turned_bit zero low = refl
turned_bit (suc zero) low = refl
turned_bit (suc (suc n)) low = absurd (omega (arith, low))

pub turned_holds : (words : List ℕ) (room word old count bits : ℕ) → HoldRoom words room → 64 * word < room → count ≡ min (room - 64 * word) 64 → IsTurnedOver old count bits → HoldRoom (set words word bits) room
turned_holds words room word old count bits hold low size_is turned =
    let size = length-set words word bits in
    let at : word < length words = omega (arith, low, hold.long) in
    record {
      fits = hold.fits;
      long = omega (arith, hold.long, size);
      short = omega (arith, hold.short, size);
      beyond = λ k high. elim (cases_eq (k / 64) word) [
        | inl here ↦
            let beyond : count ≤ k % 64 = omega (arith, high, here, size_is) in
            word_here words word bits k at here ∙ ap (λ n. eqb n 1) (turned.high (k % 64) beyond)
        | inr there ↦ word_there words word bits k there ∙ hold.beyond k high
      ];
    }

pub turned_seen : (words others : List ℕ) (room room_other word old count bits : ℕ) (seen other : Set) → HoldRoom words room → set_in words room ≡ seen → HoldRoom others room_other → set_in others room_other ≡ other →
    64 * word < room → old ≡ get_or others word 0 → count ≡ min (room - 64 * word) 64 → IsTurnedOver old count bits → ComplementsWord other seen (set_in (set words word bits) room) word
turned_seen words others room room_other word old count bits seen other hold view hold_other view_other low read size_is turned =
    let new : List ℕ = set words word bits in
    let holds = turned_holds words room word old count bits hold low size_is turned in
    let at : word < length words = omega (arith, low, hold.long) in
    let size = room_seen words room seen view in
    record {
      room = length_in new room ∙ size;
      inside = λ k within here.
          let before : k % 64 < count = omega (arith, within, here, size, size_is) in
          has_in new room holds k
          ∙ word_here words word bits k at here
          ∙ ap (λ n. eqb n 1) (turned.low (k % 64) before)
          ∙ turned_bit (bit_at old (k % 64)) (bit_at-lt old (k % 64))
          ∙ ap (λ v. not (eqb (bit_at v (k % 64)) 1)) read
          ∙ ap not (sym (word_is others word k here))
          ∙ ap not (sym (has_in others room_other hold_other k))
          ∙ ap (λ s. not (has s k)) view_other;
      others = λ k there.
          has_in new room holds k ∙ word_there words word bits k there ∙ sym (has_in words room hold k) ∙ ap (λ s. has s k) view;
    }

-- a word that is 0 is empty, and another one is not
pub turned_reports : (words : List ℕ) (room word old count bits : ℕ) → HoldRoom words room → 64 * word < room → bits < 2 ^ 64 → count ≡ min (room - 64 * word) 64 → IsTurnedOver old count bits → ReportsEmpty (set_in (set words word bits) room) word (eqb bits 0)
turned_reports words room word old count bits hold low fits size_is turned =
    let at : word < length words = omega (arith, low, hold.long) in
    alone_by (set words word bits) room (set_in (set words word bits) room) word bits
    (turned_holds words room word old count bits hold low size_is turned) refl
    (sym (get_or-set_same words word bits 0 at)) fits (eqb bits 0) refl

-- ---- word by word

-- the words below one have the numbers that another set lacks, and used reports which of these words are not empty
pub record IsMidway (other now used : Set) (word : ℕ) : Type 0 where
  pub room : length now ≡ length other
  pub words : length used ≡ (length other + 63) / 64
  pub each : (i : ℕ) → i / 64 < word → i < length other → has now i ≡ not (has other i)
  pub reported : (at : ℕ) → at < word → ReportsEmpty now at (not (has used at))

twice : (b : Bool) → not (not b) ≡ b
twice true = refl
twice false = refl

in_use : (s : Set) (word i : ℕ) (b : Bool) → ReportsEmpty s word (not b) → i / 64 ≡ word → has s i ≡ true → b ≡ true
in_use s word i true reports here there = refl
in_use s word i false reports here there = absurd (cc (there, reports i here))

-- ---- how many

one_of_two : (b c : Bool) (i n : ℕ) (xs ys : List ℕ) → b ≡ not c → length xs + length ys ≡ n → length (cond b (i ∷ xs) xs) + length (cond c (i ∷ ys) ys) ≡ suc n
one_of_two true true i n xs ys other sum = absurd (cc other)
one_of_two true false i n xs ys other sum = omega (arith, sum)
one_of_two false true i n xs ys other sum = omega (arith, sum)
one_of_two false false i n xs ys other sum = absurd (cc other)

filter_both : (p q : ℕ → Bool) (a n : ℕ) → ((k : ℕ) → a ≤ k → k < a + n → q k ≡ not (p k)) → length (filter q (range_with_len a n)) + length (filter p (range_with_len a n)) ≡ n
filter_both p q a zero other = refl
filter_both p q a (suc n) other =
    one_of_two (q a) (p a) a n (filter q (range_with_len (a + 1) n)) (filter p (range_with_len (a + 1) n))
    (other a (omega arith) (omega arith))
    (filter_both p q (a + 1) n (λ k low high. other k (omega (arith, low)) (omega (arith, high))))

pub count_complement : (other new : Set) → IsComplement other new → length (members new) + length (members other) ≡ length other
count_complement other new complement =
    ap (λ n. length (filter (has new) (range_with_len 0 n)) + length (members other)) complement.room
    ∙ filter_both (has other) (has new) 0 (length other) (λ k low high. complement.each k (omega (arith, high)))

pub counted_complement : (other used_other new used : Set) (count : ℕ) → IsCounted other used_other count → IsComplement other new → IsSummary new used → IsCounted new used (length other - count)
counted_complement other used_other new used count counted complement summary =
    let both = count_complement other new complement in
    record {
      number = omega (arith, both, counted.number);
      fits = omega (arith, counted.fits, complement.room);
      summary = summary;
    }

pub counted_below_complement : (bound : ℕ) (other used_other new used : Set) (count : ℕ) → IsCountedBelow bound other used_other count → IsComplement other new → IsSummary new used → IsCountedBelow bound new used (length other - count)
counted_below_complement bound other used_other new used count below complement summary = record {
  counted = counted_complement other used_other new used count below.counted complement summary;
  low = omega (arith, complement.room, below.low);
}
