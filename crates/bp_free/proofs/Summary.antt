-- The summary of a set, a number for each word that is not empty, and the count.
use Rattle.std.proofs.Common.{◌≡◌, ◌⊎◌, ℕ, ◌+◌, ◌-◌, ◌/◌, ◌%◌, ◌^◌, ◌<◌, ◌≤◌, ◌≢◌, [], length, Bool, true, false, refl, sym, ◌∙◌, ap, arith, inl, inr}
use Rattle.std.proofs.lemmas.Bool.{cases_eq, cases_lt}
use Rattle.std.proofs.lemmas.List.{length-set, length-replicate, get_or-replicate}
use Rattle.bp_free.specs.Set.{Set, has, members, with, without, empty, IsLeast, Fills}
use Rattle.bp_free.specs.Words.{IsSummary, IsCounted, IsCountedBelow, IsEmptyWord, ReportsAlone}
use Rattle.bp_free.proofs.Members.{has_past, has_with_same, has_with_other, has_without_same, has_without_other, members_empty, members_none, count_with, count_without, count_less, count_most, count_filled}

-- ---- cases

both : {b : Bool} → b ≡ true → b ≡ false → ⊥
both yes' no' = cc

pub has_low : (s : Set) (i : ℕ) → has s i ≡ true → i < length s
has_low s i there = elim (cases_lt i (length s)) [ inl low ↦ low | inr past ↦ absurd (both there (has_past s i past)) ]

pub lacks : (s : Set) (i : ℕ) → (has s i ≡ true → ⊥) → has s i ≡ false
lacks s i never = lacks_test (has s i) never
  where
    lacks_test : (b : Bool) → (b ≡ true → ⊥) → b ≡ false
    lacks_test true never = absurd (never refl)
    lacks_test false never = refl

pub has_empty : (room i : ℕ) → has (empty room) i ≡ false
has_empty room i =
    let long : length (empty room) ≡ room = length-replicate room false in
    elim (cases_lt i room) [
      | inl low ↦ get_or-replicate room i false false low
      | inr past ↦ has_past (empty room) i (omega (arith, past, long))
    ]

-- ---- the summary

word_low : (s used : Set) (i : ℕ) → IsSummary s used → i < length s → i / 64 < length used
word_low s used i sum low = omega (arith, low, sum.room)

summary_with : (s used : Set) (i : ℕ) → IsSummary s used → i < length s → IsSummary (with s i) (with used (i / 64))
summary_with s used i sum low =
    let long = length-set s i true in
    let long_used = length-set used (i / 64) true in
    let place = word_low s used i sum low in
    record {
      room = omega (arith, sum.room, long, long_used);
      all = λ k there. elim (cases_eq (k / 64) (i / 64)) [
        | inl here ↦ ap (has (with used (i / 64))) here ∙ has_with_same used (i / 64) place
        | inr other ↦
            let apart : k ≢ i = λ same. other (ap (λ j. j / 64) same) in
            has_with_other used (i / 64) (k / 64) other ∙ sum.all k (sym (has_with_other s i k apart) ∙ there)
      ];
      some = λ word there. elim (cases_eq word (i / 64)) [
        | inl here ↦ (i, sym here, has_with_same s i low)
        | inr other ↦
            let found = sum.some word (sym (has_with_other used (i / 64) word other) ∙ there) in
            let apart : found.0 ≢ i = λ same. other (sym found.1 ∙ ap (λ j. j / 64) same) in
            (found.0, found.1, has_with_other s i found.0 apart ∙ found.2)
      ];
    }

still : (s : Set) (i k : ℕ) → i < length s → has (without s i) k ≡ true → (k ≢ i) × (has s k ≡ true)
still s i k low there =
    let apart : k ≢ i = λ same. both (sym (ap (has (without s i)) same) ∙ there) (has_without_same s i low) in
    (apart, sym (has_without_other s i k apart) ∙ there)

summary_without_last : (s used : Set) (i : ℕ) → IsSummary s used → i < length s → IsEmptyWord (without s i) (i / 64) → IsSummary (without s i) (without used (i / 64))
summary_without_last s used i sum low none =
    let long = length-set s i false in
    let long_used = length-set used (i / 64) false in
    let place = word_low s used i sum low in
    record {
      room = omega (arith, sum.room, long, long_used);
      all = λ k there.
          let other : k / 64 ≢ i / 64 = λ here. both there (none k here) in
          has_without_other used (i / 64) (k / 64) other ∙ sum.all k (still s i k low there).1;
      some = λ word there.
          let in_use = still used (i / 64) word place there in
          let found = sum.some word in_use.1 in
          let apart : found.0 ≢ i = λ same. in_use.0 (sym found.1 ∙ ap (λ j. j / 64) same) in
          (found.0, found.1, has_without_other s i found.0 apart ∙ found.2);
    }

summary_without : (s used : Set) (i : ℕ) → IsSummary s used → i < length s → ReportsAlone s i false → IsSummary (without s i) used
summary_without s used i sum low other_is =
    let long = length-set s i false in
    record {
      room = omega (arith, sum.room, long);
      all = λ k there. sum.all k (still s i k low there).1;
      some = λ word there. elim (cases_eq word (i / 64)) [
        | inl here ↦ (other_is.0, other_is.1 ∙ sym here, other_is.2)
        | inr other ↦
            let found = sum.some word there in
            let apart : found.0 ≢ i = λ same. other (sym found.1 ∙ ap (λ j. j / 64) same) in
            (found.0, found.1, has_without_other s i found.0 apart ∙ found.2)
      ];
    }

-- ---- with the count

pub counted_empty : (room words : ℕ) → room ≤ 2 ^ 32 → words ≡ (room + 63) / 64 → IsCounted (empty room) (empty words) 0
counted_empty room words fits size =
    let long : length (empty room) ≡ room = length-replicate room false in
    let long_words : length (empty words) ≡ words = length-replicate words false in
    record {
      number = sym (ap length (members_empty room));
      fits = omega (arith, fits, long);
      summary = record {
        room = long_words ∙ size ∙ sym (ap (λ n. (n + 63) / 64) long);
        all = λ i there. absurd (both there (has_empty room i));
        some = λ word there. absurd (both there (has_empty words word));
      };
    }

pub counted_with : (s used new new_used : Set) (count i : ℕ) → IsCounted s used count → new ≡ with s i → new_used ≡ with used (i / 64) → i < length s → has s i ≡ false → IsCounted new new_used (count + 1)
counted_with s used new new_used count i counted is used_is low out =
    let more = count_with s i low out in
    let long = length-set s i true in
    rw (is, used_is) (record {
      number = omega (arith, counted.number, more);
      fits = omega (arith, counted.fits, long);
      summary = summary_with s used i counted.summary low;
    })

pub counted_without_last : (s used new new_used : Set) (count i : ℕ) → IsCounted s used count → new ≡ without s i → new_used ≡ without used (i / 64) → i < length s → has s i ≡ true → ReportsAlone s i true → IsCounted new new_used (count - 1)
counted_without_last s used new new_used count i counted is used_is low there none =
    let less = count_without s i low there in
    let long = length-set s i false in
    rw (is, used_is) (record {
      number = omega (arith, counted.number, less);
      fits = omega (arith, counted.fits, long);
      summary = summary_without_last s used i counted.summary low none;
    })

pub counted_without : (s used new : Set) (count i : ℕ) → IsCounted s used count → new ≡ without s i → i < length s → has s i ≡ true → ReportsAlone s i false → IsCounted new used (count - 1)
counted_without s used new count i counted is low there other_is =
    let less = count_without s i low there in
    let long = length-set s i false in
    rw is (record {
      number = omega (arith, counted.number, less);
      fits = omega (arith, counted.fits, long);
      summary = summary_without s used i counted.summary low other_is;
    })

-- the same below the bound of the kind

pub counted_below_empty : (bound room words : ℕ) → bound ≤ 2 ^ 32 → room ≤ bound → words ≡ (room + 63) / 64 → IsCountedBelow bound (empty room) (empty words) 0
counted_below_empty bound room words fits within size =
    let long : length (empty room) ≡ room = length-replicate room false in
    record {
      counted = counted_empty room words (omega (arith, fits, within)) size;
      low = omega (arith, long, within);
    }

pub counted_below_with : (bound : ℕ) (s used new new_used : Set) (count i : ℕ) → IsCountedBelow bound s used count → new ≡ with s i → new_used ≡ with used (i / 64) → i < length s → has s i ≡ false → IsCountedBelow bound new new_used (count + 1)
counted_below_with bound s used new new_used count i below is used_is low out =
    let long = ap length is ∙ length-set s i true in
    record {
      counted = counted_with s used new new_used count i below.counted is used_is low out;
      low = omega (arith, long, below.low);
    }

pub one_there : (s used : Set) (count i : ℕ) → IsCounted s used count → i < length s → has s i ≡ true → 1 ≤ count
one_there s used count i counted low there = let less = count_without s i low there in omega (arith, counted.number, less)

pub one_fits : (s used : Set) (count i : ℕ) → IsCounted s used count → i < length s → has s i ≡ false → count + 1 ≤ 2 ^ 32
one_fits s used count i counted low out = let less = count_less s i low out in omega (arith, counted.number, counted.fits, less)

-- ---- the least number

-- a set without members has no number
pub none_in : (s : Set) → members s ≡ [] → (i : ℕ) → has s i ≡ false
none_in s none i = lacks s i (λ there.
    let less = count_without s i (has_low s i there) there in
    let long : length (members s) ≡ 0 = ap length none in
    omega (arith, less, long))

pub none_used : (s used : Set) → IsSummary s used → ((word : ℕ) → has used word ≡ false) → members s ≡ []
none_used s used sum none = members_none s (λ i. lacks s i (λ there. both (sum.all i there) (none (i / 64))))

pub none_before : (s used : Set) (word : ℕ) → IsSummary s used → IsLeast used word → (k : ℕ) → k / 64 < word → has s k ≡ false
none_before s used word sum least k low = lacks s k (λ there. both (sum.all k there) (least.first (k / 64) low))

pub not_empty : (s used : Set) (word : ℕ) → IsSummary s used → IsLeast used word → IsEmptyWord s word → ⊥
not_empty s used word sum least none =
    let found = sum.some word least.is_in in
    both found.2 (none found.0 found.1)

-- ---- a run of numbers joins

pub fills_none : (from : ℕ) (s : Set) → Fills from from s s
fills_none from s = record {
  room = refl;
  inside = λ k low high. absurd (omega (arith, low, high));
  below = λ k low. refl;
  above = λ k high. refl;
}

pub fills_had : (from i : ℕ) (old s : Set) → Fills from i old s → has s i ≡ true → Fills from (i + 1) old s
fills_had from i old s fills there = record {
  room = fills.room;
  inside = λ k low high. elim (cases_eq k i) [
    | inl same ↦ ap (has s) same ∙ there
    | inr other ↦ fills.inside k low (omega (arith, high, other))
  ];
  below = fills.below;
  above = λ k high. fills.above k (omega (arith, high));
}

pub fills_more : (from i : ℕ) (old s new : Set) → from ≤ i → Fills from i old s → i < length s → new ≡ with s i → Fills from (i + 1) old new
fills_more from i old s new order fills low is =
    let long = length-set s i true in
    rw is (record {
      room = long ∙ fills.room;
      inside = λ k from_k high. elim (cases_eq k i) [
        | inl same ↦ ap (has (with s i)) same ∙ has_with_same s i low
        | inr other ↦ has_with_other s i k other ∙ fills.inside k from_k (omega (arith, high, other))
      ];
      below = λ k low_k. has_with_other s i k (omega (arith, order, low_k)) ∙ fills.below k low_k;
      above = λ k high. has_with_other s i k (omega (arith, high)) ∙ fills.above k (omega (arith, high));
    })

-- a number that was in stays in
fills_keeps : (from to : ℕ) (old new : Set) → Fills from to old new → (k : ℕ) → has old k ≡ true → has new k ≡ true
fills_keeps from to old new fills k there = elim (cases_lt k from) [
  | inl before ↦ fills.below k before ∙ there
  | inr after ↦ elim (cases_lt k to) [
    | inl low ↦ fills.inside k after low
    | inr high ↦ fills.above k high ∙ there
  ]
]

-- a number that is in afterwards was in or is one of the run
fills_had_or : (from to : ℕ) (old new : Set) → Fills from to old new → (k : ℕ) → has new k ≡ true → ((from ≤ k) × (k < to)) ⊎ (has old k ≡ true)
fills_had_or from to old new fills k there = elim (cases_lt k from) [
  | inl before ↦ inr (sym (fills.below k before) ∙ there)
  | inr after ↦ elim (cases_lt k to) [
    | inl low ↦ inl (after, low)
    | inr high ↦ inr (sym (fills.above k high) ∙ there)
  ]
]

summary_filled : (s used new : Set) (from count : ℕ) → IsSummary s used → 0 < count → from % 64 + count ≤ 64 → from + count ≤ length s → Fills from (from + count) s new → IsSummary new (with used (from / 64))
summary_filled s used new from count sum some one_word within fills =
    let long_used = length-set used (from / 64) true in
    let place : from / 64 < length used = word_low s used from sum (omega (arith, some, within)) in
    record {
      room = omega (arith, sum.room, fills.room, long_used);
      all = λ k there. elim (fills_had_or from (from + count) s new fills k there) [
        | inl run ↦
            let here : k / 64 ≡ from / 64 = omega (arith, run.0, run.1, one_word) in
            ap (has (with used (from / 64))) here ∙ has_with_same used (from / 64) place
        | inr was ↦ elim (cases_eq (k / 64) (from / 64)) [
          | inl here ↦ ap (has (with used (from / 64))) here ∙ has_with_same used (from / 64) place
          | inr other ↦ has_with_other used (from / 64) (k / 64) other ∙ sum.all k was
        ]
      ];
      some = λ word there. elim (cases_eq word (from / 64)) [
        | inl here ↦ (from, sym here, fills.inside from (omega arith) (omega (arith, some)))
        | inr other ↦
            let found = sum.some word (sym (has_with_other used (from / 64) word other) ∙ there) in
            (found.0, found.1, fills_keeps from (from + count) s new fills found.0 found.2)
      ];
    }

pub counted_filled : (s used new new_used : Set) (count from more : ℕ) → IsCounted s used count → 0 < more → from % 64 + more ≤ 64 → from + more ≤ length s →
    ((k : ℕ) → from ≤ k → k < from + more → has s k ≡ false) → Fills from (from + more) s new → new_used ≡ with used (from / 64) → IsCounted new new_used (count + more)
counted_filled s used new new_used count from more counted some one_word within none fills used_is =
    let size = count_filled from (from + more) s new (omega arith) within none fills in
    rw used_is (record {
      number = omega (arith, counted.number, size);
      fits = omega (arith, counted.fits, fills.room);
      summary = summary_filled s used new from more counted.summary some one_word within fills;
    })

pub counted_below_filled : (bound : ℕ) (s used new new_used : Set) (count from more : ℕ) → IsCountedBelow bound s used count → 0 < more → from % 64 + more ≤ 64 → from + more ≤ length s →
    ((k : ℕ) → from ≤ k → k < from + more → has s k ≡ false) → Fills from (from + more) s new → new_used ≡ with used (from / 64) → IsCountedBelow bound new new_used (count + more)
counted_below_filled bound s used new new_used count from more below some one_word within none fills used_is = record {
  counted = counted_filled s used new new_used count from more below.counted some one_word within none fills used_is;
  low = omega (arith, fills.room, below.low);
}

pub many_fit : (s used : Set) (count from more : ℕ) (new : Set) → IsCounted s used count → from + more ≤ length s →
    ((k : ℕ) → from ≤ k → k < from + more → has s k ≡ false) → Fills from (from + more) s new → count + more ≤ 2 ^ 32
many_fit s used count from more new counted within none fills =
    let size = count_filled from (from + more) s new (omega arith) within none fills in
    let most = count_most new in
    omega (arith, size, most, counted.number, counted.fits, fills.room)
