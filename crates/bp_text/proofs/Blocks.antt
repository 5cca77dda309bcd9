-- The bytes of a block that are of either of two kinds, as the bits of a mask.
use Rattle.std.proofs.Common.{◌≡◌, ℕ, zero, suc, ◌+◌, ◌%◌, ◌^◌, ◌<◌, ◌≤◌, eqb, cond, Bool, true, false, not, ◌||◌, List, [], ◌∷◌, map, length, take, slice_index, replicate, None, Some, refl, sym, ap, ◌∙◌, arith, bit_or, inl, inr}
use Rattle.std.proofs.lemmas.Bool.{cases_eq}
use Rattle.std.proofs.lemmas.Simd.{mask_l-mod, length-chunk, none_from_empty_mask, run_in_chunk_fails, run_in_chunk_stops, run_in_chunk_le, trailing_mask_l}
use Rattle.std.proofs.lemmas.List.{length-map}
use Rattle.std.specs.List.{prefix_len}
use Rattle.memchr.specs.Find.{IsFirst, Passes, is_byte2}
use lib.Count.{count_trailing_zeros}
use lib.Lanes.{chunk, zip2, mask_l, top}

-- a lane with each bit set where two bytes are the same
abbrev pub same : ℕ → ℕ → ℕ
same a b = cond (eqb a b) 255 0

mark_is : (s t : Bool) → top 7 (bit_or (cond s 255 0) (cond t 255 0)) ≡ (s || t)
mark_is true true = refl
mark_is true false = refl
mark_is false true = refl
mark_is false false = refl

marks_are : (one other n : ℕ) (xs : List ℕ) → length xs ≡ n
    → map (top 7) (zip2 bit_or (zip2 same xs (replicate n one)) (zip2 same xs (replicate n other))) ≡ map (is_byte2 one other) xs
marks_are one other zero [] long = refl
marks_are one other (suc n) [] long = absurd (omega (arith, long))
marks_are one other zero (x ∷ xs) long = absurd (omega (arith, long))
marks_are one other (suc n) (x ∷ xs) long = λ i. mark_is (eqb x one) (eqb x other) i ∷ marks_are one other n xs (omega (arith, long)) i

module _ (p : ℕ → Bool) where
  -- where a bit is set, a byte passes
  all_fail : (xs : List ℕ) → prefix_len (λ x. not (p x)) xs ≡ length xs → mask_l (map p xs) ≡ 0
  all_fail [] whole = refl
  all_fail (x ∷ xs) whole = go (p x) refl (all_fail xs)
    where
      go : (b : Bool) → p x ≡ b → (prefix_len (λ y. not (p y)) xs ≡ length xs → mask_l (map p xs) ≡ 0) → mask_l (map p (x ∷ xs)) ≡ 0
      go true at rest = absurd (omega (arith, rw at at whole))
      go false at rest = rw at (omega (arith, rest (omega (arith, rw at at whole))))

  fails_not : (b : Bool) → b ≡ false → b ≡ true → ⊥
  fails_not true e f = absurd (cc)
  fails_not false e f = absurd (cc)

  module _ (text : List ℕ) (n : ℕ) (room : n ≤ length text) (few : n ≤ 64) where
    pub no_bit : mask_l (map p (chunk 0 n text)) ≡ 0 → IsFirst (Passes p text) 0 n None
    no_bit none k from to = fails_not (p (slice_index text k)) (none_from_empty_mask p text 0 n 0 (omega (arith, room)) none k from (omega (arith, to)))

    pub lowest_bit : 0 < mask_l (map p (chunk 0 n text)) → IsFirst (Passes p text) 0 n (Some (count_trailing_zeros 64 (mask_l (map p (chunk 0 n text)))))
    lowest_bit some =
        let v = chunk 0 n text in
        let long : length v ≡ n = length-chunk 0 n text (omega (arith, room)) in
        let counted = trailing_mask_l p 64 v (omega (arith, long)) some in
        let within : count_trailing_zeros 64 (mask_l (map p v)) ≤ n = run_in_chunk_le p text 0 n _ 0 (omega (arith, room)) counted in
        let low : count_trailing_zeros 64 (mask_l (map p v)) < n =
        elim (cases_eq (count_trailing_zeros 64 (mask_l (map p v))) n) [
          | inl whole ↦ absurd (omega (arith, some, all_fail v (sym counted ∙ whole ∙ sym long)))
          | inr other ↦ omega (arith, within, other)
        ] in
        let at : count_trailing_zeros 64 (mask_l (map p v)) ≡ 0 + count_trailing_zeros 64 (mask_l (map p v)) = omega arith in (
          record {
            low = omega arith;
            high = low;
            before = λ k from to. fails_not (p (slice_index text k)) (run_in_chunk_fails p text 0 n _ 0 (omega (arith, room)) counted k from (omega (arith, to)));
          },
          ap (λ k. p (slice_index text k)) at ∙ run_in_chunk_stops p text 0 n _ 0 (omega (arith, room)) counted low,
        )

-- what the mask of a block reports
pub block_reported : (one other n : ℕ) (text : List ℕ) → n ≤ length text → n ≤ 64
    → mask_l (map (top 7) (zip2 bit_or (zip2 same (take n text) (replicate n one)) (zip2 same (take n text) (replicate n other)))) % 2 ^ 64
    ≡ mask_l (map (is_byte2 one other) (chunk 0 n text))
block_reported one other n text room few =
    let v = chunk 0 n text in
    let long : length v ≡ n = length-chunk 0 n text (omega (arith, room)) in
    ap (λ ms. mask_l ms % 2 ^ 64) (marks_are one other n v long) ∙ mask_l-mod (map (is_byte2 one other) v) 64 (omega (arith, length-map v (is_byte2 one other), long))
