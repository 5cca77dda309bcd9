-- The calls of one number after another.
use Rattle.std.proofs.Common.{◌≡◌, ℕ, ◌+◌, ◌-◌, ◌<◌, List, ◌++◌, flat_map, sym, ◌∙◌, subst, ap, arith, append-nil}
use Rattle.std.specs.Prelude.{All}
use Rattle.std.specs.List.{range_with_len}
use Rattle.std.proofs.lemmas.Grind.{flat_map-append}
use Rattle.bp_free.proofs.Members.{range_split}
use Rattle.bp_plain.specs.Calls.{Call}
use Rattle.bp_export.proofs.Prefixes.{all_back, all_prefix}

module _ (calls : ℕ → List Call) where
  abbrev pub calls_until : ℕ → List Call
  calls_until k = flat_map calls (range_with_len 0 k)

  abbrev pub calls_from : ℕ → ℕ → List Call
  calls_from k n = flat_map calls (range_with_len k n)

  split_at : (k n : ℕ) → calls_until (k + n) ≡ calls_until k ++ calls_from k n
  split_at k n =
      let from : 0 + k ≡ k = omega arith in
      ap (flat_map calls) (range_split 0 k n ∙ ap (λ j. range_with_len 0 k ++ range_with_len j n) from)
      ∙ flat_map-append calls (range_with_len 0 k) (range_with_len k n)

  pub one_more : (k : ℕ) → calls_until (k + 1) ≡ calls_until k ++ calls k
  one_more k = split_at k 1 ∙ ap (λ cs. calls_until k ++ cs) (append-nil (calls k))

  pub split_after : (k n : ℕ) → k < n → calls_until n ≡ calls_until (k + 1) ++ calls_from (k + 1) (n - (k + 1))
  split_after k n low =
      let more : n ≡ k + 1 + (n - (k + 1)) = omega (arith, low) in
      ap calls_until more ∙ split_at (k + 1) (n - (k + 1))

  pub split_round : (k n : ℕ) → k < n → (calls_until k ++ calls k) ++ calls_from (k + 1) (n - (k + 1)) ≡ calls_until n
  split_round k n low = sym (split_after k n low ∙ ap (λ cs. cs ++ calls_from (k + 1) (n - (k + 1))) (one_more k))

  -- what holds of the calls of all numbers holds of those of each
  pub all_at : (P : Call → Type 0) (k n : ℕ) → k < n → All P (calls_until n) → All P (calls k)
  all_at P k n low all =
      all_back P (calls_until k) (calls k)
      (all_prefix P (calls_until k ++ calls k) (calls_from (k + 1) (n - (k + 1))) (subst (All P) (sym (split_round k n low)) all))
