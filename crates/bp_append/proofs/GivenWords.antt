-- Words that given bytes begin or end in.
use Rattle.std.proofs.Common.{◌≡◌, ℕ, ◌+◌, ◌-◌, ◌%◌, ◌^◌, ◌<◌, ◌≤◌, List, drop, length, get_or, min, replicate, sym, ◌∙◌, ap, arith, inl, inr}
use Rattle.std.proofs.Math.Nat.{zero-div}
use Rattle.std.proofs.lemmas.Bool.{cases_lt}
use Rattle.std.proofs.lemmas.List.{get_or-drop, get_or_past, get_or-replicate, length-drop}
use Rattle.pm_words.specs.Overlay.{byte_over}
use Rattle.pm_words.proofs.OverlayLaws.{over_before, over_past, over_there}
use Rattle.pm_words.proofs.ShiftLaws.{low-byte, past-low}
use Rattle.bp_layout.specs.Words.{byte_of}
use Rattle.bp_append.specs.Given.{given, laid, run_words}
use Rattle.bp_append.proofs.LaidLaws.{given-before, given-there, laid-given, laid-kept}

bare : (c : ℕ) → byte_of 0 c ≡ 0
bare c = ap (λ n. n % 256) (zero-div (256 ^ c))

bare-word : (k c : ℕ) → k < run_words → byte_of (get_or (replicate run_words 0) k 0) c ≡ 0
bare-word k c low = ap (λ w. byte_of w c) (get_or-replicate run_words k 0 0 low) ∙ bare c

-- words of 0 before the given bytes, and after them
pub early-word : (k c offset from : ℕ) (bytes : List ℕ) → k < run_words → offset < from → byte_of (get_or (replicate run_words 0) k 0) c ≡ given from bytes offset
early-word k c offset from bytes low before = bare-word k c low ∙ sym (given-before from bytes offset before)

pub late-word : (k c offset from : ℕ) (bytes : List ℕ) → k < run_words → from ≤ offset → length bytes ≤ offset - from → byte_of (get_or (replicate run_words 0) k 0) c ≡ given from bytes offset
late-word k c offset from bytes low past_end past = bare-word k c low ∙ sym (given-there from bytes offset past_end ∙ get_or_past bytes (offset - from) 0 past)

-- the given bytes laid over nothing
pub given_over : (from : ℕ) (bytes : List ℕ) (offset c : ℕ) → byte_over from bytes offset (byte_of 0 c) ≡ given from bytes offset
given_over from bytes offset c = ap (byte_over from bytes offset) (bare c)

-- those from an offset in a word on, laid over the bytes of it that stay
pub laid_over : (low from start old kept before c : ℕ) (bytes : List ℕ) → kept ≡ old % 256 ^ min 8 (low - start) → before ≡ min (low - from) (length bytes) → start ≤ low → low < start + 8 → c < 8 →
    byte_over (from + before) (drop before bytes) (start + c) (byte_of kept c) ≡ laid low from bytes (byte_of old c) (start + c)
laid_over low from start old kept before c bytes is count begun inside few = elim (cases_lt c (low - start)) [
  | inl early ↦
      unseen early
      ∙ ap (λ w. byte_of w c) is
      ∙ low-byte old (min 8 (low - start)) c (omega (arith, early, few))
      ∙ sym (laid-kept low from bytes (byte_of old c) (start + c) (omega (arith, early)))
  | inr late ↦ seen late ∙ sym (laid-given low from bytes (byte_of old c) (start + c) (omega (arith, late, begun)))
]
  where
    long : length (drop before bytes) ≡ length bytes - before
    long = length-drop before bytes

    unseen : c < low - start → byte_over (from + before) (drop before bytes) (start + c) (byte_of kept c) ≡ byte_of kept c
    unseen early = elim (cases_lt (start + c) (from + before)) [
      | inl less ↦ over_before (from + before) (drop before bytes) (start + c) (byte_of kept c) less
      | inr more ↦ over_past (from + before) (drop before bytes) (start + c) (byte_of kept c) (omega (arith, more, early, count, long))
    ]

    none : low - start ≤ c → byte_of kept c ≡ 0
    none late = ap (λ w. byte_of w c) is ∙ past-low old (min 8 (low - start)) c (omega (arith, late))

    seen : low - start ≤ c → byte_over (from + before) (drop before bytes) (start + c) (byte_of kept c) ≡ given from bytes (start + c)
    seen late = elim (cases_lt (start + c) (from + before)) [
      | inl less ↦
          over_before (from + before) (drop before bytes) (start + c) (byte_of kept c) less
          ∙ none late
          ∙ sym (given-before from bytes (start + c) (omega (arith, less, late, count, begun)))
      | inr more ↦ elim (cases_lt (start + c) (from + before + length (drop before bytes))) [
        | inl here ↦
            let place : before + (start + c - (from + before)) ≡ start + c - from = omega (arith, more) in
            over_there (from + before) (drop before bytes) (start + c) (byte_of kept c) more here
            ∙ get_or-drop before bytes (start + c - (from + before)) 0
            ∙ ap (λ n. get_or bytes n 0) place
            ∙ sym (given-there from bytes (start + c) (omega (arith, more)))
        | inr past ↦
            over_past (from + before) (drop before bytes) (start + c) (byte_of kept c) past
            ∙ none late
            ∙ sym (given-there from bytes (start + c) (omega (arith, more)) ∙ get_or_past bytes (start + c - from) 0 (omega (arith, past, long, count)))
      ]
    ]
