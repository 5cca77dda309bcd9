-- A set of words stays linked, and a word is found by the links.
use Rattle.std.proofs.Common.{◌≡◌, ℕ, suc, ◌+◌, ◌<◌, ◌≤◌, ◌%◌, inl, inr, false, List, [], ◌∷◌, ◌++◌, length, set, get_or, refl, sym, ◌∙◌, ap, subst, arith, length-append, ◌≢◌}
use Rattle.std.proofs.lemmas.List.{length-set, get_or-set_same, get_or-set_other, get_or_append_left, get_or_push}
use Rattle.std.proofs.Math.Nat.{mod-lt}
use Rattle.std.proofs.lemmas.Bool.{cases_eq, cases_lt, ne_eqb}
use Rattle.pm_steps.specs.WordSet.{is_noted, IsLastWord, IsLinked}

-- a bound within the old words sees no word after them
last_more : (words : List ℕ) (word divisor remainder bound entry : ℕ) → bound ≤ length words → IsLastWord words divisor remainder bound entry → IsLastWord (words ++ word ∷ []) divisor remainder bound entry
last_more words word divisor remainder bound entry few last = λ k below leaves.
    let found = last k below (ap (λ n. n % divisor) (sym (get_or_append_left words (word ∷ []) 0 k (omega arith))) ∙ leaves) in (
      found.0,
      found.1,
      ap (λ n. n % divisor) (get_or_append_left words (word ∷ []) 0 entry (omega (arith, found.1))) ∙ found.2,
    )

pub linked_note : (words before heads : List ℕ) (word : ℕ) → IsLinked words before heads → IsLinked (words ++ word ∷ []) (before ++ get_or heads (word % length heads) 0 ∷ []) (set heads (word % length heads) (length words))
linked_note words before heads word linked = record {
  sized = same_room ∙ linked.sized;
  each = omega (arith, count, length-append before (get_or heads (word % length heads) 0 ∷ []), linked.each);
  heads_last = λ remainder low. rw same_room (heads_new remainder (omega (arith, low, same_room)));
  before_last = λ i low. rw same_room (before_new i (omega (arith, low, count)));
}
  where
    count : length (words ++ word ∷ []) ≡ length words + 1
    count = length-append words (word ∷ []) ∙ omega arith

    same_room : length (set heads (word % length heads) (length words)) ≡ length heads
    same_room = length-set heads (word % length heads) (length words)

    here_low : word % length heads < length heads
    here_low = mod-lt word (omega (arith, linked.sized))

    heads_new : (remainder : ℕ) → remainder < length heads → IsLastWord (words ++ word ∷ []) (length heads) remainder (length (words ++ word ∷ [])) (get_or (set heads (word % length heads) (length words)) remainder 0)
    heads_new remainder low = elim (cases_eq (word % length heads) remainder) [
      | inl same ↦
          subst (λ e. IsLastWord (words ++ word ∷ []) (length heads) remainder (length (words ++ word ∷ [])) e)
          (sym (ap (λ r. get_or (set heads (word % length heads) (length words)) r 0) (sym same) ∙ get_or-set_same heads (word % length heads) (length words) 0 here_low))
          (λ k below leaves. (omega (arith, count, below), omega (arith, count), ap (λ w. w % length heads) (get_or_push words word 0 (length words) refl) ∙ same))
      | inr differ ↦
          subst (λ e. IsLastWord (words ++ word ∷ []) (length heads) remainder (length (words ++ word ∷ [])) e)
          (sym (get_or-set_other heads (word % length heads) remainder (length words) 0 (λ e. differ (sym e))))
          (λ k below leaves. elim (cases_lt k (length words)) [
            | inl less ↦
                let found = last_more words word (length heads) remainder (length words) (get_or heads remainder 0) (omega arith) (linked.heads_last remainder low) k less leaves in
                (found.0, omega (arith, found.1, count), found.2)
            | inr past ↦
                let at_end : k ≡ length words = omega (arith, past, below, count) in
                absurd (differ (sym (ap (λ w. w % length heads) (get_or_push words word 0 (length words) refl)) ∙ ap (λ j. get_or (words ++ word ∷ []) j 0 % length heads) (sym at_end) ∙ leaves))
          ])
    ]

    before_new : (i : ℕ) → i < length words + 1 → IsLastWord (words ++ word ∷ []) (length heads) (get_or (words ++ word ∷ []) i 0 % length heads) i (get_or (before ++ get_or heads (word % length heads) 0 ∷ []) i 0)
    before_new i low = elim (cases_lt i (length words)) [
      | inl less ↦
          let word_is = get_or_append_left words (word ∷ []) 0 i less in
          let before_is = get_or_append_left before (get_or heads (word % length heads) 0 ∷ []) 0 i (omega (arith, less, linked.each)) in
          rw (word_is, before_is) (last_more words word (length heads) (get_or words i 0 % length heads) i (get_or before i 0) (omega (arith, less)) (linked.before_last i less))
      | inr past ↦
          let at_end : i ≡ length words = omega (arith, past, low) in
          let last_is = ap (λ j. get_or (before ++ get_or heads (word % length heads) 0 ∷ []) j 0) (sym linked.each) ∙ get_or_push before (get_or heads (word % length heads) 0) 0 (length before) refl in
          subst (λ j. IsLastWord (words ++ word ∷ []) (length heads) (get_or (words ++ word ∷ []) j 0 % length heads) j (get_or (before ++ get_or heads (word % length heads) 0 ∷ []) j 0)) (sym at_end)
          (rw (get_or_push words word 0 (length words) refl, last_is) (last_more words word (length heads) (word % length heads) (length words) (get_or heads (word % length heads) 0) (omega arith) (linked.heads_last (word % length heads) here_low)))
    ]

-- ## A search

pub noted_nowhere : (words : List ℕ) (word : ℕ) → ((k : ℕ) → k < length words → get_or words k 0 ≡ word → ⊥) → is_noted words word ≡ false
noted_nowhere [] word none = refl
noted_nowhere (other ∷ words) word none =
    let differ : other ≢ word = none 0 (omega arith) in
    rw (ne_eqb other word differ) (noted_nowhere words word (λ k low is. none (suc k) (omega arith) is))

-- with no entry left
pub none_left : (words : List ℕ) (divisor bound entry word : ℕ) → IsLastWord words divisor (word % divisor) bound entry
    → (entry < bound → get_or words entry 0 % divisor ≡ word % divisor → ⊥)
    → ((k : ℕ) → bound ≤ k → k < length words → get_or words k 0 ≡ word → ⊥) → is_noted words word ≡ false
none_left words divisor bound entry word last gone none = noted_nowhere words word (λ k high is. elim (cases_lt k bound) [
  | inr past ↦ none k past high is
  | inl less ↦ let found = last k less (ap (λ w. w % divisor) is) in gone found.1 found.2
])
