-- What a run of stores, of these values at the words from one on, leaves; and that its values may stand there.
use Rattle.std.proofs.Common.{◌≡◌, ℕ, zero, suc, ◌+◌, ◌<◌, ◌≤◌, ◌⊎◌, inl, inr, List, [], ◌∷◌, length, set, get_or, refl, sym, ◌∙◌, subst, arith}
use Rattle.std.proofs.lemmas.List.{get_or-set_same, get_or-set_other, length-set}
use Rattle.pm_epochs.specs.Log.{words_after}
use Rattle.pm_epochs.specs.May.{StoresMay}
use Rattle.pm_region.specs.Memory.{stores_from}

-- a word outside is as before
pub run-outside : (word : ℕ) (values words : List ℕ) (place : ℕ) → (place < word) ⊎ (word + length values ≤ place) → get_or (words_after words (stores_from word values)) place 0 ≡ get_or words place 0
run-outside word [] words place out = refl
run-outside word (value ∷ values) words place (inl low) =
    run-outside (word + 1) values (set words word value) place (inl (omega arith)) ∙ get_or-set_other words word place value 0 (λ e. absurd (omega arith))
run-outside word (value ∷ values) words place (inr high) =
    run-outside (word + 1) values (set words word value) place (inr (omega arith)) ∙ get_or-set_other words word place value 0 (λ e. absurd (omega arith))

-- a word of the run has its value
pub run-inside : (word : ℕ) (values words : List ℕ) (i : ℕ) → word + length values ≤ length words → i < length values → get_or (words_after words (stores_from word values)) (word + i) 0 ≡ get_or values i 0
run-inside word [] words i fits low = absurd (omega arith)
run-inside word (value ∷ values) words zero fits low =
    let here : word + 0 ≡ word = omega arith in
    subst (λ (w : ℕ). get_or (words_after (set words word value) (stores_from (word + 1) values)) w 0 ≡ value) (sym here)
    (run-outside (word + 1) values (set words word value) word (inl (omega arith)) ∙ get_or-set_same words word value 0 (omega arith))
run-inside word (value ∷ values) words (suc i) fits low =
    let there : word + suc i ≡ (word + 1) + i = omega arith in
    subst (λ (w : ℕ). get_or (words_after (set words word value) (stores_from (word + 1) values)) w 0 ≡ get_or values i 0) (sym there)
    (run-inside (word + 1) values (set words word value) i (omega (arith, length-set words word value)) (omega arith))

module _ (May : ℕ → ℕ → Type 0) where
  pub StoresMay-run : (word : ℕ) (values : List ℕ) → ((i : ℕ) → i < length values → May (word + i) (get_or values i 0)) → StoresMay May (stores_from word values)
  StoresMay-run word [] may = tt
  StoresMay-run word (value ∷ values) may =
      let here : word + 0 ≡ word = omega arith in (
        subst (λ (w : ℕ). May w value) here (may 0 (omega arith)),
        StoresMay-run (word + 1) values (λ i low.
            let there : word + suc i ≡ (word + 1) + i = omega arith in
            subst (λ (w : ℕ). May w (get_or values i 0)) there (may (suc i) (omega arith))),
      )
