-- Stores to words in a row leave what a copy of their values leaves.
use Rattle.std.proofs.Common.{◌≡◌, ℕ, zero, suc, ◌+◌, ◌-◌, ◌<◌, ◌≤◌, List, [], ◌∷◌, ◌++◌, length, take, drop, get_or, set, refl, sym, ap, ◌∙◌, subst, arith, add-one}
use Rattle.std.proofs.lemmas.List.{append_assoc, drop_more, length-append, length-take-le, set-append_right, take_all, take_more}
use Rattle.pm_epochs.specs.declared.event.Event.{Event}
use Rattle.pm_epochs.specs.declared.event.Event.TheVariants.{Store, Barrier, CallEnd}
use Rattle.pm_epochs.specs.Log.{words_after}
use Rattle.pm_epochs.proofs.CrashLaws.{words_after-append, length-words_after}
use Rattle.pm_region.specs.Memory.{AreWithin, stores_from, with_values}
use Rattle.pm_region.proofs.MemoryLaws.{stores_from-more, with_values-none}
use Rattle.pm_runs.specs.declared.pieces.Run.{Run}
use Rattle.pm_runs.specs.declared.pieces.Run.TheVariants as run
use Rattle.pm_runs.specs.Runs.{copied, runs_events}

module _ (words : List ℕ) (first : ℕ) where
  -- one more value
  with_values-more : (values : List ℕ) (value : ℕ) → first + length values < length words → set (with_values words first values) (first + length values) value ≡ with_values words first (values ++ value ∷ [])
  with_values-more values value low =
      let prefix = take first words in
      let place = first + length values in
      let before = prefix ++ values in
      let long : length before ≡ place = omega (arith, length-append prefix values, length-take-le first words (omega arith)) in
      let none : place - place ≡ 0 = omega arith in
      let next : first + length (values ++ value ∷ []) ≡ place + 1 = omega (arith, length-append values (value ∷ [])) in
      ap (λ ws. set ws place value) (sym (append_assoc prefix values (drop place words)))
      ∙ set-append_right before (drop place words) place place value long (omega arith)
      ∙ ap (λ k. before ++ set (drop place words) k value) none
      ∙ ap (λ ws. before ++ set ws 0 value) (drop_more words place 0 low)
      ∙ append_assoc prefix values (value ∷ drop (place + 1) words)
      ∙ ap (λ ws. prefix ++ ws) (sym (append_assoc values (value ∷ []) (drop (place + 1) words)))
      ∙ ap (λ k. prefix ++ ((values ++ value ∷ []) ++ drop k words)) (sym next)

-- the stores of some events, and of those after them
within-append : (count : ℕ) (xs ys : List Event) → AreWithin count (xs ++ ys) → AreWithin count xs × AreWithin count ys
within-append count [] ys within = (tt, within)
within-append count (Store word value ∷ xs) ys within =
    let rest = within-append count xs ys within.1 in ((within.0, rest.0), rest.1)
within-append count (Barrier ∷ xs) ys within = within-append count xs ys within
within-append count (CallEnd ∷ xs) ys within = within-append count xs ys within

-- each word of a run is one of the words
within-run : (count word : ℕ) (values : List ℕ) → AreWithin count (stores_from word values) → (i : ℕ) → i < length values → word + i < count
within-run count word [] within i low = absurd (omega arith)
within-run count word (value ∷ values) within zero low = omega (arith, within.0)
within-run count word (value ∷ values) within (suc i) low = omega (arith, within-run count (word + 1) values within.1 i (omega arith))

module _ (words : List ℕ) (word : ℕ) (values : List ℕ) (low : (i : ℕ) → i < length values → word + i < length words) where
  copied-prefix : (i : ℕ) → i ≤ length values → words_after words (stores_from word (take i values)) ≡ with_values words word (take i values)
  copied-prefix zero fits = sym (with_values-none words word)
  copied-prefix (suc i) fits =
      let value = get_or values i 0 in
      let prefix = take i values in
      let long : length prefix ≡ i = length-take-le i values (omega arith) in
      let more : take (suc i) values ≡ prefix ++ value ∷ [] = subst (λ n. take n values ≡ prefix ++ value ∷ []) (add-one i) (take_more values i 0 (omega arith)) in
      let place : word + length prefix ≡ word + i = omega (arith, long) in
      let stores : stores_from word (take (suc i) values) ≡ stores_from word prefix ++ Store (word + i) value ∷ [] =
      subst (λ n. stores_from word (take n values) ≡ stores_from word prefix ++ Store (word + i) value ∷ []) (add-one i) (stores_from-more word values i (omega arith)) in
      ap (words_after words) stores
      ∙ words_after-append words (stores_from word prefix) (Store (word + i) value ∷ [])
      ∙ ap (λ ws. set ws (word + i) value) (copied-prefix i (omega arith))
      ∙ ap (λ k. set (with_values words word prefix) k value) (sym place)
      ∙ with_values-more words word prefix value (omega (arith, long, low i (omega arith)))
      ∙ ap (with_values words word) (sym more)

  copied-stores : words_after words (stores_from word values) ≡ with_values words word values
  copied-stores =
      let all : take (length values) values ≡ values = take_all (length values) values (omega arith) in
      subst (λ vs. words_after words (stores_from word vs) ≡ with_values words word vs) all (copied-prefix (length values) (omega arith))

pub copied-runs : (words : List ℕ) (runs : List (Run × List ℕ)) → AreWithin (length words) (runs_events runs) → copied words runs ≡ words_after words (runs_events runs)
copied-runs words [] within = refl
copied-runs words ((run.Stores word count, values) ∷ runs) within =
    let taken = take count values in
    let events = stores_from word taken in
    let both = within-append (length words) events (runs_events runs) within in
    let same : length words ≡ length (words_after words events) = sym (length-words_after words events) in
    ap (λ ws. copied ws runs) (sym (copied-stores words word taken (within-run (length words) word taken both.0)))
    ∙ copied-runs (words_after words events) runs (subst (λ n. AreWithin n (runs_events runs)) same both.1)
    ∙ sym (words_after-append words events (runs_events runs))
copied-runs words ((run.Barrier, values) ∷ runs) within = copied-runs words runs within
copied-runs words ((run.CallEnd, values) ∷ runs) within = copied-runs words runs within
