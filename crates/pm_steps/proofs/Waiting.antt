-- The stores that must come first, from the first one that is not back on.
use Rattle.std.proofs.Common.{◌≡◌, ℕ, zero, suc, ◌<◌, ◌≤◌, inl, inr, Bool, true, Option, Some, None, List, [], ◌∷◌, refl, sym, ◌∙◌, ap, arith}
use Rattle.std.specs.Prelude.{MatchOption}
use Rattle.std.specs.List.{slice_get}
use Rattle.std.proofs.lemmas.Bool.{cases_lt}
use Rattle.pm_epochs.specs.declared.event.Event.{Event}
use Rattle.pm_epochs.specs.declared.event.Event.TheVariants.{Store, Barrier, CallEnd}
use Rattle.pm_epochs.specs.Replay.{epoch_of}
use Rattle.pm_steps.specs.Machine.{is_some_store, ComesFirst, IsFirstMissing, IsBackBelow, AllToBack, IsFirstTo}

pub epoch_of-le : (events : List Event) (i j : ℕ) → i ≤ j → epoch_of events i ≤ epoch_of events j
epoch_of-le [] zero j low = omega arith
epoch_of-le [] (suc i) zero low = absurd (omega arith)
epoch_of-le [] (suc i) (suc j) low = omega arith
epoch_of-le (event ∷ events) zero j low = omega arith
epoch_of-le (event ∷ events) (suc i) zero low = absurd (omega arith)
epoch_of-le (Store word value ∷ events) (suc i) (suc j) low = epoch_of-le events i j (omega arith)
epoch_of-le (Barrier ∷ events) (suc i) (suc j) low = let more = epoch_of-le events i j (omega arith) in omega arith
epoch_of-le (CallEnd ∷ events) (suc i) (suc j) low = epoch_of-le events i j (omega arith)

module _ (events : List Event) (back : List Bool) (which low word value : ℕ) (is : slice_get events which ≡ Some (Store word value)) (below : IsBackBelow events back low) (same_epoch : epoch_of events low ≡ epoch_of events which) where
  -- with no barrier from there on, only the stores to the same word must
  came : (to : ℕ) → AllToBack events back word low to → (earlier : ℕ) → earlier < to → ComesFirst events earlier which → slice_get back earlier ≡ Some true
  came to all earlier before comes = elim (cases_lt earlier low) [
    | inl less ↦ below.each earlier less (ap is_some_store comes.first_is)
    | inr past ↦ elim comes.must [
      | inl sooner ↦ absurd (omega (arith, epoch_of-le events low earlier past, same_epoch, sooner))
      | inr same ↦
          let which_is : Some (Store word value) ≡ Some (Store comes.word comes.value) = sym is ∙ comes.second_is in
          let word_is : word ≡ comes.word = cc in
          let place_is : comes.first_word ≡ word = same ∙ sym word_is in
          all earlier past before (record { value = comes.first_value; store = comes.first_is ∙ ap (λ w. Some (Store w comes.first_value)) place_is })
    ]
  ]

  pub missing_of : (found : Option ℕ) → MatchOption found (AllToBack events back word low which) (IsFirstTo events back word low which) →
      MatchOption found ((earlier : ℕ) → ComesFirst events earlier which → slice_get back earlier ≡ Some true) (IsFirstMissing events back which)
  missing_of None all = λ earlier comes. came which all earlier comes.before comes
  missing_of (Some needs) first = record {
    comes = record {
      before = first.high;
      first_word = word;
      first_value = first.store.value;
      word = word;
      value = value;
      first_is = first.store.store;
      second_is = is;
      must = inr refl;
    };
    waits = first.waits;
    first = λ earlier before comes. came needs first.before earlier before comes;
  }
