-- A word of the words after a log.
use Rattle.std.proofs.Common.{◌≡◌, ℕ, ◌<◌, List, [], ◌∷◌, length, get_or, set, inl, inr, refl, sym, ◌∙◌, ap, arith}
use Rattle.std.proofs.lemmas.List.{length-set, get_or-set_same, get_or-set_other}
use Rattle.std.proofs.lemmas.Bool.Decides.{eqb_tells}
use Rattle.pm_epochs.specs.declared.event.Event.{Event}
use Rattle.pm_epochs.specs.declared.event.Event.TheVariants.{Store, Barrier, CallEnd}
use Rattle.pm_epochs.specs.Log.{words_after, word_after}

pub slice_index-words_after : (words : List ℕ) (events : List Event) (place : ℕ) → place < length words → get_or (words_after words events) place 0 ≡ word_after (get_or words place 0) events place
slice_index-words_after words [] place low = refl
slice_index-words_after words (Store word value ∷ events) place low =
    slice_index-words_after (set words word value) events place (omega (arith, length-set words word value, low))
    ∙ ap (λ now. word_after now events place) (elim (eqb_tells word place) [
      | inl same ↦ rw (same.0, same.1) (get_or-set_same words place value 0 low)
      | inr differ ↦ rw differ.0 (get_or-set_other words word place value 0 (λ e. differ.1 (sym e)))
    ])
slice_index-words_after words (Barrier ∷ events) place low = slice_index-words_after words events place low
slice_index-words_after words (CallEnd ∷ events) place low = slice_index-words_after words events place low
