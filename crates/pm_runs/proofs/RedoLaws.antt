-- The values of a log's events, beside a region.
use Rattle.std.proofs.Common.{◌≡◌, ℕ, ◌+◌, List, [], ◌∷◌, ◌++◌, map, ap, refl, sym, ◌∙◌}
use Rattle.std.proofs.lemmas.List.{map-append}
use Rattle.pm_epochs.specs.declared.event.Event.{Event}
use Rattle.pm_epochs.specs.Kind.{event_value}
use Rattle.pm_region.specs.Memory.{stores_from}

-- the values of stores in a row
pub values_of-stores : (word : ℕ) (values : List ℕ) → map event_value (stores_from word values) ≡ values
values_of-stores word [] = refl
values_of-stores word (value ∷ values) = ap (λ vs. value ∷ vs) (values_of-stores (word + 1) values)

-- events after others, and their values after those of the others
pub values-more : (events after more : List Event) (values next added : List ℕ) → values ≡ map event_value events → after ≡ events ++ more → next ≡ values ++ added → added ≡ map event_value more
    → next ≡ map event_value after
values-more events after more values next added reported after_is next_is added_is =
    next_is
    ∙ ap (λ vs. vs ++ added) reported
    ∙ ap (λ vs. map event_value events ++ vs) added_is
    ∙ sym (map-append event_value events more)
    ∙ ap (map event_value) (sym after_is)
