-- Two memories that differ only where a log has a store, and the words of the log put back.
use Rattle.std.proofs.Common.{◌≡◌, ℕ, ◌≤◌, ◌⊎◌, inl, inr, Bool, List, [], length, take, drop, get_or, sym, ◌∙◌, subst}
use Rattle.std.proofs.lemmas.List.{ext_get_or, drop_all}
use Rattle.pm_epochs.specs.declared.event.Event.{Event}
use Rattle.pm_epochs.specs.Log.{words_after, IsStoredIn}
use Rattle.pm_epochs.specs.Replay.{stores_of}
use Rattle.pm_epochs.specs.May.{AnyAt, EachMay}
use Rattle.pm_epochs.proofs.CrashLaws.{length-words_after}
use Rattle.pm_epochs.proofs.MayLaws.{EachMay-stored, StoresMay-take, StoresMay-stores_of}
use Rattle.pm_epochs.proofs.PieceLaws.{StoresMay-IsStoredIn}

abbrev Differs : List Event → List ℕ → List ℕ → Type 0
Differs events from words = EachMay (AnyAt (IsStoredIn events)) from words

-- where no store is left they are the same
pub put_back_all : (from words : List ℕ) → Differs [] from words → words ≡ from
put_back_all from words all = ext_get_or 0 words from all.size (λ word low. elim (all.each word) [ inl same ↦ same | inr found ↦ elim found [ ] ])

pub rest_is_nothing : (events : List Event) (i : ℕ) (from words : List ℕ) → length events ≤ i → Differs (drop i events) from words → words ≡ from
rest_is_nothing events i from words past all = put_back_all from words (subst (λ es. Differs es from words) (drop_all i events past) all)

-- the words now and those that a crash leaves differ only where the log has a store
pub differs_after_crash : (base : List ℕ) (events : List Event) (moment epoch : ℕ) (mask : List Bool) → Differs events (words_after base (stores_of epoch mask (take moment events))) (words_after base events)
differs_after_crash base events moment epoch mask = record { size = length-words_after base events ∙ sym (length-words_after base (stores_of epoch mask (take moment events))); each = λ word. either word (now.each word) (left.each word) }
  where
    now : Differs events base (words_after base events)
    now = EachMay-stored (AnyAt (IsStoredIn events)) base events (StoresMay-IsStoredIn events)

    left : Differs events base (words_after base (stores_of epoch mask (take moment events)))
    left =
        EachMay-stored (AnyAt (IsStoredIn events)) base (stores_of epoch mask (take moment events))
        (StoresMay-stores_of (AnyAt (IsStoredIn events)) (take moment events) epoch mask (StoresMay-take (AnyAt (IsStoredIn events)) moment events (StoresMay-IsStoredIn events)))

    either : (word : ℕ) → (get_or (words_after base events) word 0 ≡ get_or base word 0) ⊎ IsStoredIn events word → (get_or (words_after base (stores_of epoch mask (take moment events))) word 0 ≡ get_or base word 0) ⊎ IsStoredIn events word →
        (get_or (words_after base events) word 0 ≡ get_or (words_after base (stores_of epoch mask (take moment events))) word 0) ⊎ IsStoredIn events word
    either word (inl same) (inl other) = inl (same ∙ sym other)
    either word (inr found) other = inr found
    either word (inl same) (inr found) = inr found

pub differs_at : (base : List ℕ) (events : List Event) (moment epoch : ℕ) (mask : List Bool) (stored : List Event) (from words : List ℕ) → stored ≡ events → from ≡ words_after base (stores_of epoch mask (take moment events)) → words ≡ words_after base events → Differs stored from words
differs_at base events moment epoch mask stored from words log left now = rw (log, left, now) (differs_after_crash base events moment epoch mask)
