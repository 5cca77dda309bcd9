-- A log up to where an epoch begins, and from there on.
use Rattle.std.proofs.Common.{◌≡◌, ℕ, zero, suc, ◌+◌, ◌≤◌, Bool, true, false, List, [], ◌∷◌, length, take, drop, set, refl, sym, ◌∙◌, ap, arith}
use Rattle.std.proofs.lemmas.List.{take-take}
use Rattle.pm_epochs.specs.declared.event.Event.{Event}
use Rattle.pm_epochs.specs.declared.event.Event.TheVariants.{Store, Barrier, CallEnd}
use Rattle.pm_epochs.specs.Log.{barriers, call_ends, words_after}
use Rattle.pm_epochs.specs.Replay.{call_ends_of, stores_of}
use Rattle.pm_region.specs.Epochs.{epoch_start}
use Rattle.pm_region.proofs.EpochLaws.{epoch_start-prefix}

-- the stores of earlier epochs are all kept, and those from there on by the mask
pub kept-from : (words : List ℕ) (epoch : ℕ) (mask : List Bool) (events : List Event) →
    words_after words (stores_of epoch mask events) ≡ words_after (words_after words (take (epoch_start epoch events) events)) (stores_of 0 mask (drop (epoch_start epoch events) events))
kept-from words zero mask events = refl
kept-from words (suc epoch) mask [] = refl
kept-from words (suc epoch) mask (Store word value ∷ events) = kept-from (set words word value) (suc epoch) mask events
kept-from words (suc epoch) mask (Barrier ∷ events) = kept-from words epoch mask events
kept-from words (suc epoch) mask (CallEnd ∷ events) = kept-from words (suc epoch) mask events

-- what a cut keeps, where its epoch begins at `start`
pub kept-cut : (base : List ℕ) (log : List Event) (moment epoch start : ℕ) (mask : List Bool) → start ≤ moment → start ≡ epoch_start epoch log → epoch ≤ barriers (take moment log) →
    words_after (words_after base (take start log)) (stores_of 0 mask (drop start (take moment log))) ≡ words_after base (stores_of epoch mask (take moment log))
kept-cut base log moment epoch start mask low begins begun =
    let taken = take moment log in
    let same = begins ∙ sym (epoch_start-prefix moment epoch log begun) in
    ap (λ es. words_after (words_after base es) (stores_of 0 mask (drop start taken))) (sym (take-take start moment log low))
    ∙ ap (λ n. words_after (words_after base (take n taken)) (stores_of 0 mask (drop n taken))) same
    ∙ sym (kept-from base epoch mask taken)

pub call_ends-from : (epoch : ℕ) (mask : List Bool) (events : List Event) →
    call_ends_of epoch mask events ≡ call_ends (take (epoch_start epoch events) events) + call_ends_of 0 mask (drop (epoch_start epoch events) events)
call_ends-from zero mask events = omega arith
call_ends-from (suc epoch) mask [] = refl
call_ends-from (suc epoch) mask (Store word value ∷ events) = call_ends-from (suc epoch) mask events
call_ends-from (suc epoch) mask (Barrier ∷ events) = call_ends-from epoch mask events
call_ends-from (suc epoch) mask (CallEnd ∷ events) = let rest = call_ends-from (suc epoch) mask events in omega arith

pub call_ends-split : (n : ℕ) (events : List Event) → call_ends events ≡ call_ends (take n events) + call_ends (drop n events)
call_ends-split zero events = omega arith
call_ends-split (suc n) [] = refl
call_ends-split (suc n) (Store word value ∷ events) = call_ends-split n events
call_ends-split (suc n) (Barrier ∷ events) = call_ends-split n events
call_ends-split (suc n) (CallEnd ∷ events) = let rest = call_ends-split n events in omega arith

pub call_ends-low : (events : List Event) → call_ends events ≤ length events
call_ends-low [] = omega arith
call_ends-low (Store word value ∷ events) = let rest = call_ends-low events in omega arith
call_ends-low (Barrier ∷ events) = let rest = call_ends-low events in omega arith
call_ends-low (CallEnd ∷ events) = let rest = call_ends-low events in omega arith

pub call_ends_of-low : (mask : List Bool) (events : List Event) → call_ends_of 0 mask events ≤ call_ends events
call_ends_of-low mask [] = omega arith
call_ends_of-low [] (Store word value ∷ events) = omega arith
call_ends_of-low (true ∷ mask) (Store word value ∷ events) = call_ends_of-low mask events
call_ends_of-low (false ∷ mask) (Store word value ∷ events) = omega arith
call_ends_of-low [] (Barrier ∷ events) = call_ends_of-low [] events
call_ends_of-low (true ∷ mask) (Barrier ∷ events) = call_ends_of-low [] events
call_ends_of-low (false ∷ mask) (Barrier ∷ events) = call_ends_of-low [] events
call_ends_of-low [] (CallEnd ∷ events) = let rest = call_ends_of-low [] events in omega arith
call_ends_of-low (true ∷ mask) (CallEnd ∷ events) = let rest = call_ends_of-low (true ∷ mask) events in omega arith
call_ends_of-low (false ∷ mask) (CallEnd ∷ events) = let rest = call_ends_of-low (false ∷ mask) events in omega arith
