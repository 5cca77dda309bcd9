-- Where an epoch begins: in a log, in a prefix of it, and one event on.
use Rattle.std.proofs.Common.{◌≡◌, ℕ, zero, suc, ◌+◌, ◌<◌, ◌≤◌, List, [], ◌∷◌, length, take, drop, refl, ◌∙◌, ap, arith}
use Rattle.std.proofs.lemmas.List.{length-take}
use Rattle.pm_epochs.specs.declared.event.Event.{Event}
use Rattle.pm_epochs.specs.declared.event.Event.TheVariants.{Store, Barrier, CallEnd}
use Rattle.pm_epochs.specs.Log.{barriers, epoch_stores}
use Rattle.pm_region.specs.Epochs.{epoch_start}

pub barriers_past : (event : Event) (rest : List Event) → barriers (event ∷ rest) ≡ barriers (event ∷ []) + barriers rest
barriers_past (Store word value) rest = omega arith
barriers_past Barrier rest = omega arith
barriers_past CallEnd rest = omega arith

pub epoch_start_past : (left following : ℕ) (event : Event) (rest : List Event) → 0 < left → left ≡ following + barriers (event ∷ []) → epoch_start left (event ∷ rest) ≡ suc (epoch_start following rest)
epoch_start_past zero following event rest some is = absurd (omega arith)
epoch_start_past (suc left) following (Store word value) rest some is = let same : suc left ≡ following = omega arith in ap (λ n. suc (epoch_start n rest)) same
epoch_start_past (suc left) following Barrier rest some is = let same : left ≡ following = omega arith in ap (λ n. suc (epoch_start n rest)) same
epoch_start_past (suc left) following CallEnd rest some is = let same : suc left ≡ following = omega arith in ap (λ n. suc (epoch_start n rest)) same

-- ## In a prefix of a log

pub epoch_start-low : (epoch : ℕ) (events : List Event) → epoch_start epoch events ≤ length events
epoch_start-low zero events = omega arith
epoch_start-low (suc epoch) [] = omega arith
epoch_start-low (suc epoch) (Store word value ∷ events) = let rest = epoch_start-low (suc epoch) events in omega arith
epoch_start-low (suc epoch) (Barrier ∷ events) = let rest = epoch_start-low epoch events in omega arith
epoch_start-low (suc epoch) (CallEnd ∷ events) = let rest = epoch_start-low (suc epoch) events in omega arith

-- as many barriers stand before it
pub epoch_start-at_least : (epoch : ℕ) (events : List Event) → epoch ≤ barriers events → epoch ≤ epoch_start epoch events
epoch_start-at_least zero events begun = omega arith
epoch_start-at_least (suc epoch) [] begun = absurd (omega arith)
epoch_start-at_least (suc epoch) (Store word value ∷ events) begun = let rest = epoch_start-at_least (suc epoch) events begun in omega arith
epoch_start-at_least (suc epoch) (Barrier ∷ events) begun = let rest = epoch_start-at_least epoch events (omega arith) in omega arith
epoch_start-at_least (suc epoch) (CallEnd ∷ events) begun = let rest = epoch_start-at_least (suc epoch) events begun in omega arith

-- an epoch that begins in a prefix of a log begins there in the log
pub epoch_start-prefix : (n epoch : ℕ) (events : List Event) → epoch ≤ barriers (take n events) → epoch_start epoch (take n events) ≡ epoch_start epoch events
epoch_start-prefix n zero events begun = refl
epoch_start-prefix zero (suc epoch) events begun = absurd (omega arith)
epoch_start-prefix (suc n) (suc epoch) [] begun = refl
epoch_start-prefix (suc n) (suc epoch) (Store word value ∷ events) begun = ap suc (epoch_start-prefix n (suc epoch) events begun)
epoch_start-prefix (suc n) (suc epoch) (Barrier ∷ events) begun = ap suc (epoch_start-prefix n epoch events (omega arith))
epoch_start-prefix (suc n) (suc epoch) (CallEnd ∷ events) begun = ap suc (epoch_start-prefix n (suc epoch) events begun)

pub epoch_start-taken : (n epoch : ℕ) (events : List Event) → epoch ≤ barriers (take n events) → epoch_start epoch events ≤ n
epoch_start-taken n epoch events begun =
    omega (arith, epoch_start-prefix n epoch events begun, epoch_start-low epoch (take n events), length-take n events)

pub barriers-prefix : (n : ℕ) (events : List Event) → barriers (take n events) ≤ barriers events
barriers-prefix zero events = omega arith
barriers-prefix (suc n) [] = omega arith
barriers-prefix (suc n) (Store word value ∷ events) = barriers-prefix n events
barriers-prefix (suc n) (Barrier ∷ events) = let rest = barriers-prefix n events in omega arith
barriers-prefix (suc n) (CallEnd ∷ events) = barriers-prefix n events

pub stores-from : (epoch : ℕ) (events : List Event) → epoch_stores epoch events ≡ epoch_stores 0 (drop (epoch_start epoch events) events)
stores-from zero events = refl
stores-from (suc epoch) [] = refl
stores-from (suc epoch) (Store word value ∷ events) = stores-from (suc epoch) events
stores-from (suc epoch) (Barrier ∷ events) = stores-from epoch events
stores-from (suc epoch) (CallEnd ∷ events) = stores-from (suc epoch) events

-- the stores of an epoch in a prefix of a log, by where the epoch begins in the log
pub stores-at : (n epoch : ℕ) (events : List Event) → epoch ≤ barriers (take n events) → epoch_stores epoch (take n events) ≡ epoch_stores 0 (drop (epoch_start epoch events) (take n events))
stores-at n epoch events begun =
    stores-from epoch (take n events) ∙ ap (λ start. epoch_stores 0 (drop start (take n events))) (epoch_start-prefix n epoch events begun)
