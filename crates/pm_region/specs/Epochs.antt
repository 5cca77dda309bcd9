-- Where the epochs of a log begin.
use Rattle.std.specs.Prelude.{ℕ, List, [], ◌∷◌}
use Rattle.std.proofs.Common.{zero, suc}
use Rattle.pm_epochs.specs.declared.event.Event.{Event}
use Rattle.pm_epochs.specs.declared.event.Event.TheVariants.{Store, Barrier, CallEnd}

-- The number of events before an epoch: those up to the barrier with the epoch's number, counted from 1.
abbrev pub epoch_start : ℕ → List Event → ℕ
epoch_start zero events = 0
epoch_start (suc epoch) [] = 0
epoch_start (suc epoch) (Store word value ∷ events) = suc (epoch_start (suc epoch) events)
epoch_start (suc epoch) (Barrier ∷ events) = suc (epoch_start epoch events)
epoch_start (suc epoch) (CallEnd ∷ events) = suc (epoch_start (suc epoch) events)
