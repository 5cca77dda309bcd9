-- A short call meets the condition on calls inside a transaction.
use Rattle.std.proofs.Common.{ℕ, Bool, List}
use Rattle.pm_epochs.specs.declared.event.Event.{Event}
use Rattle.bp_changes.specs.Performs.{IsShort}
use Rattle.bp_layout.specs.Need.{Change}
use Rattle.bp_layout.specs.Words.{Image}
use Rattle.bp_roles.specs.Transaction.{AvoidsSnapshot}

pub short_avoids_snapshot : (old new : Image) (in_snapshot : ℕ → Bool) (change : Change) (events : List Event) → IsShort old new in_snapshot change events → AvoidsSnapshot in_snapshot events
short_avoids_snapshot old new in_snapshot change events short = record { keeps = short.keeps; idle = short.idle }
