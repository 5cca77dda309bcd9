-- The events of a piece of a log.
use Rattle.std.specs.Prelude.{ℕ, zero, suc, ◌+◌, Bool, true, false, length, List, [], ◌∷◌}
use Rattle.pm_epochs.specs.declared.event.Event.{Event}
use Rattle.pm_epochs.specs.declared.event.Event.TheVariants as event
use Rattle.pm_region.specs.Memory.{stores_from}
use Rattle.pm_raw.specs.declared.log.Piece.{Piece}
use Rattle.pm_raw.specs.declared.log.Piece.TheVariants.{Stores, Barrier, CallEnd}

abbrev pub piece_events : Piece → List Event
piece_events (Stores word values) = stores_from word values.now
piece_events Barrier = event.Barrier ∷ []
piece_events CallEnd = event.CallEnd ∷ []

-- Whether all of these are true.
abbrev pub all_kept : List Bool → Bool
all_kept [] = true
all_kept (true ∷ mask) = all_kept mask
all_kept (false ∷ mask) = false

-- Whether a mask keeps this number of first stores.
abbrev pub keeps : ℕ → List Bool → Bool
keeps zero mask = true
keeps (suc n) [] = false
keeps (suc n) (true ∷ mask) = keeps n mask
keeps (suc n) (false ∷ mask) = false

-- The word after those of a piece's stores; 0 if the piece has no stores.
abbrev pub piece_end : Piece → ℕ
piece_end (Stores word values) = word + length values.now
piece_end Barrier = 0
piece_end CallEnd = 0
