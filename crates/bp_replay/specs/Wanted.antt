-- What a script asks a crash to keep, and the crash point of a log that this means.
use Rattle.std.specs.Prelude.{ℕ, ◌*◌, ◌/◌, ◌%◌, ◌==◌, List, [], ◌∷◌, Bool, true, false, length, replicate, flat_map}
use Rattle.pm_epochs.specs.declared.event.Event.{Event}
use Rattle.pm_epochs.specs.Log.{barriers, epoch_stores}
use Rattle.pm_epochs.specs.Replay.{PowerCut}
use Rattle.bp_replay.specs.declared.cut.Cut.{Cut as Asked}
use Rattle.bp_replay.specs.declared.cut.Cut.TheVariants.{All, Nothing, At}

-- Keep each store, none, or those of an event count, an epoch and the bytes of its mask.
pub data Wanted : Type 0 where
  all : Wanted
  nothing : Wanted
  at : ℕ → ℕ → List ℕ → Wanted

-- The request, from its representation in code.
abbrev pub wanted_by : Asked → Wanted
wanted_by All = all
wanted_by Nothing = nothing
wanted_by (At moment epoch mask) = at moment epoch mask.now

-- The number of positions in the bytes of the mask, one bit each.
abbrev pub mask_places : Asked → ℕ
mask_places All = 0
mask_places Nothing = 0
mask_places (At moment epoch mask) = 8 * length mask.now

abbrev pub bit : ℕ → ℕ → Bool
bit byte place = byte / place % 2 == 1

-- The bits of a byte, the lowest first.
abbrev pub bits_of : ℕ → List Bool
bits_of byte =
    bit byte 1 ∷ bit byte 2 ∷ bit byte 4 ∷ bit byte 8 ∷ bit byte 16 ∷ bit byte 32 ∷ bit byte 64 ∷ bit byte 128 ∷ []

-- The bits of bytes, those of the first byte first.
abbrev pub bits : List ℕ → List Bool
bits bytes = flat_map bits_of bytes

-- The mask without the positions after the last true one.
abbrev pub cons_trimmed : Bool → List Bool → List Bool
cons_trimmed false [] = []
cons_trimmed place rest = place ∷ rest

abbrev pub trimmed : List Bool → List Bool
trimmed [] = []
trimmed (place ∷ mask) = cons_trimmed place (trimmed mask)

-- The crash point of a log that is asked for.
abbrev pub cut_for : List Event → Wanted → PowerCut
cut_for events all = record {
  moment = length events;
  epoch = barriers events;
  mask = replicate (epoch_stores (barriers events) events) true;
}
cut_for events nothing = record { moment = length events; epoch = 0; mask = [] }
cut_for events (at moment epoch mask) = record { moment = moment; epoch = epoch; mask = trimmed (bits mask) }
