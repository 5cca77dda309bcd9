-- What a crash keeps if only one core stores.
use Rattle.std.specs.Prelude.{ℕ, ◌==◌, nat_lt, ◌&&◌, Bool, false, if◌then◌else◌, Option, Some, None, List, [], ◌∷◌, ◌++◌, length, slice_get, slice_index_or}
use Rattle.std.proofs.Common.{zero, suc}
use Rattle.pm_epochs.specs.Replay.{PowerCut}
use Rattle.pm_cores.specs.declared.entry.Entry.{Entry}
use Rattle.pm_cores.specs.declared.entry.Entry.TheVariants.{Load, Store, Barrier}
use Rattle.pm_cores.specs.declared.entry.Owner.{Owner}
use Rattle.pm_cores.specs.Log.{core_barriers, epoch_at}
use Rattle.pm_cores.specs.Caches.{Caches}

-- The earliest epoch of which the core has a dirty word, or the given one if that is earlier.
abbrev pub first_epoch : ℕ → ℕ → List (Option Owner) → ℕ
first_epoch core otherwise [] = otherwise
first_epoch core otherwise (None ∷ owners) = first_epoch core otherwise owners
first_epoch core otherwise (Some owner ∷ owners) =
    first_epoch core (if owner.core == core && nat_lt owner.epoch otherwise then owner.epoch else otherwise) owners

-- The first epoch of a core that has a dirty word, or the core's current epoch if none has.
abbrev pub dirty_epoch : ℕ → Caches → ℕ
dirty_epoch core caches = first_epoch core (core_barriers core caches.log) caches.owners

-- The flag of the entry at a position, if it is the core's store of an epoch.
abbrev pub flag_in : ℕ → ℕ → List Entry → List Bool → ℕ → Option Entry → List Bool
flag_in core epoch log back place None = []
flag_in core epoch log back place (Some (Load other word)) = []
flag_in core epoch log back place (Some (Store other word value)) =
    if other == core && epoch_at log other place == epoch then slice_index_or back place false ∷ [] else []
flag_in core epoch log back place (Some (Barrier other)) = []

-- The flags of the core's stores of an epoch, in order, among this number of entries.
abbrev pub mask_to : ℕ → ℕ → List Entry → List Bool → ℕ → List Bool
mask_to core epoch log back zero = []
mask_to core epoch log back (suc place) =
    mask_to core epoch log back place ++ flag_in core epoch log back place (slice_get log place)

-- The crash point of the stores of core 0, after this number of events.
abbrev pub cut_at : Caches → ℕ → PowerCut
cut_at caches moment = record {
  moment = moment;
  epoch = dirty_epoch 0 caches;
  mask = mask_to 0 (dirty_epoch 0 caches) caches.log caches.back (length caches.log);
}
