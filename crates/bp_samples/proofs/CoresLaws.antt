-- The caches of the rows stay as many, over as many words.
use Rattle.std.proofs.Common.{ℕ, Option, Some, None, ◌∙◌}
use Rattle.pm_cores.specs.declared.entry.Owner.{Owner}
use Rattle.pm_cores.specs.Log.{core_barriers}
use Rattle.pm_cores.specs.Caches.{Caches, after_load, after_store, line_owner, owner_at, with_back, written_by, written_under}
use Rattle.pm_cores.proofs.Calls.{load_frame, store_frame}
use Rattle.bp_samples.specs.Cores.{AreTwo}

pub two_stored : (caches : Caches) (core word value : ℕ) → AreTwo caches → AreTwo (after_store caches core word value)
unfolding after_store
two_stored caches core word value two =
    let frame = store_frame caches core (core_barriers core caches.log) (line_owner caches word) in
    record { cores = frame.cores ∙ two.cores; words = frame.size ∙ two.words }

pub two_loaded : (caches : Caches) (core word : ℕ) → AreTwo caches → AreTwo (after_load caches core word)
unfolding after_load
two_loaded caches core word two =
    let frame = load_frame caches core (line_owner caches word) in
    record { cores = frame.cores ∙ two.cores; words = frame.size ∙ two.words }

two_written : (caches : Caches) (word : ℕ) (owner : Option Owner) → AreTwo caches → AreTwo (written_under caches word owner)
unfolding written_by
two_written caches word None two = two
two_written caches word (Some owner) two = record { cores = two.cores; words = two.words }

pub two_back : (caches : Caches) (word : ℕ) → AreTwo caches → AreTwo (with_back caches word)
two_back caches word two = two_written caches word (owner_at caches word) two
