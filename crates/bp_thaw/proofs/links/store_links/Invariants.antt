use Rattle.std.proofs.Common.{◌∷◌, take}
use Rattle.pm_epochs.specs.declared.event.Event.TheVariants.{Barrier}
use Rattle.pm_epochs.specs.May.{links_of}
use Rattle.pm_region.specs.Memory.{Adds}
use Rattle.bp_thaw.proofs.links.store_links.Given as goal

abbrev pub invariant-loop-i : goal.invariant-loop-i
invariant-loop-i g l = record { adds : Adds (g.R.Region.memory l.fn.region) (g.R.Region.memory l.region) (Barrier ∷ links_of (take l.i l.links.items)) }
