use Rattle.std.proofs.Common.{◌≡◌, take}
use Rattle.bp_layout.specs.Listing.{listed}
use Rattle.bp_layout.proofs.listing.Listing.of.Given as goal

abbrev pub invariant-loop-kind : goal.invariant-loop-kind
invariant-loop-kind l = l.listing ≡ listed (take l.kind-index l.entries)
