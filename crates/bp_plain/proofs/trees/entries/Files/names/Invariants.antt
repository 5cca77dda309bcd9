use Rattle.std.proofs.Common.{◌≡◌, ◌++◌}
use Rattle.bp_layout.specs.Listing.{listed}
use Rattle.bp_plain.proofs.Kept.{rows}
use Rattle.bp_plain.proofs.trees.entries.Files.names.Given as goal

abbrev pub invariant-loop-path : goal.invariant-loop-path
invariant-loop-path l = listed l.names.items ++ rows l.dir l.path-iterator ≡ rows l.dir l.initial.path-iterator
