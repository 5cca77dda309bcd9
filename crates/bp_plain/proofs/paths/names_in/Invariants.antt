use Rattle.std.proofs.Common.{◌≡◌, [], length}
use Rattle.bp_layout.specs.Paths.{parts}
use Rattle.bp_plain.specs.SeenTree.{all_names, names_of}
use Rattle.bp_plain.proofs.paths.names_in.Given as goal

abbrev pub invariant-loop-end : goal.invariant-loop-end
invariant-loop-end l = all_names (names_of l.names.items) (parts l.rest) ≡ all_names [] (parts l.text)

abbrev pub decreases-loop-end : goal.decreases-loop-end
decreases-loop-end l = length l.rest
