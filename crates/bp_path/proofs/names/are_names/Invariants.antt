use Rattle.std.proofs.Common.{◌≡◌, length}
use Rattle.std.specs.List.{list_all}
use Rattle.bp_layout.specs.Paths.{is_name, parts}
use Rattle.bp_path.proofs.names.are_names.Given as goal

abbrev pub invariant-loop-end : goal.invariant-loop-end
invariant-loop-end l = list_all is_name (parts l.rest) ≡ list_all is_name (parts l.text)

abbrev pub decreases-loop-end : goal.decreases-loop-end
decreases-loop-end l = length l.rest
