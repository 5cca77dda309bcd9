use Rattle.std.proofs.Common.{◌≡◌, ◌++◌, take}
use Rattle.bp_plain.specs.SeenTree.{names_of}
use Rattle.bp_plain.proofs.paths.add_names.Given as goal

abbrev pub invariant-loop-name : goal.invariant-loop-name
invariant-loop-name l = names_of l.path.items ≡ names_of l.fn.path.items ++ names_of (take l.name-index l.names)
