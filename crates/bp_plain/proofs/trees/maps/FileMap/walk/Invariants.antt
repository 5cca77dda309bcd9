use Rattle.std.proofs.Common.{◌≡◌}
use Rattle.bp_plain.specs.Plain.{walk}
use Rattle.bp_plain.specs.SeenTree.{names_of}
use Rattle.bp_plain.proofs.PathLaws.{walked}
use Rattle.bp_plain.proofs.trees.maps.FileMap.walk.Given as goal

abbrev pub invariant-loop-depth : goal.invariant-loop-depth
invariant-loop-depth l = walked l.self.nodes l.path l.depth ≡ walk l.self.nodes (names_of l.path)
