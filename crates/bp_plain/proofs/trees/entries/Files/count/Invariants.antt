use Rattle.std.proofs.Common.{◌≡◌, ◌+◌, length, map}
use Rattle.bp_plain.specs.Numbered.{paths_numbered}
use Rattle.bp_plain.specs.SeenTree.{entry_kept}
use Rattle.bp_plain.proofs.trees.entries.Files.count.Given as goal

abbrev pub invariant-loop-node : goal.invariant-loop-node
invariant-loop-node l =
    l.count + length (paths_numbered l.id (map entry_kept l.node-iterator))
    ≡ length (paths_numbered l.id (map entry_kept l.initial.node-iterator))
