use Rattle.std.proofs.Common.{◌≡◌, map}
use Rattle.bp_plain.specs.SeenTree.{entry_kept}
use Rattle.bp_plain.proofs.Renamed.{all_put}
use Rattle.bp_plain.proofs.trees.entries.Files.changed.Given as goal

abbrev pub invariant-loop-path : goal.invariant-loop-path
invariant-loop-path l =
    all_put l.change (map entry_kept l.path-iterator.iter) l.files
    ≡ all_put l.change (map entry_kept l.initial.path-iterator.iter) l.initial.files
