use Rattle.std.proofs.Common.{◌≡◌, map, take}
use Rattle.std.specs.List.{All}
use Rattle.bp_plain.specs.Seen.{LiesIn}
use Rattle.bpfs_c.specs.Patches.{piece_of}
use Rattle.bpfs_c.proofs.batch.pieces_in.Given as goal

abbrev pub invariant-loop-patch : goal.invariant-loop-patch
invariant-loop-patch l =
    record {
      pieces : l.pieces.items ≡ map piece_of (take l.patch-index l.patches);
      lie : All (LiesIn l.text) (map piece_of (take l.patch-index l.patches));
    }
