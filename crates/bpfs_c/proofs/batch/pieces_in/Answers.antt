use Rattle.std.proofs.Common.{rules}
use Rattle.bpfs_c.proofs.PatchLaws.{lie_more, not_fit, pieces_more}
use Rattle.bpfs_c.proofs.batch.pieces_in.Goals as goal

pub returns-then-not-lies_in : goal.returns-then-not-lies_in
returns-then-not-lies_in c =
    not_fit c.args.text.now c.args.patches.now c.loop-patch.patch-index _ c.loop-patch-test.true c.as_piece-piece.result c.as_piece-piece.ensures (search rules)

pub loop-patch-preserved : goal.loop-patch-preserved
loop-patch-preserved c =
    let text = c.args.text.now in
    let patches = c.args.patches.now in
    let i = c.loop-patch.patch-index in
    let piece = c.as_piece-piece.result in
    record {
      pieces = pieces_more text patches i _ c.loop-patch-test.true c.loop-patch.pieces.items c.push.new.self.items piece c.as_piece-piece.ensures c.loop-patch.invariant.pieces c.push.ensures.items;
      lie = lie_more text patches i _ c.loop-patch-test.true piece c.as_piece-piece.ensures c.loop-patch.invariant.lie (search rules);
    }
