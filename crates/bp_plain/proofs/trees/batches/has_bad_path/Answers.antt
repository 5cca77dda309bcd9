use Rattle.bp_plain.proofs.trees.batches.has_bad_path.Goals as goal

pub part_of-requires : goal.part_of-requires
part_of-requires c = (c.requires c.loop-piece.piece-index _ c.loop-piece-test.true).path
