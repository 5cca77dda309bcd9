use Rattle.std.proofs.Common.{arith}
use Rattle.bp_shell.proofs.FormattingLaws.{prefix_made, length-prefix}
use Rattle.bp_shell.proofs.format.new_first_blocks.Goals as goal

pub returns-clause-size : goal.returns-clause-size
returns-clause-size c = length-prefix c.in_ok-region.region c.lay_first_blocks.new.region c.args.version 1024 c.args.blocks _ c.in_ok-region.ensures.words c.in_ok-region.ensures.drained c.lay_first_blocks.ensures c.in_ok-prefix.ensures

pub returns-clause-image : goal.returns-clause-image
returns-clause-image c =
    prefix_made c.in_ok-region.region c.lay_first_blocks.new.region c.args.version 1024 c.args.blocks _ c.in_ok-region.ensures.words c.in_ok-region.ensures.drained c.lay_first_blocks.ensures c.in_ok-prefix.ensures
    (omega arith) (omega (arith, c.requires))
