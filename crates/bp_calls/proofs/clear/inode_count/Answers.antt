use Rattle.std.proofs.Common.{arith}
use Rattle.bp_layout.proofs.FewLeaves.{inodes_fit}
use Rattle.pm_region.specs.Memory.{current_words}
use Rattle.bp_calls.proofs.clear.inode_count.Goals as goal

pub overflow_cast-result : goal.overflow_cast-result
overflow_cast-result g c =
    let image = current_words (g.R.Region.memory c.args.region.now) in
    omega (arith, inodes_fit image c.requires, c.requires.formatted.sized.at_most, c.inode_file.ensures.size)
