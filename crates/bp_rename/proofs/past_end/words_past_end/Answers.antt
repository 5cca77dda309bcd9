use Rattle.std.proofs.Common.{arith}
use Rattle.pm_region.specs.Memory.{current_words}
use Rattle.bp_calls.proofs.PutsLaws.{small_directory}
use Rattle.bp_rename.proofs.past_end.words_past_end.Goals as goal

pub overflow_add-result : goal.overflow_add-result
overflow_add-result g c =
    let can = c.requires.can in
    let small = small_directory (current_words (g.R.Region.memory c.args.region.now)) can.well_formed c.args.to_move.now.to_dir can.target can.directory in
    omega (arith, small, c.tree_of-target.ensures.size)
