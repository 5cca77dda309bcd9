use Rattle.std.proofs.Common.{sym, ◌∙◌, arith}
use Rattle.pm_region.specs.Memory.{current_words}
use Rattle.bp_calls.proofs.EnteredLaws.{directory_inode}
use Rattle.bp_calls.proofs.NeedLaws.{need_in_slot}
use Rattle.bp_calls.proofs.NewNames.{entry_need_is, entry_needs}
use Rattle.bp_calls.proofs.PutsLaws.{few_past_end, small_directory}
use Rattle.bp_calls.proofs.creation.entry_need.Goals as goal

pub tree_of-tree-requires-clause-some : goal.tree_of-tree-requires-clause-some
tree_of-tree-requires-clause-some g c =
    let some = directory_inode (current_words (g.R.Region.memory c.args.region.now)) c.args.dir c.requires.directory in
    omega (arith, some)

pub overflow_add-tree : goal.overflow_add-tree
overflow_add-tree g c =
    let small = small_directory (current_words (g.R.Region.memory c.args.region.now)) c.requires.well_formed c.args.dir c.requires.reached c.requires.directory in
    omega (arith, small, c.tree_of-tree.ensures.size)

pub need_prep-requires-clause-fits : goal.need_prep-requires-clause-fits
need_prep-requires-clause-fits g c =
    let small = small_directory (current_words (g.R.Region.memory c.args.region.now)) c.requires.well_formed c.args.dir c.requires.reached c.requires.directory in
    omega (arith, small, c.tree_of-tree.ensures.size)

pub returns-in-Some-clause-need : goal.returns-in-Some-clause-need
returns-in-Some-clause-need g c =
    sym (need_in_slot (current_words (g.R.Region.memory c.args.region.now)) c.args.dir c.requires.well_formed c.requires.reached c.requires.directory c.in-Some.field-0 (sym c.requires.slot ∙ c.in-Some.is))

pub returns-in-None-clause-need : goal.returns-in-None-clause-need
returns-in-None-clause-need g c =
    c.need_prep.ensures
    ∙ entry_needs (current_words (g.R.Region.memory c.args.region.now)) c.requires.well_formed c.args.dir c.tree_of-tree.result.root c.tree_of-tree.result.size c.requires.reached c.requires.directory c.tree_of-tree.ensures.root c.tree_of-tree.ensures.size
    (sym c.requires.slot ∙ c.in-None.is)

pub returns-in-None-clause-few : goal.returns-in-None-clause-few
returns-in-None-clause-few g c =
    let image = current_words (g.R.Region.memory c.args.region.now) in
    let few = few_past_end image c.requires.well_formed c.args.dir c.requires.reached in
    let is = entry_need_is image c.args.dir c.tree_of-tree.result.root c.tree_of-tree.result.size c.tree_of-tree.ensures.root c.tree_of-tree.ensures.size in
    omega (arith, few, is, c.need_prep.ensures)
