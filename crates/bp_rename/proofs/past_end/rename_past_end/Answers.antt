use Rattle.std.proofs.Common.{sym, ◌∙◌, subst, arith}
use Rattle.bp_calls.specs.ThawedFor.{IsThawedFor}
use Rattle.bp_calls.proofs.CommitLaws.{lacking_space}
use Rattle.bp_calls.proofs.NewNames.{entry_need_is}
use Rattle.bp_calls.proofs.PutsLaws.{small_directory}
use Rattle.bp_calls.proofs.TargetPaths.{directory_some}
use Rattle.bp_changes.specs.Sets.{in_snapshot_of}
use Rattle.pm_region.specs.Memory.{current_words}
use Rattle.bp_rename.specs.Planned.{TouchesPastEnd}
use Rattle.bp_rename.specs.TouchesTwo.{OtherTree}
use Rattle.bp_rename.proofs.Plans.{past_end_needs, past_end_none, past_end_over, past_end_planned}
use Rattle.bp_rename.proofs.Renames.{across_change, across_renames}
use Rattle.bp_rename.proofs.TwoWords.{touches_two}
use Rattle.bp_rename.proofs.past_end.rename_past_end.Given.{Over}
use Rattle.bp_rename.proofs.past_end.rename_past_end.Goals.{After-touched_two-touched}
use Rattle.bp_rename.proofs.past_end.rename_past_end.Goals as goal

-- the size of the new directory and the inode number of the entry that moves are touched
touches : (g : Over) (c : After-touched_two-touched g)
    → TouchesPastEnd (current_words (g.R.Region.memory c.args.parts.now.region)) c.args.to_move.now c.touched_two-touched.result
touches g c =
    let image = current_words (g.R.Region.memory c.args.parts.now.region) in
    let to = c.args.to_move.now.to_dir in
    let made = c.touched_two-touched.ensures in
    let lists = c.trees_of_one-trees.ensures to (directory_some image to c.requires.can.directory) c.requires.other in
    touches_two image (OtherTree to) c.touched_two-touched.result c.words_past_end-words.result c.trees_of_one-trees.result
    made.words made.none made.trees lists c.words_past_end-words.ensures

pub overflow_add-target : goal.overflow_add-target
overflow_add-target g c =
    let can = c.requires.can in
    let small = small_directory (current_words (g.R.Region.memory c.args.parts.now.region)) can.well_formed c.args.to_move.now.to_dir can.target can.directory in
    omega (arith, small, c.tree_of-target.ensures.size)

pub need_prep-past_end-requires-clause-fits : goal.need_prep-past_end-requires-clause-fits
need_prep-past_end-requires-clause-fits g c =
    let can = c.requires.can in
    let small = small_directory (current_words (g.R.Region.memory c.args.parts.now.region)) can.well_formed c.args.to_move.now.to_dir can.target can.directory in
    omega (arith, small, c.tree_of-target.ensures.size)

pub ready_ways-requires-clause-empty : goal.ready_ways-requires-clause-empty
ready_ways-requires-clause-empty g c = λ none other. sym c.requires.none

pub ready_ways-requires-clause-planned : goal.ready_ways-requires-clause-planned
ready_ways-requires-clause-planned g c =
    let image = current_words (g.R.Region.memory c.args.parts.now.region) in
    past_end_planned image c.args.to_move.now c.requires.can c.requires.new c.requires.other c.requires.none c.touched_two-touched.result
    (touches g (goal.at.ready_ways-requires-clause-planned g c).After-touched_two-touched)

pub ready_ways-requires-clause-needs : goal.ready_ways-requires-clause-needs
ready_ways-requires-clause-needs g c =
    let image = current_words (g.R.Region.memory c.args.parts.now.region) in
    past_end_needs image c.args.to_move.now c.requires.can c.requires.new c.requires.other c.requires.none c.touched_two-touched.result
    (touches g (goal.at.ready_ways-requires-clause-needs g c).After-touched_two-touched) c.need_prep-past_end.result
    (c.need_prep-past_end.ensures ∙ entry_need_is image c.args.to_move.now.to_dir c.tree_of-target.result.root c.tree_of-target.result.size c.tree_of-target.ensures.root c.tree_of-target.ensures.size)

pub move_past_end-requires-clause-thawed : goal.move_past_end-requires-clause-thawed
move_past_end-requires-clause-thawed g c =
    subst (IsThawedFor (in_snapshot_of c.ready_ways.new.parts) (g.R.Region.memory c.ready_ways.new.parts.region) c.ready_ways.new.parts.free_blocks) (across_change c.args.to_move.now c.requires.new c.requires.other) c.in-Ok.ensures.ready.thawed

pub move_past_end-requires-clause-touches : goal.move_past_end-requires-clause-touches
move_past_end-requires-clause-touches g c =
    let image = current_words (g.R.Region.memory c.args.parts.now.region) in
    past_end_over image c.args.to_move.now c.requires.can c.requires.new c.requires.other c.requires.none c.touched_two-touched.result
    (touches g (goal.at.move_past_end-requires-clause-touches g c).After-touched_two-touched) (current_words (g.R.Region.memory c.ready_ways.new.parts.region)) c.in-Ok.ensures.ready.shape

pub move_past_end-requires-clause-none : goal.move_past_end-requires-clause-none
move_past_end-requires-clause-none g c =
    let image = current_words (g.R.Region.memory c.args.parts.now.region) in
    past_end_none image c.args.to_move.now c.requires.can c.requires.new c.requires.other c.requires.none c.touched_two-touched.result
    (touches g (goal.at.move_past_end-requires-clause-none g c).After-touched_two-touched) (current_words (g.R.Region.memory c.ready_ways.new.parts.region)) c.in-Ok.ensures.ready.shape

pub returns-in-Ok : goal.returns-in-Ok
returns-in-Ok g c =
    record {
      performs = c.in-Ok.ensures.ready.performs c.move_past_end.new.parts
          (across_renames (in_snapshot_of c.ready_ways.new.parts) (g.R.Region.memory c.ready_ways.new.parts.region) (g.R.Region.memory c.move_past_end.new.parts.region) c.args.to_move.now c.requires.new c.requires.other c.move_past_end.ensures.performs);
      snapshot_blocks = c.move_past_end.ensures.snapshot_blocks ∙ c.in-Ok.ensures.ready.snapshot_blocks;
      exact = c.move_past_end.ensures.exact;
      refused = tt;
      same = tt;
    }

pub returns-in-Err : goal.returns-in-Err
returns-in-Err g c = lacking_space g.R.Region.memory c.args.parts.now c.ready_ways.new.parts c.requires.exact c.in-Err.ensures.refused c.in-Err.ensures.same

-- ---- the trees that the ways go through

pub trees_of_one-trees-requires-clause-some : goal.trees_of_one-trees-requires-clause-some
trees_of_one-trees-requires-clause-some g c = directory_some (current_words (g.R.Region.memory c.args.parts.now.region)) c.args.to_move.now.from_dir c.requires.can.entry.directory

pub trees_of_one-trees-requires-clause-entries : goal.trees_of_one-trees-requires-clause-entries
trees_of_one-trees-requires-clause-entries g c = omega (arith, c.requires.can.entry.in_size)
