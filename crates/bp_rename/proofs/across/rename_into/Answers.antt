use Rattle.std.proofs.Common.{sym, ◌∙◌, subst, arith}
use Rattle.bp_calls.specs.ThawedFor.{IsThawedFor}
use Rattle.bp_calls.proofs.CommitLaws.{lacking_space}
use Rattle.bp_calls.proofs.Refusals.{found_empty}
use Rattle.bp_calls.proofs.TargetPaths.{directory_some}
use Rattle.bp_changes.specs.Sets.{in_snapshot_of}
use Rattle.pm_region.specs.Memory.{current_words}
use Rattle.bp_rename.specs.Planned.{TouchesInto}
use Rattle.bp_rename.specs.TouchesTwo.{AnyTree}
use Rattle.bp_rename.proofs.Plans.{into_empty, into_needs, into_over, into_planned}
use Rattle.bp_rename.proofs.Renames.{across_change, across_renames}
use Rattle.bp_rename.proofs.TwoWords.{touches_two}
use Rattle.bp_rename.proofs.across.rename_into.Given.{Over}
use Rattle.bp_rename.proofs.across.rename_into.Goals.{After-touched_two-touched}
use Rattle.bp_rename.proofs.across.rename_into.Goals as goal

-- the inode numbers of the empty entry and of the entry that moves are touched
touches : (g : Over) (c : After-touched_two-touched g)
    → TouchesInto (current_words (g.R.Region.memory c.args.parts.now.region)) c.args.to_move.now c.args.slot c.touched_two-touched.result
touches g c =
    let image = current_words (g.R.Region.memory c.args.parts.now.region) in
    let made = c.touched_two-touched.ensures in
    touches_two image AnyTree c.touched_two-touched.result c.words_into-words.result c.trees_of_both-trees.result
    made.words made.none made.trees c.trees_of_both-trees.ensures c.words_into-words.ensures

pub ready_ways-requires-clause-empty : goal.ready_ways-requires-clause-empty
ready_ways-requires-clause-empty g c = λ none other. sym c.requires.empty

pub ready_ways-requires-clause-planned : goal.ready_ways-requires-clause-planned
ready_ways-requires-clause-planned g c =
    let image = current_words (g.R.Region.memory c.args.parts.now.region) in
    into_planned image c.args.to_move.now c.requires.can c.requires.new c.requires.other c.args.slot c.requires.empty c.touched_two-touched.result
    (touches g (goal.at.ready_ways-requires-clause-planned g c).After-touched_two-touched)

pub ready_ways-requires-clause-needs : goal.ready_ways-requires-clause-needs
ready_ways-requires-clause-needs g c =
    let image = current_words (g.R.Region.memory c.args.parts.now.region) in
    into_needs image c.args.to_move.now c.requires.can c.requires.new c.requires.other c.args.slot c.requires.empty c.touched_two-touched.result
    (touches g (goal.at.ready_ways-requires-clause-needs g c).After-touched_two-touched)

pub move_into-requires-clause-thawed : goal.move_into-requires-clause-thawed
move_into-requires-clause-thawed g c =
    subst (IsThawedFor (in_snapshot_of c.ready_ways.new.parts) (g.R.Region.memory c.ready_ways.new.parts.region) c.ready_ways.new.parts.free_blocks) (across_change c.args.to_move.now c.requires.new c.requires.other) c.in-Ok.ensures.ready.thawed

pub move_into-requires-clause-touches : goal.move_into-requires-clause-touches
move_into-requires-clause-touches g c =
    let image = current_words (g.R.Region.memory c.args.parts.now.region) in
    into_over image c.args.to_move.now c.requires.can c.requires.new c.requires.other c.args.slot c.requires.empty c.touched_two-touched.result
    (touches g (goal.at.move_into-requires-clause-touches g c).After-touched_two-touched) (current_words (g.R.Region.memory c.ready_ways.new.parts.region)) c.in-Ok.ensures.ready.shape

pub move_into-requires-clause-empty : goal.move_into-requires-clause-empty
move_into-requires-clause-empty g c =
    let image = current_words (g.R.Region.memory c.args.parts.now.region) in
    into_empty image c.args.to_move.now c.requires.can c.requires.new c.requires.other c.args.slot c.requires.empty c.touched_two-touched.result
    (touches g (goal.at.move_into-requires-clause-empty g c).After-touched_two-touched) (current_words (g.R.Region.memory c.ready_ways.new.parts.region)) c.in-Ok.ensures.ready.shape

pub returns-in-Ok : goal.returns-in-Ok
returns-in-Ok g c =
    record {
      performs = c.in-Ok.ensures.ready.performs c.move_into.new.parts
          (across_renames (in_snapshot_of c.ready_ways.new.parts) (g.R.Region.memory c.ready_ways.new.parts.region) (g.R.Region.memory c.move_into.new.parts.region) c.args.to_move.now c.requires.new c.requires.other c.move_into.ensures.performs);
      snapshot_blocks = c.move_into.ensures.snapshot_blocks ∙ c.in-Ok.ensures.ready.snapshot_blocks;
      exact = c.move_into.ensures.exact;
      refused = tt;
      same = tt;
    }

pub returns-in-Err : goal.returns-in-Err
returns-in-Err g c = lacking_space g.R.Region.memory c.args.parts.now c.ready_ways.new.parts c.requires.exact c.in-Err.ensures.refused c.in-Err.ensures.same

-- ---- the trees that the ways go through

pub trees_of_both-trees-requires-clause-first_some : goal.trees_of_both-trees-requires-clause-first_some
trees_of_both-trees-requires-clause-first_some g c = directory_some (current_words (g.R.Region.memory c.args.parts.now.region)) c.args.to_move.now.from_dir c.requires.can.entry.directory

pub trees_of_both-trees-requires-clause-first_entries : goal.trees_of_both-trees-requires-clause-first_entries
trees_of_both-trees-requires-clause-first_entries g c = omega (arith, c.requires.can.entry.in_size)

pub trees_of_both-trees-requires-clause-second_some : goal.trees_of_both-trees-requires-clause-second_some
trees_of_both-trees-requires-clause-second_some g c = directory_some (current_words (g.R.Region.memory c.args.parts.now.region)) c.args.to_move.now.to_dir c.requires.can.directory

pub trees_of_both-trees-requires-clause-second_entries : goal.trees_of_both-trees-requires-clause-second_entries
trees_of_both-trees-requires-clause-second_entries g c = let low = (found_empty (current_words (g.R.Region.memory c.args.parts.now.region)) c.args.to_move.now.to_dir c.args.slot c.requires.empty).0 in omega (arith, low)
