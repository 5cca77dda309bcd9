use Rattle.std.proofs.Common.{◌∙◌, subst, arith}
use Rattle.bp_calls.specs.ThawedFor.{IsThawedFor}
use Rattle.bp_calls.proofs.CommitLaws.{lacking_space}
use Rattle.bp_calls.proofs.TargetPaths.{directory_some}
use Rattle.bp_changes.specs.Sets.{in_snapshot_of}
use Rattle.pm_region.specs.Memory.{current_words}
use Rattle.bp_rename.specs.Planned.{TouchesOnto}
use Rattle.bp_rename.specs.TouchesTwo.{AnyTree}
use Rattle.bp_rename.proofs.OntoLaws.{replaced}
use Rattle.bp_rename.proofs.Plans.{onto_needs, onto_over, onto_planned}
use Rattle.bp_rename.proofs.Renames.{onto_change, onto_renames}
use Rattle.bp_rename.proofs.TwoWords.{touches_two}
use Rattle.bp_rename.proofs.onto.rename_onto.Given.{Over}
use Rattle.bp_rename.proofs.onto.rename_onto.Goals.{After-touched_two-touched}
use Rattle.bp_rename.proofs.onto.rename_onto.Goals as goal

-- the inode numbers of the entry that moves and of the one that has the new name are touched
touches : (g : Over) (c : After-touched_two-touched g)
    → TouchesOnto (current_words (g.R.Region.memory c.args.parts.now.region)) c.args.to_move.now c.args.slot c.touched_two-touched.result
touches g c =
    let image = current_words (g.R.Region.memory c.args.parts.now.region) in
    let made = c.touched_two-touched.ensures in
    touches_two image AnyTree c.touched_two-touched.result c.words_onto-words.result c.trees_of_both-trees.result
    made.words made.none made.trees c.trees_of_both-trees.ensures c.words_onto-words.ensures

pub ready_ways-requires-clause-empty : goal.ready_ways-requires-clause-empty
ready_ways-requires-clause-empty g c = λ none other. absurd (cc)

pub ready_ways-requires-clause-planned : goal.ready_ways-requires-clause-planned
ready_ways-requires-clause-planned g c =
    let image = current_words (g.R.Region.memory c.args.parts.now.region) in
    onto_planned image c.args.to_move.now c.requires.can c.args.slot c.requires.onto c.touched_two-touched.result
    (touches g (goal.at.ready_ways-requires-clause-planned g c).After-touched_two-touched)

pub ready_ways-requires-clause-needs : goal.ready_ways-requires-clause-needs
ready_ways-requires-clause-needs g c =
    let image = current_words (g.R.Region.memory c.args.parts.now.region) in
    onto_needs image c.args.to_move.now c.requires.can c.args.slot c.requires.onto c.touched_two-touched.result
    (touches g (goal.at.ready_ways-requires-clause-needs g c).After-touched_two-touched)

pub move_onto-requires-clause-thawed : goal.move_onto-requires-clause-thawed
move_onto-requires-clause-thawed g c =
    subst (IsThawedFor (in_snapshot_of c.ready_ways.new.parts) (g.R.Region.memory c.ready_ways.new.parts.region) c.ready_ways.new.parts.free_blocks) (onto_change c.args.to_move.now c.args.slot c.requires.onto) c.in-Ok.ensures.ready.thawed

pub move_onto-requires-clause-touches : goal.move_onto-requires-clause-touches
move_onto-requires-clause-touches g c =
    let image = current_words (g.R.Region.memory c.args.parts.now.region) in
    onto_over image c.args.to_move.now c.requires.can c.args.slot c.requires.onto c.touched_two-touched.result
    (touches g (goal.at.move_onto-requires-clause-touches g c).After-touched_two-touched) (current_words (g.R.Region.memory c.ready_ways.new.parts.region)) c.in-Ok.ensures.ready.shape

pub returns-in-Ok : goal.returns-in-Ok
returns-in-Ok g c =
    record {
      performs = c.in-Ok.ensures.ready.performs c.move_onto.new.parts
          (onto_renames (in_snapshot_of c.ready_ways.new.parts) (g.R.Region.memory c.ready_ways.new.parts.region) (g.R.Region.memory c.move_onto.new.parts.region) c.args.to_move.now c.args.slot c.requires.onto c.move_onto.ensures.performs);
      snapshot_blocks = c.move_onto.ensures.snapshot_blocks ∙ c.in-Ok.ensures.ready.snapshot_blocks;
      exact = c.move_onto.ensures.exact;
      refused = tt;
      same = tt;
    }

pub returns-in-Err : goal.returns-in-Err
returns-in-Err g c = lacking_space g.R.Region.memory c.args.parts.now c.ready_ways.new.parts c.requires.exact c.in-Err.ensures.refused c.in-Err.ensures.same

-- ---- the trees that the ways go through

pub trees_of_both-trees-requires-clause-first_some : goal.trees_of_both-trees-requires-clause-first_some
trees_of_both-trees-requires-clause-first_some g c = directory_some (current_words (g.R.Region.memory c.args.parts.now.region)) c.args.to_move.now.from_dir c.requires.can.entry.directory

pub trees_of_both-trees-requires-clause-first_entries : goal.trees_of_both-trees-requires-clause-first_entries
trees_of_both-trees-requires-clause-first_entries g c = omega (arith, c.requires.can.entry.in_size)

pub trees_of_both-trees-requires-clause-second_some : goal.trees_of_both-trees-requires-clause-second_some
trees_of_both-trees-requires-clause-second_some g c = directory_some (current_words (g.R.Region.memory c.args.parts.now.region)) c.args.to_move.now.to_dir c.requires.can.directory

pub trees_of_both-trees-requires-clause-second_entries : goal.trees_of_both-trees-requires-clause-second_entries
trees_of_both-trees-requires-clause-second_entries g c = let low = (replaced (current_words (g.R.Region.memory c.args.parts.now.region)) c.args.to_move.now c.args.slot c.requires.can c.requires.onto).in_size in omega (arith, low)
