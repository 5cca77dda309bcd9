use Rattle.std.proofs.Common.{ℕ, Option, sym, ◌∙◌, ap, subst}
use Rattle.pm_region.specs.Memory.{current_words}
use Rattle.bp_changes.proofs.ShapeLaws.{empty-same}
use Rattle.bp_free.specs.declared.parts.Parts.{Parts}
use Rattle.bp_layout.specs.Free.{IsLeastFree}
use Rattle.bp_layout.specs.Need.Change.{enters}
use Rattle.bp_changes.specs.Sets.{IsExact}
use Rattle.bp_calls.specs.Created.{EntersName}
use Rattle.bp_changes.specs.Entrant.{entrant_of}
use Rattle.bp_calls.proofs.EnterThawed.{least_back, least_on}
use Rattle.bp_calls.proofs.NewNames.{is_reported, lacks_on}
use Rattle.bp_calls.proofs.ThawedParts.{performed_thawed}
use Rattle.bp_calls.proofs.creation.create_in.Given.{Over}
use Rattle.bp_calls.proofs.creation.create_in.Goals.{Start}
use Rattle.bp_calls.proofs.creation.create_in.Goals as goal

pub thaw_new-requires-clause-slot : goal.thaw_new-requires-clause-slot
thaw_new-requires-clause-slot g c = c.requires.slot

-- some inode is the least free one, or none is free
least : (g : Over) (c : Start g) → (free : Option ℕ) × IsLeastFree (current_words (g.R.Region.memory c.args.parts.now.region)) free
least g c =
    let parts = c.args.parts.now in
    let mounted = c.requires.mounted in
    is_reported (current_words (g.R.Region.memory parts.region)) mounted.well_formed parts.free_blocks parts.free_inodes mounted.exact.sets c.args.dir
    c.requires.reached c.requires.directory

pub enter_new-requires-clause-lacks : goal.enter_new-requires-clause-lacks
enter_new-requires-clause-lacks g c =
    let memory = g.R.Region.memory in
    let parts = c.args.parts.now in
    let image = current_words (memory parts.region) in
    let reported = least g (goal.at.enter_new-requires-clause-lacks g c).Start in
    lacks_on image (current_words (memory c.thaw_new.new.parts.region)) (c.in-Ok.ensures.thaws reported.0 reported.1).thaws.shape c.args.dir c.args.name.now
    (record { well_formed = c.requires.mounted.well_formed; reached = c.requires.reached; directory = c.requires.directory; form = c.requires.name; missing = c.requires.new })

pub enter_new-requires-clause-exact : goal.enter_new-requires-clause-exact
enter_new-requires-clause-exact g c =
    let reported = least g (goal.at.enter_new-requires-clause-exact g c).Start in
    (c.in-Ok.ensures.thaws reported.0 reported.1).exact

pub enter_new-requires-clause-slot : goal.enter_new-requires-clause-slot
enter_new-requires-clause-slot g c =
    let memory = g.R.Region.memory in
    let parts = c.args.parts.now in
    let image = current_words (memory parts.region) in
    let reported = least g (goal.at.enter_new-requires-clause-slot g c).Start in
    c.requires.slot ∙ sym (empty-same image (current_words (memory c.thaw_new.new.parts.region)) (c.in-Ok.ensures.thaws reported.0 reported.1).thaws.shape c.args.dir c.requires.reached c.requires.directory)

pub enter_new-requires-clause-thawed : goal.enter_new-requires-clause-thawed
enter_new-requires-clause-thawed g c =
    let memory = g.R.Region.memory in
    let parts = c.args.parts.now in
    let image = current_words (memory parts.region) in
    let reported = least g (goal.at.enter_new-requires-clause-thawed g c).Start in
    let shape = (c.in-Ok.ensures.thaws reported.0 reported.1).thaws.shape in
    λ free least. c.in-Ok.ensures.thawed free (least_back image (current_words (memory c.thaw_new.new.parts.region)) c.requires.mounted.well_formed shape free least)

pub returns-in-Ok : goal.returns-in-Ok
returns-in-Ok g c =
    let memory = g.R.Region.memory in
    let parts = c.args.parts.now in
    let image = current_words (memory parts.region) in
    let reported = least g (goal.at.returns-in-Ok g c).Start in
    record {
      performs = λ free least.
          let done = c.in-Ok.ensures.thaws free least in
          performed_thawed memory (enters c.args.dir (entrant_of free)) parts c.thaw_new.new.parts c.requires.mounted (c.requires.reached, c.requires.directory) done
          c.enter_new.new.parts (EntersName c.args.dir c.args.name.now c.args.kind)
          (c.enter_new.ensures.performs free (least_on image (current_words (memory c.thaw_new.new.parts.region)) c.requires.mounted.well_formed done.thaws.shape free least));
      snapshot_blocks = c.enter_new.ensures.snapshot_blocks ∙ (c.in-Ok.ensures.thaws reported.0 reported.1).snapshot_blocks;
      exact = c.enter_new.ensures.exact;
      refused = tt;
      same = tt;
    }

pub returns-in-Err : goal.returns-in-Err
returns-in-Err g c =
    let memory = g.R.Region.memory in
    record {
      performs = tt;
      snapshot_blocks = ap (λ (parts : Parts g.row.R.Denot). parts.snapshot_blocks) c.in-Err.ensures.same;
      exact = subst (λ (parts : Parts g.row.R.Denot). IsExact (current_words (memory parts.region)) parts) (sym c.in-Err.ensures.same) c.requires.mounted.exact;
      refused = c.in-Err.ensures.refused;
      same = c.in-Err.ensures.same;
    }
