use Rattle.std.proofs.Common.{sym, ◌∙◌}
use Rattle.pm_region.specs.Memory.{current_words}
use Rattle.bp_changes.proofs.ReachedOn.{reached_on}
use Rattle.bp_changes.proofs.ShapeLaws.{empty-same}
use Rattle.bp_layout.specs.Need.Change.{enters}
use Rattle.bp_layout.specs.Need.Entrant.{linked}
use Rattle.bp_calls.specs.Created.{LinksEntry}
use Rattle.bp_calls.proofs.CommitLaws.{committed_thawed, lacking_space}
use Rattle.bp_calls.proofs.NewNames.{lacks_on}
use Rattle.bp_calls.proofs.hard_links.link_in.Goals as goal

pub thaw_linked-requires-clause-slot : goal.thaw_linked-requires-clause-slot
thaw_linked-requires-clause-slot g c = c.requires.slot

pub add_link-requires-clause-can : goal.add_link-requires-clause-can
add_link-requires-clause-can g c =
    let memory = g.R.Region.memory in
    let image = current_words (memory c.args.parts.now.region) in
    let after = current_words (memory c.thaw_linked.new.parts.region) in
    let shape = c.in-Ok.ensures.thaws.thaws.shape in
    record {
      link = record {
        lacks = lacks_on image after shape c.args.dir c.args.name.now
            (record { well_formed = c.requires.mounted.well_formed; reached = c.requires.reached; directory = c.requires.directory; form = c.requires.name; missing = c.requires.new });
        there = reached_on image after shape.meaning c.args.ino c.requires.there;
        file = shape.meaning.kind c.args.ino c.requires.there ∙ c.requires.file;
      };
      exact = c.in-Ok.ensures.thaws.exact.sets;
      thawed = c.in-Ok.ensures.thawed;
    }

pub add_link-requires-clause-exact : goal.add_link-requires-clause-exact
add_link-requires-clause-exact g c = c.in-Ok.ensures.thaws.exact

pub add_link-requires-clause-slot : goal.add_link-requires-clause-slot
add_link-requires-clause-slot g c =
    let memory = g.R.Region.memory in
    let image = current_words (memory c.args.parts.now.region) in
    c.requires.slot ∙ sym (empty-same image (current_words (memory c.thaw_linked.new.parts.region)) c.in-Ok.ensures.thaws.thaws.shape c.args.dir c.requires.reached c.requires.directory)

pub returns-in-Ok : goal.returns-in-Ok
returns-in-Ok g c =
    committed_thawed g.R.Region.memory (enters c.args.dir linked) (LinksEntry c.args.dir c.args.name.now c.args.ino) c.args.parts.now c.thaw_linked.new.parts c.add_link.new.parts c.requires.mounted
    (c.requires.reached, c.requires.directory) c.in-Ok.ensures.thaws _ c.add_link.ensures

pub returns-in-Err : goal.returns-in-Err
returns-in-Err g c = lacking_space g.R.Region.memory c.args.parts.now c.thaw_linked.new.parts c.requires.mounted.exact c.in-Err.ensures.refused c.in-Err.ensures.same
