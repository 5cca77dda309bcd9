use Rattle.std.proofs.Common.{refl, sym, ◌∙◌, arith}
use Rattle.std.proofs.lemmas.List.{length-set}
use Rattle.pm_region.specs.Memory.{current_words}
use Rattle.bp_calls.proofs.CountLaws.{exact_with, reached_counted}
use Rattle.bp_calls.proofs.FewNames.{few_names}
use Rattle.bp_layout.specs.Need.Change.{enters}
use Rattle.bp_layout.specs.Need.Entrant.{linked}
use Rattle.bp_changes.specs.Sets.{in_snapshot_of}
use Rattle.bp_calls.specs.Created.{LinksEntry}
use Rattle.bp_calls.proofs.NewNames.{within_call}
use Rattle.bp_calls.proofs.ShareLaws.{can_link_past_end, link_loose, link_room}
use Rattle.bp_calls.proofs.hard_links.add_link.Goals as goal

pub names-names-requires : goal.names-names-requires
names-names-requires g c =
    reached_counted (current_words (g.R.Region.memory c.args.parts.now.region)) c.args.parts.now c.requires.exact c.requires.can.link.lacks.well_formed c.args.ino c.requires.can.link.there

pub overflow_add-names : goal.overflow_add-names
overflow_add-names g c =
    let image = current_words (g.R.Region.memory c.args.parts.now.region) in
    let low = reached_counted image c.args.parts.now c.requires.exact c.requires.can.link.lacks.well_formed c.args.ino c.requires.can.link.there in
    let few = few_names image c.requires.can.link.lacks.well_formed c.args.ino _ (c.requires.exact.counts.each c.args.ino low) in
    omega (arith, few, c.names-names.ensures, c.requires.can.link.lacks.well_formed.formatted.sized.at_most)

pub set-requires : goal.set-requires
set-requires g c =
    reached_counted (current_words (g.R.Region.memory c.args.parts.now.region)) c.args.parts.now c.requires.exact c.requires.can.link.lacks.well_formed c.args.ino c.requires.can.link.there

pub link_slot-requires-clause-found : goal.link_slot-requires-clause-found
link_slot-requires-clause-found g c = sym c.requires.slot ∙ c.in-Some.is

pub link_slot-requires-clause-room : goal.link_slot-requires-clause-room
link_slot-requires-clause-room g c =
    link_room (g.R.Region.memory c.args.parts.now.region) c.args.parts.now.free_blocks c.args.parts.now.free_inodes c.args.dir c.args.ino c.args.name.now c.requires.can

pub link_past_end-requires : goal.link_past_end-requires
link_past_end-requires g c =
    record {
      can = can_link_past_end (g.R.Region.memory c.args.parts.now.region) c.args.parts.now.free_blocks c.args.parts.now.free_inodes c.args.dir c.args.ino c.args.name.now c.requires.can (sym c.requires.slot ∙ c.in-None.is);
    }

pub returns-in-Some : goal.returns-in-Some
returns-in-Some g c =
    let old = g.R.Region.memory c.args.parts.now.region in
    let new = g.R.Region.memory c.link_slot.new.region in
    let low = reached_counted (current_words old) c.args.parts.now c.requires.exact c.requires.can.link.lacks.well_formed c.args.ino c.requires.can.link.there in
    let in_snapshot = in_snapshot_of c.args.parts.now in
    let loose = link_loose old c.args.parts.now.free_blocks c.args.parts.now.free_inodes c.args.dir c.args.ino c.args.name.now c.requires.can in
    let done = c.link_slot.ensures.performs in_snapshot (loose.slot c.in-Some.slot (sym c.requires.slot ∙ c.in-Some.is)) in
    record {
      performs = within_call old new (enters c.args.dir linked) c.args.dir (LinksEntry c.args.dir c.args.name.now c.args.ino) refl done;
      snapshot_blocks = refl;
      exact = exact_with (current_words old) (current_words new) c.args.parts.now _ c.requires.exact (c.link_slot.ensures.exact in_snapshot c.args.parts.now.free_blocks c.args.parts.now.free_inodes c.requires.can.exact) refl
          done.effect.adds.trees.whole (rw c.set.ensures (length-set c.args.parts.now.link_counts c.args.ino _))
          (rw (c.set.ensures, c.names-names.ensures) (c.link_slot.ensures.counts c.args.parts.now.link_counts low c.requires.exact.counts));
    }

pub returns-in-None : goal.returns-in-None
returns-in-None g c =
    let old = g.R.Region.memory c.args.parts.now.region in
    let new = g.R.Region.memory c.link_past_end.new.parts.region in
    let low = reached_counted (current_words old) c.args.parts.now c.requires.exact c.requires.can.link.lacks.well_formed c.args.ino c.requires.can.link.there in
    record {
      performs = within_call old new (enters c.args.dir linked) c.args.dir (LinksEntry c.args.dir c.args.name.now c.args.ino) refl c.link_past_end.ensures.performs;
      snapshot_blocks = c.link_past_end.ensures.keeps.snapshot_blocks;
      exact = exact_with (current_words old) (current_words new) c.args.parts.now _ c.requires.exact (rw c.link_past_end.ensures.keeps.free_inodes (c.link_past_end.ensures.exact c.args.parts.now.free_inodes c.requires.can.exact)) c.link_past_end.ensures.keeps.snapshot_blocks
          c.link_past_end.ensures.performs.effect.adds.trees.whole (rw (c.link_past_end.ensures.keeps.link_counts, c.set.ensures) (length-set c.args.parts.now.link_counts c.args.ino _))
          (rw (c.link_past_end.ensures.keeps.link_counts, c.set.ensures, c.names-names.ensures) (c.link_past_end.ensures.counts c.args.parts.now.link_counts low c.requires.exact.counts));
    }
