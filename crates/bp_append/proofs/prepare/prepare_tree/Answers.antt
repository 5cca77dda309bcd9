use Rattle.std.proofs.Common.{arith}
use Rattle.bp_append.proofs.GrowLaws.{order, visit_top, top_range, rise_can, link_room, low_links, base_between, grows_done}
use Rattle.bp_append.proofs.prepare.prepare_tree.Goals as goal

pub overflow_cast-top : goal.overflow_cast-top
overflow_cast-top g c =
    let low = top_range c.requires.can c.requires.some c.requires.present in
    omega (arith, low, c.block.ensures, c.words-words.ensures, c.words-words.type_inv)

pub visit-hung-requires : goal.visit-hung-requires
visit-hung-requires g c = record {
  can = rw (c.block.ensures, c.height.ensures)
      (visit_top c.requires.can c.requires.some c.requires.present);
}

pub raise-root-requires-clause-order : goal.raise-root-requires-clause-order
raise-root-requires-clause-order g c =
    rw c.height_with-height.ensures (order c.requires.can c.requires.some c.requires.present)

pub raise-root-requires-clause-can : goal.raise-root-requires-clause-can
raise-root-requires-clause-can g c =
    rw c.height_with-height.ensures
    (rise_can c.requires.can c.requires.some c.requires.present
    (rw (c.block.ensures, c.height.ensures) at c.visit-hung.ensures.visits))

pub link-requires-clause-low : goal.link-requires-clause-low
link-requires-clause-low g c =
    low_links c.requires.can c.requires.some c.requires.present
    (rw (c.block.ensures, c.height.ensures) at c.visit-hung.ensures.visits)
    (rw c.height_with-height.ensures at c.raise-root.ensures.rises)

pub link-requires-clause-place : goal.link-requires-clause-place
link-requires-clause-place g c =
    base_between c.requires.can c.requires.some c.requires.present
    (rw (c.block.ensures, c.height.ensures) at c.visit-hung.ensures.visits)
    (rw c.height_with-height.ensures at c.raise-root.ensures.rises) c.args.place c.requires.place

pub link-requires-clause-room : goal.link-requires-clause-room
link-requires-clause-room g c =
    link_room c.requires.can c.requires.some c.requires.present
    (rw (c.block.ensures, c.height.ensures) at c.visit-hung.ensures.visits)
    (rw c.height_with-height.ensures at c.raise-root.ensures.rises)

pub returns-clause-grows : goal.returns-clause-grows
returns-clause-grows g c =
    grows_done c.requires.can c.requires.some c.requires.present
    (rw (c.block.ensures, c.height.ensures) at c.visit-hung.ensures.visits)
    (rw c.height_with-height.ensures at c.raise-root.ensures.rises) c.args.place (g.R.Region.memory c.link.new.region) c.link.ensures
