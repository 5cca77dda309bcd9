use Rattle.std.proofs.Common.{sym, ◌∙◌}
use Rattle.std.proofs.lemmas.Bool.{eqb-true}
use Rattle.bp_free.specs.Set.{has}
use Rattle.bp_thaw.specs.Thaws.{paths_in}
use Rattle.bp_thaw.proofs.ThawStores.{stored_links}
use Rattle.bp_thaw.proofs.Whole.{IsCopying, can_fill_all, enough, links_mid, none_found, places_mid, room_mid, thaws_all, thaws_nothing}
use Rattle.bp_thaw.proofs.thaws.thaw.Given as given
use Rattle.bp_thaw.proofs.thaws.thaw.Goals.{After-take_all-copies}
use Rattle.bp_thaw.proofs.thaws.thaw.Goals as goal

-- a block is taken for each place that is found
copying : (g : given.Over) (c : After-take_all-copies g) → IsCopying (has c.args.parts.now.snapshot_blocks) (paths_in c.args.targets.now)
    (g.R.Region.memory c.args.parts.now.region) c.args.parts.now.free_blocks c.take_all-copies.new.blocks c.find-places.result.items c.take_all-copies.result.items
copying g c = record { can = c.requires.can; found = c.find-places.ensures; of = c.take_all-copies.ensures.of; takes = c.take_all-copies.ensures.takes }

pub returns-then-is_empty-clause-thaws : goal.returns-then-is_empty-clause-thaws
returns-then-is_empty-clause-thaws g c =
    let can = c.requires.can in
    let none = none_found _ _ _ _ can c.find-places.result.items c.find-places.ensures (eqb-true _ _ (sym c.is_empty.ensures ∙ c.if-is_empty.true)) in
    thaws_nothing _ _ (g.R.Region.memory c.args.parts.now.region) c.args.parts.now.free_blocks can none

pub take_all-copies-requires : goal.take_all-copies-requires
take_all-copies-requires g c = enough _ _ _ _ c.requires.can c.find-places.result.items c.find-places.ensures

pub fill_all-requires : goal.fill_all-requires
fill_all-requires g c = can_fill_all _ _ _ _ _ _ _ (copying g (goal.at.fill_all-requires g c).After-take_all-copies)

pub links_to-links-requires : goal.links_to-links-requires
links_to-links-requires g c =
    let mid = g.R.Region.memory c.fill_all.new.region in
    places_mid _ _ _ _ _ _ _ (copying g (goal.at.links_to-links-requires g c).After-take_all-copies) mid c.fill_all.ensures

pub store_links-requires : goal.store_links-requires
store_links-requires g c =
    let mid = g.R.Region.memory c.fill_all.new.region in
    let copies = copying g (goal.at.store_links-requires g c).After-take_all-copies in
    rw c.links_to-links.ensures
    (record { places = links_mid _ _ _ _ _ _ _ copies mid c.fill_all.ensures; room = room_mid _ _ _ _ _ _ _ copies mid c.fill_all.ensures })

pub returns-clause-thaws : goal.returns-clause-thaws
returns-clause-thaws g c =
    let mid = g.R.Region.memory c.fill_all.new.region in
    let last = g.R.Region.memory c.store_links.new.region in
    thaws_all _ _ _ _ _ _ _ (copying g (goal.at.returns-clause-thaws g c).After-take_all-copies) mid c.fill_all.ensures last
    (stored_links mid last _ c.links_to-links.result.items c.links_to-links.ensures c.store_links.ensures)
