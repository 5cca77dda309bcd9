use Rattle.std.proofs.Common.{◌*◌, ◌∙◌, ap, refl, sym}
use Rattle.bp_volume.specs.Snapped.Unsnaps.{refused}
use Rattle.bp_volume.proofs.SnapLaws.{unsnap_none, unsnapped_blocks, unsnapped_well}
use Rattle.bp_volume.proofs.snapshot.do_unsnap.Goals as goal

pub returns-then-not-has_second-clause-unsnaps : goal.returns-then-not-has_second-clause-unsnaps
returns-then-not-has_second-clause-unsnaps g c = refused refl (unsnap_none _ (sym c.has_second.ensures ∙ c.if-not-has_second.true))

pub rescan-requires-clause-well_formed : goal.rescan-requires-clause-well_formed
rescan-requires-clause-well_formed g c = unsnapped_well (g.R.Region.memory c.args.parts.now.region) _ c.requires.ready.well_formed (sym c.has_second.ensures ∙ c.if-not-has_second.false) c.drop_snapshot.ensures

pub rescan-requires-clause-blocks : goal.rescan-requires-clause-blocks
rescan-requires-clause-blocks g c =
    c.requires.ready.exact.sets.block_room
    ∙ sym (unsnapped_blocks (g.R.Region.memory c.args.parts.now.region) _ c.requires.ready.well_formed (sym c.has_second.ensures ∙ c.if-not-has_second.false) c.drop_snapshot.ensures)

pub rescan-requires-clause-inodes : goal.rescan-requires-clause-inodes
rescan-requires-clause-inodes g c =
    c.requires.ready.exact.sets.inode_room
    ∙ ap (λ n. 64 * n) (sym (unsnapped_blocks (g.R.Region.memory c.args.parts.now.region) _ c.requires.ready.well_formed (sym c.has_second.ensures ∙ c.if-not-has_second.false) c.drop_snapshot.ensures))

pub rescan-requires-clause-counts : goal.rescan-requires-clause-counts
rescan-requires-clause-counts g c =
    c.requires.ready.exact.count_room
    ∙ ap (λ n. 64 * n) (sym (unsnapped_blocks (g.R.Region.memory c.args.parts.now.region) _ c.requires.ready.well_formed (sym c.has_second.ensures ∙ c.if-not-has_second.false) c.drop_snapshot.ensures))

pub rescan-requires-clause-snapshot_blocks : goal.rescan-requires-clause-snapshot_blocks
rescan-requires-clause-snapshot_blocks g c =
    c.requires.ready.exact.snapshot_room
    ∙ sym (unsnapped_blocks (g.R.Region.memory c.args.parts.now.region) _ c.requires.ready.well_formed (sym c.has_second.ensures ∙ c.if-not-has_second.false) c.drop_snapshot.ensures)

pub rescan-requires-clause-pending : goal.rescan-requires-clause-pending
rescan-requires-clause-pending g c =
    c.requires.pending
    ∙ ap (λ n. 64 * n) (sym (unsnapped_blocks (g.R.Region.memory c.args.parts.now.region) _ c.requires.ready.well_formed (sym c.has_second.ensures ∙ c.if-not-has_second.false) c.drop_snapshot.ensures))
