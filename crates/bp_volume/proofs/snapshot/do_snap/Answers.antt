use Rattle.std.proofs.Common.{refl}
use Rattle.bp_volume.proofs.SnapLaws.{exact_snapped, snapshot_snapped}
use Rattle.bp_volume.proofs.snapshot.do_snap.Goals as goal

pub returns-clause-exact : goal.returns-clause-exact
returns-clause-exact g c = exact_snapped (g.R.Region.memory c.args.parts.now.region) _ c.requires.ready.well_formed c.in_ok-may_snap.ensures.version c.in_ok-may_snap.ensures.none c.store_snapshot.ensures
    c.args.parts.now c.requires.ready.exact c.requires.ready.snapshot_blocks (record c.args.parts.now { region = c.store_snapshot.new.region; snapshot_blocks = c.fill_others.new.others }) refl refl refl c.fill_others.ensures

pub returns-clause-snapshot_blocks : goal.returns-clause-snapshot_blocks
returns-clause-snapshot_blocks g c = snapshot_snapped (g.R.Region.memory c.args.parts.now.region) _ c.requires.ready.well_formed c.in_ok-may_snap.ensures.version c.in_ok-may_snap.ensures.none c.store_snapshot.ensures
    c.args.parts.now c.requires.ready.exact c.requires.ready.snapshot_blocks (record c.args.parts.now { region = c.store_snapshot.new.region; snapshot_blocks = c.fill_others.new.others }) refl refl refl c.fill_others.ensures
