use Rattle.std.proofs.Common.{ap, arith, drop, take}
use Rattle.pm_epochs.specs.Log.{epoch_stores}
use Rattle.pm_region.proofs.EpochLaws.{barriers-prefix, epoch_start-taken, stores-at}
use Rattle.bp_replay.proofs.choices.stores_before.Goals as goal

pub start_of_epoch-i-requires : goal.start_of_epoch-i-requires
start_of_epoch-i-requires g c = omega (arith, c.requires.begun, barriers-prefix c.args.moment (g.R.Region.memory c.args.region.now).events)

pub loop-i-init : goal.loop-i-init
loop-i-init g c =
    let events = (g.R.Region.memory c.args.region.now).events in
    let moment = c.args.moment in
    let epoch = c.args.epoch in
    record {
      within = omega (arith, c.start_of_epoch-i.ensures, epoch_start-taken moment epoch events c.requires.begun);
      few = omega arith;
      so_far = omega (
        arith,
        ap (λ n. epoch_stores 0 (drop n (take moment events))) c.start_of_epoch-i.ensures,
        stores-at moment epoch events c.requires.begun,
      );
    }
